use Rattle.std.proofs.Common.{ℕ, List, ◌+◌, Some, sym, ap, ◌∙◌, arith}
use Rattle.amqp_types.specs.Reading.{octets_at}
use Rattle.amqp_frame.proofs.Windows.{window, window_split}
use Rattle.amqp_frame.proofs.read.cursor.Cursor.octets.Goals as goal

pub returns-clause-reads : goal.returns-clause-reads
returns-clause-reads g c =
    let s = c.self.inside in
    ap (octets_at g.row.N) (sym c.self.view_is)
    ∙ window_split (g.V.View.bytes s.view.now) s.at s.end g.row.N (omega (arith, c.if-self.false)) c.self.invariant.1
    ∙ ap (λ (octets : List ℕ). Some (octets, window (g.V.View.bytes s.view.now) (s.at + g.row.N) s.end))
    (sym c.octets_of-octets.ensures)
