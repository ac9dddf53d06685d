use Rattle.std.proofs.Common.{sym, ap, ◌∙◌, arith}
use Rattle.std.proofs.Common.{◌+◌, Some, ℕ}
use Rattle.amqp_types.specs.Reading.{octet_at}
use Rattle.amqp_frame.proofs.Windows.{window, window_next}
use Rattle.amqp_frame.proofs.read.cursor.Cursor.octet.Goals as goal

pub returns-clause-reads : goal.returns-clause-reads
returns-clause-reads g c =
    let s = c.self.inside in
    let bytes = g.V.View.bytes s.view.now in
    ap octet_at (sym c.self.view_is)
    ∙ window_next bytes s.at s.end (omega (arith, c.self.invariant, c.if-self.false)) c.self.invariant.1
    ∙ ap (λ (n : ℕ). Some (n, window bytes (s.at + 1) s.end)) (sym c.at-octet.ensures)
