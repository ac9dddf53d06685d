use Rattle.std.proofs.Common.{sym, ap, ◌∙◌, arith}
use Rattle.amqp_types.specs.Reading.{octets_at}
use Rattle.amqp_frame.proofs.Windows.{window_split}
use Rattle.amqp_frame.proofs.read.cursor.Cursor.split.Goals as goal

pub returns-clause-reads : goal.returns-clause-reads
returns-clause-reads g c =
    let s = c.self.inside in
    ap (octets_at c.args.count) (sym c.self.view_is)
    ∙ window_split (g.V.View.bytes s.view.now) s.at s.end c.args.count
    (omega (arith, c.self.invariant, c.if-self-count.false)) c.self.invariant.1
