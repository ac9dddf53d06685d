use Rattle.std.proofs.Common.{◌∙◌, ap, rules}
use Rattle.amqp_ring.specs.Ring.{filled}
use Rattle.amqp_ring.proofs.Rings.{filled_ring}
use Rattle.amqp_ring.proofs.buffer.Buffer.fill.Goals as goal

pub returns-clause-filled : goal.returns-clause-filled
returns-clause-filled c =
    let b = c.self.inside in
    filled_ring b.memory.items b.position b.kept c.self.invariant.0 c.self.invariant.1
    c.args.count c.min-count.result (search rules)
    ∙ ap (filled c.args.count) c.self.view_is
