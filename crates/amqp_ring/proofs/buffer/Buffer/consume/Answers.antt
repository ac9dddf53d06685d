use Rattle.std.proofs.Common.{◌∙◌, ap, rules}
use Rattle.amqp_ring.specs.Ring.{consumed}
use Rattle.amqp_ring.proofs.Rings.{consumed_ring}
use Rattle.amqp_ring.proofs.buffer.Buffer.consume.Goals as goal

pub returns-clause-consumed : goal.returns-clause-consumed
returns-clause-consumed c =
    let b = c.self.inside in
    consumed_ring b.memory.items b.position b.kept c.self.invariant.0 c.self.invariant.1
    c.args.count c.min-count.result c.step_on-self-inside.result
    c.min-count.ensures (search rules)
    ∙ ap (consumed c.args.count) c.self.view_is
