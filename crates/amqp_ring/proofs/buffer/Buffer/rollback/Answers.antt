use Rattle.std.proofs.Common.{◌∙◌, ap, rules}
use Rattle.amqp_ring.specs.Ring.{rolled_back}
use Rattle.amqp_ring.proofs.Rings.{rolled_back_ring}
use Rattle.amqp_ring.proofs.buffer.Buffer.rollback.Goals as goal

pub returns : goal.returns
returns c =
    let b = c.self.inside in
    rolled_back_ring b.memory.items b.position b.kept c.self.invariant.0 c.self.invariant.1
    c.args.checkpoint c.min-self-inside.result (search rules)
    ∙ ap (rolled_back c.args.checkpoint) c.self.view_is
