use Rattle.amqp_hub.proofs.Keeping.{kept-zeros}
use Rattle.amqp_hub.proofs.hub.Hub.passes.Goals as goal

pub invariant_of-self-2 : goal.invariant_of-self-2
invariant_of-self-2 c = (
  kept-zeros _ c.self.inside.engine _ c.self.inside.journal.items c.self.inside.counts.items c.numbered.new.counts.items c.in_ok-numbered.ensures.counts c.self.invariant.0,
  c.self.invariant.1,
)
