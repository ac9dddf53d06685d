use Rattle.amqp_hub.proofs.Keeping.{kept-event, over-event, made-event}
use Rattle.std.proofs.Common.{ap, sym, ◌∙◌, arith}
use Rattle.amqp_hub.specs.Guarded.{Guarded}
use Rattle.amqp_hub.proofs.hub.Hub.event.Goals as goal

pub invariant_of-self : goal.invariant_of-self
invariant_of-self c = (
  kept-event _ c.self.inside.engine c.event.new.self _ c.self.inside.journal.items c.self.inside.counts.items c.event.ensures.taken c.event.ensures.rest c.self.invariant.0,
  λ running. c.self.invariant.1 (sym (over-event _ _ _ c.event.ensures.taken) ∙ running),
)

pub returns-clause-promises : goal.returns-clause-promises
returns-clause-promises c = omega (arith, ap (λ (h : Guarded). h.engine.talk.made) c.self.view_is, made-event _ _ _ c.event.ensures.taken)
