use Rattle.std.proofs.Common.{ap, sym, ◌∙◌}
use Rattle.amqp_rules.specs.Talk.{has_ended}
use Rattle.amqp_engine.specs.Engine.{Engine}
use Rattle.amqp_hub.proofs.Keeping.{kept-frames}
use Rattle.amqp_hub.proofs.hub.Hub.take_frames.Goals as goal

pub invariant_of-self-2 : goal.invariant_of-self-2
invariant_of-self-2 c = (
  kept-frames c.args.opened c.self.inside.engine c.take_frames.new.self _ c.self.inside.journal.items c.self.inside.counts.items c.take_frames.ensures.taken c.self.invariant.0,
  λ running. c.self.invariant.1 (sym (ap (λ (x : Engine). has_ended x.talk) c.take_frames.ensures.taken) ∙ running),
)
