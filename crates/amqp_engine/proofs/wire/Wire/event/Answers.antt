use Rattle.std.proofs.Common.{◌∙◌, ap, sym, arith}
use Rattle.amqp_rules.specs.Talk.{is_open_link}
use Rattle.amqp_outgoing.specs.Marks.{left_in}
use Rattle.amqp_engine.proofs.Obeying.{event-stays}
use Rattle.amqp_engine.proofs.wire.Wire.event.Goals as goal

pub invariant_of-self : goal.invariant_of-self
invariant_of-self c =
    let s = event-stays c.event.result c.self.inside.session c.event.new.self c.event.ensures in (
      λ now. c.self.invariant.0 (sym (ap is_open_link s.link) ∙ now) ∙ sym (ap left_in s.committed),
      c.self.invariant.1 ∙ sym s.capacity,
      c.self.invariant.2 ∙ sym s.capacity,
      omega (arith, s.capacity, c.self.invariant.3),
    )
