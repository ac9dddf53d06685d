use Rattle.std.proofs.Common.{◌≡◌, ◌∙◌, true, length, ap, refl, sym, arith}
use Rattle.amqp_ring.specs.Ring.{Ring, capacity as room}
use Rattle.amqp_ring.proofs.Capacities.{capacity-consumed}
use Rattle.amqp_rules.specs.Talk.{Talk, is_open}
use Rattle.amqp_rules.specs.Changes.{present_at}
use Rattle.amqp_outgoing.specs.Marks.{left_in}
use Rattle.amqp_rules.specs.Writing.{taken}
use Rattle.amqp_engine.specs.Engine.{Engine}
use Rattle.amqp_rules.proofs.Keeping.{present-keeps}
use Rattle.amqp_rules.proofs.Sending.{taken-keeps, counted-taken}
use Rattle.amqp_engine.proofs.wire.Wire.wrote.Goals as goal

pub invariant_of-self-in-Took : goal.invariant_of-self-in-Took
invariant_of-self-in-Took c =
    let inside = c.self.inside in
    let n = c.taken-taken.result in
    let capacity : c.taken.new.self.capacity ≡ inside.session.capacity =
    ap (λ (t : Talk). t.capacity) c.taken.ensures
    ∙ taken-keeps (λ t. t.capacity) (record { ends = λ t s l cs ps b q ms n o ns. refl; writes = λ t w ms. refl; moments = λ t m. refl }) n (present_at c.args.at inside.session)
    ∙ present-keeps (λ t. t.capacity) c.args.at inside.session (λ m. refl) in (
      λ now.
          let opened : is_open inside.session ≡ true = ap (λ (x : Engine). is_open x.talk) c.self.view_is ∙ c.requires.open in
          let still : is_open (taken n (present_at c.args.at inside.session)) ≡ true = sym (ap is_open c.taken.ensures) ∙ now in
          let counted = counted-taken c.args.at n inside.session inside.unsent.kept opened still (c.self.invariant.0 opened) in
          omega (arith, counted, ap (λ (b : Ring). length b.kept) c.consume.ensures.consumed, ap (λ (t : Talk). left_in t.committed) c.taken.ensures),
      c.self.invariant.1 ∙ sym capacity,
      ap room c.consume.ensures.consumed ∙ capacity-consumed inside.unsent n ∙ c.self.invariant.2 ∙ sym capacity,
      omega (arith, capacity, c.self.invariant.3),
    )
