use Rattle.std.proofs.Common.{◌≡◌, ◌∙◌, true, ap, refl, sym, arith}
use Rattle.amqp_rules.specs.Talk.{Talk, is_open, is_open_link}
use Rattle.amqp_outgoing.specs.Marks.{left_in}
use Rattle.amqp_rules.proofs.Keeping.{present-keeps}
use Rattle.amqp_engine.proofs.Obeying.{obeyed-stays}
use Rattle.amqp_engine.proofs.wire.Wire.take_command.Goals as goal

pub invariant_of-self-else-is_err : goal.invariant_of-self-else-is_err
invariant_of-self-else-is_err c =
    let t = c.self.inside.session in
    let at = c.args.at in
    let s = obeyed-stays c.command.result c.args.command c.advance.new.self c.command.new.self c.command.ensures.ok c.command.ensures.err in
    let capacity : c.command.new.self.capacity ≡ t.capacity =
    s.capacity ∙ ap (λ (y : Talk). y.capacity) c.advance.ensures ∙ present-keeps (λ y. y.capacity) at t (λ n. refl) in (
      λ now.
          let opened : is_open t ≡ true =
          sym (present-keeps is_open at t (λ n. refl)) ∙ ap is_open (sym c.advance.ensures) ∙ ap is_open_link (sym s.link) ∙ now in
          c.self.invariant.0 opened
          ∙ sym (ap left_in (s.committed ∙ ap (λ (y : Talk). y.committed) c.advance.ensures ∙ present-keeps (λ y. y.committed) at t (λ n. refl))),
      c.self.invariant.1 ∙ sym capacity,
      c.self.invariant.2 ∙ sym capacity,
      omega (arith, capacity, c.self.invariant.3),
    )
