use Rattle.std.proofs.Common.{◌∙◌, ap, sym, arith}
use Rattle.amqp_rules.specs.Talk.{is_open_link}
use Rattle.amqp_outgoing.specs.Marks.{left_in}
use Rattle.amqp_engine.proofs.Obeying.{obeyed-stays}
use Rattle.amqp_engine.proofs.wire.Wire.command.Goals as goal

pub invariant_of-self : goal.invariant_of-self
invariant_of-self c =
    let t = c.self.inside.session in
    let s = obeyed-stays c.command.result c.args.command t c.command.new.self c.command.ensures.ok c.command.ensures.err in (
      λ now. c.self.invariant.0 (sym (ap is_open_link s.link) ∙ now) ∙ sym (ap left_in s.committed),
      c.self.invariant.1 ∙ sym s.capacity,
      c.self.invariant.2 ∙ sym s.capacity,
      omega (arith, s.capacity, c.self.invariant.3),
    )
