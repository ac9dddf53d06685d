use Rattle.std.proofs.Common.{◌≤◌, sym, subst, List, arith}
use Rattle.amqp_outgoing.specs.declared.committed.Mark.{Mark}
use Rattle.amqp_outgoing.specs.Marks.{left_in}
use Rattle.amqp_outgoing.specs.Outgoings.{marks}
use Rattle.amqp_rules.proofs.Counting.{after_first-less}
use Rattle.amqp_session.proofs.session.Session.take_first.Goals as goal

pub invariant_of-self : goal.invariant_of-self
invariant_of-self c =
    let ms : List Mark = marks c.self.inside.outgoing in
    let less : left_in (marks c.take_first.new.self) ≤ left_in ms =
    subst (λ (x : List Mark). left_in x ≤ left_in ms) (sym c.take_first.ensures.rest) (after_first-less c.args.n ms) in
    (omega (arith, less, c.self.invariant.0), c.self.invariant.1, c.self.invariant.2, c.self.invariant.3, c.self.invariant.4, c.self.invariant.5)
