use Rattle.std.proofs.Common.{◌≡◌, ◌∙◌, not, true, length, ap, sym, arith}
use Rattle.amqp_rules.specs.Talk.{is_open, drops_input}
use Rattle.amqp_engine.specs.Engine.{Engine}
use Rattle.amqp_engine.specs.Making.{keeps_unread}
use Rattle.amqp_types.proofs.Small.{and-true}
use Rattle.amqp_engine.proofs.Joining.{has-room}
use Rattle.amqp_engine.proofs.wire.Wire.join.Goals as goal

pub returns-clause-some : goal.returns-clause-some
returns-clause-some c none some =
    let e = c.args.self.now in
    let t = c.self.inside.session in
    let kept : keeps_unread t ≡ true = and-true (is_open t) (not (drops_input t)) (sym c.if-not-is_open.ensures) (ap not (sym c.if-drops_input.ensures)) in
    let capacity = ap (λ (x : Engine). x.talk.capacity) c.self.view_is in
    let room = has-room e (omega (arith, capacity, c.self.invariant.3)) (ap (λ (x : Engine). keeps_unread x.talk) (sym c.self.view_is) ∙ kept) none in
    omega (arith, room, ap (λ (x : Engine). length x.unread) c.self.view_is, capacity, c.self.invariant.1, c.write.ensures.count, some)
