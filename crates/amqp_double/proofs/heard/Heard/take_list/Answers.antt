use Rattle.std.proofs.Common.{◌≡◌, ◌∙◌, ◌<◌, ℕ, length, subst, arith}
use Rattle.amqp_double.proofs.Taking.{TakenSoFar, all_taken, one_refused, said_then}
use Rattle.amqp_double.proofs.heard.Heard.take_list.Goals as goal

pub returns-then-not-take-clause-heard : goal.returns-then-not-take-clause-heard
returns-then-not-take-clause-heard c =
    let less : c.loop-next.next-index < length c.args.list.now = omega (arith, c.loop-next-test.true, c.loop-next.auto.next-index-end) in
    one_refused c.args.self.now c.loop-next.self c.take.new.self c.args.list.now c.loop-next.next-index c.requires.arrived.0 c.next-item.result less c.next-item.is c.loop-next.invariant
    c.requires.arrived.1 (c.take.ensures.refusal c.if-not-take.true) (c.take.ensures.here c.if-not-take.true) c.take.ensures.same (c.take.ensures.refused c.if-not-take.true)

pub returns-clause-heard : goal.returns-clause-heard
returns-clause-heard c =
    let end : c.loop-next.next-index ≡ length c.args.list.now = omega (arith, c.loop-next-test.false, c.loop-next.auto.next-index-end) in
    all_taken c.args.self.now c.loop-next.self c.args.list.now (subst (λ (i : ℕ). TakenSoFar c.args.self.now c.loop-next.self c.args.list.now i) end c.loop-next.invariant)

pub returns-then-not-take-clause-said : goal.returns-then-not-take-clause-said
returns-then-not-take-clause-said c =
    let so = said_then c.args.self.now c.loop-next.self c.args.list.now c.loop-next.next-index c.loop-next.invariant in
    record { more = so.more; behind = c.take.ensures.unsaid c.if-not-take.true ∙ so.behind; within = so.within }

pub returns-clause-said : goal.returns-clause-said
returns-clause-said c = said_then c.args.self.now c.loop-next.self c.args.list.now c.loop-next.next-index c.loop-next.invariant
