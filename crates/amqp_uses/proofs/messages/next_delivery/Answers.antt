use Rattle.std.proofs.Common.{◌≡◌, ◌≤◌, ◌+◌, ℕ, suc, List, length, take, drop, Some, IsSome, arith, rules, subst, sym, ◌∙◌}
use Rattle.amqp_answers.specs.declared.handed.Handed.{Handed}
use Rattle.amqp_uses.specs.Messages.{IsMessage, AreBodies, announced}
use Rattle.amqp_uses.proofs.Deliveries.{announced-on, without-two, within, behind-two, message}
use Rattle.amqp_uses.proofs.messages.next_delivery.Goals as goal

pub returns-in_default-clause-found : goal.returns-in_default-clause-found
returns-in_default-clause-found c = λ n body m.
    absurd (c.in_default.not-Some (length body)
    (c.announced.ensures ∙ announced-on n c.args.frames.now (length body) m.begins))

pub returns-in_default-2-clause-found : goal.returns-in_default-2-clause-found
returns-in_default-2-clause-found c = λ n body m.
    (let frames = c.args.frames.now in
    let all = announced-on n frames (length body) m.begins in
    let first = without-two n frames in
    let size : Some (length body) ≡ Some c.in-Some.size = sym all ∙ (sym c.announced.ensures ∙ c.in-Some.is) in
    let same : length body ≡ c.in-Some.size = grind rules in
    let bodies : AreBodies body (take first.0 (drop 2 frames)) = subst (λ (fs : List Handed). AreBodies body fs) first.1 m.bodies in
    let found = c.in_ok-count.ensures.found first.0 body
    (subst (λ (fs : List Handed). AreBodies body (take first.0 fs)) (sym (behind-two frames)) bodies) same in
    subst (λ o. IsSome o) c.in_default-2.is found)

pub returns-clause-some : goal.returns-clause-some
returns-clause-some c =
    let frames = c.args.frames.now in
    let count = c.in-Some-2.count in
    let is : announced frames ≡ Some c.in-Some.size = sym c.announced.ensures ∙ c.in-Some.is in
    let whole = rw c.in-Some-2.is at c.in_ok-count.ensures.some in
    let bodies = subst (λ (fs : List Handed). AreBodies c.in-Some-2.body.items (take count fs)) (behind-two frames) whole.0 in
    let two : suc (suc count) ≡ count + 2 = omega arith in
    subst (λ (k : ℕ). IsMessage c.in-Some-2.body.items (take k frames)) two
    (message frames count c.in-Some-2.body.items c.in-Some.size is bodies whole.1)

pub returns-clause-within : goal.returns-clause-within
returns-clause-within c =
    let frames = c.args.frames.now in
    let count = c.in-Some-2.count in
    let is : announced frames ≡ Some c.in-Some.size = sym c.announced.ensures ∙ c.in-Some.is in
    let whole = rw c.in-Some-2.is at c.in_ok-count.ensures.some in
    let among : count ≤ length (drop 2 frames) = subst (λ (fs : List Handed). count ≤ length fs) (behind-two frames) whole.2 in
    within frames count c.in-Some.size is among
