use Rattle.std.proofs.Common.{◌≡◌, ◌∙◌, ap, sym, refl, subst, Option, None, Some, Result, IfOk, OnErr}
use Rattle.std.specs.Option.{option_flatten}
use Rattle.amqp_answers.specs.declared.answer.Answer.{Answer}
use Rattle.amqp_promise.specs.declared.error.ErrorKind.{ErrorKind}
use Rattle.amqp_maps.specs.Listed.{at}
use Rattle.amqp_rules.specs.Talk.{Talk, end_of}
use Rattle.amqp_rules.specs.Answers.{answer_in, answer_of}
use Rattle.amqp_answers.specs.Settled.{IsRejected}
use Rattle.amqp_answers.specs.Seen.{promised}
use Rattle.amqp_session.proofs.session.Session.untaken.Goals as goal

-- a promise that does not wait has the answer that is kept
answer-kept : (ended : Option (Result (Unit {0}) ErrorKind)) (o : Option (Option (Result Answer ErrorKind))) → (o ≡ Some None → ⊥)
    → option_flatten o ≡ answer_in ended o
answer-kept ended None waits = refl
answer-kept ended (Some None) waits = absurd (waits refl)
answer-kept ended (Some (Some answer)) waits = refl

pub returns-then-waits-clause-answer : goal.returns-then-waits-clause-answer
returns-then-waits-clause-answer c =
    let n = c.args.number in
    let is : at n c.args.self.now.promises ≡ Some None =
    ap (λ (t : Talk). at n t.promises) (sym c.self.view_is) ∙ c.waits.ensures.0 c.if-waits.true in
    subst (λ o. IfOk c.rejection.result (λ answer. answer ≡ answer_in (end_of c.args.self.now) o)) (sym is) c.rejection.ensures.answer

pub returns-then-waits-clause-refused : goal.returns-then-waits-clause-refused
returns-then-waits-clause-refused c =
    let n = c.args.number in
    let is : at n c.args.self.now.promises ≡ Some None =
    ap (λ (t : Talk). at n t.promises) (sym c.self.view_is) ∙ c.waits.ensures.0 c.if-waits.true in
    subst (λ o. OnErr c.rejection.result (IsRejected (answer_in (end_of c.args.self.now) o))) (sym is) c.rejection.ensures.refused

pub returns-clause-answer : goal.returns-clause-answer
returns-clause-answer c =
    let n = c.args.number in
    let ended = end_of c.args.self.now in
    let kept = at n (promised c.self.inside.promises) in
    let is : option_flatten kept ≡ answer_of n c.args.self.now =
    answer-kept ended kept (λ h. let k = c.waits.ensures.1 h in let no = c.if-waits.false in absurd cc)
    ∙ ap (λ (t : Talk). answer_in ended (at n t.promises)) c.self.view_is in
    subst (λ o. IfOk c.answer.result (λ answer. answer ≡ o)) is c.answer.ensures.answer

pub returns-clause-refused : goal.returns-clause-refused
returns-clause-refused c =
    let n = c.args.number in
    let ended = end_of c.args.self.now in
    let kept = at n (promised c.self.inside.promises) in
    let is : option_flatten kept ≡ answer_of n c.args.self.now =
    answer-kept ended kept (λ h. let k = c.waits.ensures.1 h in let no = c.if-waits.false in absurd cc)
    ∙ ap (λ (t : Talk). answer_in ended (at n t.promises)) c.self.view_is in
    subst (λ o. OnErr c.answer.result (IsRejected o)) is c.answer.ensures.refused
