use Rattle.std.proofs.Common.{◌≡◌, ◌⊎◌, ◌∙◌, inl, inr, ℕ, Option, Result, ap, sym, subst}
use Rattle.amqp_promise.specs.declared.error.ErrorKind.{ErrorKind}
use Rattle.amqp_answers.specs.declared.answer.Answer.{Answer}
use Rattle.amqp_rules.specs.Talk.{Talk}
use Rattle.amqp_rules.specs.Answers.{Takes}
use Rattle.amqp_engine.specs.Engine.{Engine}
use Rattle.amqp_engine.specs.Account.{History, add_answer, HasHistory, answer_taken}
use Rattle.amqp_engine.proofs.io_loop.IoLoop.answer.Goals as goal

-- an answer was taken, or nothing changed
answer-history : (number : ℕ) (given : Option (Result Answer ErrorKind)) (e e' : Engine) (h : History) → Takes number given e.talk e'.talk → e' ≡ record e { talk = e'.talk }
    → HasHistory e h → (e' ≡ e) ⊎ HasHistory e' (add_answer number e h)
answer-history number given e e' h takes rest has =
    let Q : Engine → Type 0 = λ x. HasHistory x (add_answer number e h) in
    let here : (t : Talk) → e'.talk ≡ t → e' ≡ record e { talk = t } = λ t same. rest ∙ ap (λ (x : Talk). record e { talk = x }) same in
    elim takes [
      | inl took ↦ inr (subst Q (sym (here _ took.1)) (answer_taken number has))
      | inr refused ↦ inl (here _ refused.2)
    ]

pub returns-clause-carried : goal.returns-clause-carried
returns-clause-carried c h has =
    let P : Engine → Type 0 = λ x. HasHistory x h → (c.answer.new.self ≡ x) ⊎ HasHistory c.answer.new.self (add_answer c.args.number x h) in
    subst P c.self.view_is
    (answer-history c.args.number c.answer.result c.self.inside.wire c.answer.new.self h c.answer.ensures.taken c.answer.ensures.rest) has
