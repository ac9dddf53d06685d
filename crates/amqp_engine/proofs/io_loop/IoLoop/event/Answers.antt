use Rattle.std.proofs.Common.{◌≡◌, ◌∙◌, inl, inr, Option, ap, sym, subst}
use Rattle.amqp_answers.specs.declared.event.Event.{Event}
use Rattle.amqp_rules.specs.Talk.{Talk}
use Rattle.amqp_rules.specs.Answers.{TakesEvent}
use Rattle.amqp_engine.specs.Engine.{Engine}
use Rattle.amqp_engine.specs.Account.{History, HasHistory, event_taken}
use Rattle.amqp_engine.proofs.LeftUnread.{event-read}
use Rattle.amqp_engine.proofs.io_loop.IoLoop.event.Goals as goal

pub invariant_of-self : goal.invariant_of-self
invariant_of-self c = (
  c.self.invariant.0,
  event-read c.event.result c.self.inside.wire c.event.new.self c.event.ensures.taken c.event.ensures.rest c.self.invariant.1,
)

-- an event was taken, or nothing changed
event-history : (given : Option Event) (e e' : Engine) (h : History) → TakesEvent given e.talk e'.talk → e' ≡ record e { talk = e'.talk } → HasHistory e h → HasHistory e' h
event-history given e e' h takes rest has =
    let Q : Engine → Type 0 = λ x. HasHistory x h in
    let here : (t : Talk) → e'.talk ≡ t → e' ≡ record e { talk = t } = λ t same. rest ∙ ap (λ (x : Talk). record e { talk = x }) same in
    elim takes [
      | inl took ↦ subst Q (sym (here _ took.1)) (event_taken has)
      | inr refused ↦ subst Q (sym (here _ refused.2)) has
    ]

pub returns-clause-carried : goal.returns-clause-carried
returns-clause-carried c h has =
    let Q : Engine → Type 0 = λ x. HasHistory x h in
    event-history c.event.result c.self.inside.wire c.event.new.self h c.event.ensures.taken c.event.ensures.rest (subst Q (sym c.self.view_is) has)
