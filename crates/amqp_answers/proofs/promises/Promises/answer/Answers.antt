use Rattle.std.proofs.Common.{◌≡◌, ◌∙◌, ap, sym, subst, Option, Result, IfOk, OnErr}
use Rattle.std.specs.Option.{option_flatten}
use Rattle.amqp_outbox.specs.Order.{seen_at}
use Rattle.amqp_outbox.proofs.Seen.{at-seen}
use Rattle.amqp_answers.specs.declared.answer.Answer.{Answer}
use Rattle.amqp_promise.specs.declared.error.ErrorKind.{ErrorKind}
use Rattle.amqp_maps.specs.Listed.{at}
use Rattle.amqp_answers.specs.Settled.{IsRejected}
use Rattle.amqp_answers.specs.Seen.{slot_seen, promised}
use Rattle.amqp_answers.proofs.promises.Promises.answer.Goals as goal

pub returns-in-Some-clause-answer : goal.returns-in-Some-clause-answer
returns-in-Some-clause-answer c =
    let self = c.args.self.now in
    let see = slot_seen self.errors.errors.entries in
    let is : at c.args.number (promised self) ≡ see c.in-Some.slot.now =
    at-seen see c.args.number self.slots.entries c.len.ensures.ordered ∙ ap (seen_at see) (sym c.in-Some.ensures.value) in
    subst (λ (o : Option (Option (Result Answer ErrorKind))). IfOk c.answer.result (λ answer. answer ≡ option_flatten o)) (sym is) c.answer.ensures.answer

pub returns-in-Some-clause-refused : goal.returns-in-Some-clause-refused
returns-in-Some-clause-refused c =
    let self = c.args.self.now in
    let see = slot_seen self.errors.errors.entries in
    let is : at c.args.number (promised self) ≡ see c.in-Some.slot.now =
    at-seen see c.args.number self.slots.entries c.len.ensures.ordered ∙ ap (seen_at see) (sym c.in-Some.ensures.value) in
    subst (λ (o : Option (Option (Result Answer ErrorKind))). OnErr c.answer.result (IsRejected (option_flatten o))) (sym is) c.answer.ensures.refused

pub returns-in-None-clause-answer : goal.returns-in-None-clause-answer
returns-in-None-clause-answer c =
    let self = c.args.self.now in
    let see = slot_seen self.errors.errors.entries in
    sym (ap option_flatten (at-seen see c.args.number self.slots.entries c.len.ensures.ordered ∙ ap (seen_at see) (sym c.in-None.ensures.value)))
