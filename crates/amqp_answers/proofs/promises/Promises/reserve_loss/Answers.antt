use Rattle.std.proofs.Common.{◌∙◌, ap, not, None}
use Rattle.amqp_answers.proofs.Holding.{seen-kept, kept-come}
use Rattle.amqp_answers.proofs.Losses.{awaits-come, suits-come}
use Rattle.amqp_answers.proofs.promises.Promises.reserve_loss.Goals as goal

pub invariant_of-self-then-is_none : goal.invariant_of-self-then-is_none
invariant_of-self-then-is_none c =
    let self = c.args.self.now in
    let errors = self.errors.errors.entries in
    let errors' = c.put.new.self.errors.entries in
    let number = c.in_ok-put.field-0 in
    record {
      counted = λ n. c.put.ensures.holders n ∙ self.counted n;
      awaited = awaits-come self.loss number errors errors' (c.is_none.ensures ∙ ap not c.if-is_none.true) self.awaited c.in_ok-put.ensures.errors;
      suited = suits-come number self.slots.entries errors errors' c.in_ok-put.ensures.fresh self.counted c.in_ok-put.ensures.errors self.suited;
    }

pub returns-in_ok-put-clause-slots : goal.returns-in_ok-put-clause-slots
returns-in_ok-put-clause-slots c =
    let self = c.args.self.now in
    let errors = self.errors.errors.entries in
    let errors' = c.put.new.self.errors.entries in
    seen-kept self.slots.entries errors errors' (λ n. c.put.ensures.holders n ∙ self.counted n)
    (kept-come c.in_ok-put.field-0 None errors errors' c.in_ok-put.ensures.fresh c.in_ok-put.ensures.errors c.put.ensures.holders)
