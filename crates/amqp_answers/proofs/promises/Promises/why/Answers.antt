use Rattle.std.proofs.Common.{◌∙◌, Some}
use Rattle.amqp_answers.proofs.Holding.{seen-kept, kept-come}
use Rattle.amqp_answers.proofs.Reasons.{reason-come}
use Rattle.amqp_answers.proofs.Losses.{awaited-put, suits-same}
use Rattle.amqp_answers.proofs.promises.Promises.why.Goals as goal

pub invariant_of-self : goal.invariant_of-self
invariant_of-self c =
    let self = c.args.self.now in
    let errors = self.errors.errors.entries in
    let errors' = c.put.new.self.errors.entries in
    let same = awaited-put c.put.result c.into.result errors errors' c.put.ensures.fresh c.put.ensures.errors c.put.ensures.err in
    record {
      counted = λ n. c.put.ensures.holders n ∙ self.counted n;
      awaited = λ n. same n ∙ self.awaited n;
      suited = suits-same self.slots.entries errors errors' same self.suited;
    }

pub returns-clause-slots : goal.returns-clause-slots
returns-clause-slots c =
    let self = c.args.self.now in
    let errors = self.errors.errors.entries in
    let errors' = c.put.new.self.errors.entries in
    seen-kept self.slots.entries errors errors' (λ n. c.put.ensures.holders n ∙ self.counted n)
    (kept-come c.in_ok-put.field-0 (Some c.into.result) errors errors' c.in_ok-put.ensures.fresh c.in_ok-put.ensures.errors c.put.ensures.holders)

pub returns-clause-whys : goal.returns-clause-whys
returns-clause-whys c other e kept =
    reason-come c.in_ok-put.field-0 other.number e (Some c.into.result) c.args.self.now.errors.errors.entries c.put.new.self.errors.entries
    c.in_ok-put.ensures.fresh (c.in_ok-put.ensures.errors other.number) kept
