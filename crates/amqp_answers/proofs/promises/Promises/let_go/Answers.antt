use Rattle.std.proofs.Common.{◌∙◌, ◌==◌, ◌&&◌}
use Rattle.amqp_answers.specs.Sharing.{shared_at, unheld, holders_at}
use Rattle.amqp_answers.proofs.Holding.{seen-kept, kept-gone}
use Rattle.amqp_answers.proofs.Reasons.{reason-gone}
use Rattle.amqp_answers.proofs.Losses.{awaited-gone, suits-same}
use Rattle.amqp_answers.proofs.promises.Promises.let_go.Goals as goal

pub invariant_of-self : goal.invariant_of-self
invariant_of-self c =
    let self = c.args.self.now in
    let errors = self.errors.errors.entries in
    let errors' = c.tidy.new.self.errors.entries in
    let same = awaited-gone (λ n. c.args.why.number == n && holders_at n errors == 0) errors errors' c.tidy.ensures.errors in
    record {
      counted = λ n. c.tidy.ensures.holders n ∙ self.counted n;
      awaited = λ n. same n ∙ self.awaited n;
      suited = suits-same self.slots.entries errors errors' same self.suited;
    }

pub returns-clause-slots : goal.returns-clause-slots
returns-clause-slots c =
    let self = c.args.self.now in
    let errors = self.errors.errors.entries in
    let errors' = c.tidy.new.self.errors.entries in
    seen-kept self.slots.entries errors errors' (λ n. c.tidy.ensures.holders n ∙ self.counted n)
    (kept-gone c.args.why.number errors errors' c.tidy.ensures.errors c.tidy.ensures.holders)

pub returns-clause-whys : goal.returns-clause-whys
returns-clause-whys c other e differ kept =
    let errors = c.args.self.now.errors.errors.entries in
    reason-gone c.args.why other (holders_at other.number errors == 0) (unheld (shared_at other.number errors)) e errors c.tidy.new.self.errors.entries differ
    (c.tidy.ensures.errors other.number) kept
