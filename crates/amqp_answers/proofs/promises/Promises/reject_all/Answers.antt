use Rattle.std.proofs.Common.{◌≡◌, ◌∙◌, ap, sym, ℕ, ◌==◌, ◌&&◌, if◌then◌else◌, false, Some}
use Rattle.amqp_promise.specs.declared.error.ErrorKind.{ErrorKind}
use Rattle.amqp_answers.specs.Settled.{rejected_all}
use Rattle.amqp_answers.specs.Sharing.{shared_at, is_error_awaited, holders_at, is_loss_number}
use Rattle.amqp_answers.specs.Seen.{promised}
use Rattle.amqp_answers.proofs.Holding.{seen-kept, kept-gone}
use Rattle.amqp_answers.proofs.Losses.{awaited-gone, suits-fewer, known-lost, none-lost, none-awaited, seen-lost}
use Rattle.amqp_answers.proofs.promises.Promises.reject_all.Goals as goal

pub invariant_of-self : goal.invariant_of-self
invariant_of-self c =
    let self = c.args.self.now in
    let errors = self.errors.errors.entries in
    let filled = c.fill.new.self.errors.entries in
    let left = c.tidy.new.self.errors.entries in
    let number = c.in-Some.number in
    let known : (n : ℕ) → shared_at n filled ≡ (if is_error_awaited n errors then Some (Some c.into.result) else shared_at n errors) =
    known-lost number c.into.result errors filled (λ n. self.awaited n ∙ ap (λ l. is_loss_number l n) (sym c.in-Some.ensures.value)) c.fill.ensures.errors in
    let none : (n : ℕ) → is_error_awaited n left ≡ false =
    λ n. awaited-gone (λ k. number == k && holders_at k filled == 0) filled left c.tidy.ensures.errors n
    ∙ none-awaited c.into.result errors filled known n in
    record {
      counted = λ n. c.tidy.ensures.holders n ∙ c.fill.ensures.holders n ∙ self.counted n;
      awaited = λ n. none n ∙ sym (ap (λ l. is_loss_number l n) c.take.ensures.after);
      suited = suits-fewer self.slots.entries errors left (λ n h. let k = none n in absurd cc) self.suited;
    }

pub returns-in-Some-clause-slots : goal.returns-in-Some-clause-slots
returns-in-Some-clause-slots c =
    let self = c.args.self.now in
    let es = self.slots.entries in
    let errors = self.errors.errors.entries in
    let filled = c.fill.new.self.errors.entries in
    let left = c.tidy.new.self.errors.entries in
    let number = c.in-Some.number in
    let known : (n : ℕ) → shared_at n filled ≡ (if is_error_awaited n errors then Some (Some c.into.result) else shared_at n errors) =
    known-lost number c.into.result errors filled (λ n. self.awaited n ∙ ap (λ l. is_loss_number l n) (sym c.in-Some.ensures.value)) c.fill.ensures.errors in
    seen-kept es filled left (λ n. c.tidy.ensures.holders n ∙ c.fill.ensures.holders n ∙ self.counted n)
    (kept-gone number filled left c.tidy.ensures.errors c.tidy.ensures.holders)
    ∙ seen-lost c.into.result errors filled known es c.len.ensures.ordered self.suited
    ∙ ap (λ (e : ErrorKind). rejected_all e (promised self)) c.into.ensures

pub returns-in-None-clause-slots : goal.returns-in-None-clause-slots
returns-in-None-clause-slots c =
    let self = c.args.self.now in
    let errors = self.errors.errors.entries in
    seen-lost c.args.kind errors errors (none-lost self.loss c.args.kind errors (sym c.in-None.ensures.value) self.awaited)
    self.slots.entries c.len.ensures.ordered self.suited
