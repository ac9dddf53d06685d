use Rattle.std.proofs.Common.{◌≡◌, ◌∙◌, ap, refl, ◌-◌, Some, Err}
use Rattle.amqp_outbox.specs.Order.{seen}
use Rattle.amqp_outbox.proofs.Seen.{put-seen}
use Rattle.amqp_promise.specs.declared.error.ErrorKind.{ErrorKind}
use Rattle.amqp_answers.specs.declared.promises.Slot.TheVariants.{Answered}
use Rattle.amqp_answers.specs.Sharing.{holders_at, holds_any}
use Rattle.amqp_answers.specs.Seen.{slot_seen}
use Rattle.amqp_answers.proofs.Holding.{counted-put, seen-kept}
use Rattle.amqp_answers.proofs.Losses.{suits-same, suits-updated}
use Rattle.amqp_answers.proofs.promises.Promises.refuse.Goals as goal

pub invariant_of-self-2 : goal.invariant_of-self-2
invariant_of-self-2 c =
    let self = c.args.self.now in
    let errors = self.errors.errors.entries in
    record {
      counted =
          counted-put self.made self.slots.entries _ errors _ self.counted (Answered (Err c.into.result)) c.insert.ensures.was_ordered c.in_ok-old.ensures.entries (λ k. refl)
          (λ k. c.let_go_of.ensures.holders k ∙ ap (λ o. holders_at k errors - holds_any k o) c.in_ok-old.ensures.old);
      awaited = λ n. c.let_go_of.ensures.awaited n ∙ self.awaited n;
      suited =
          suits-same c.insert.new.self.entries errors c.let_go_of.new.errors.errors.entries c.let_go_of.ensures.awaited
          (suits-updated self.made (Some (Answered (Err c.into.result))) self.slots.entries _ errors c.in_ok-old.ensures.updates.0 refl self.suited);
    }

pub returns-clause-slots : goal.returns-clause-slots
returns-clause-slots c =
    let self = c.args.self.now in
    let errors = self.errors.errors.entries in
    let same : c.into.result ≡ c.args.kind = c.into.ensures in
    seen-kept c.insert.new.self.entries errors c.let_go_of.new.errors.errors.entries
    (counted-put self.made self.slots.entries _ errors _ self.counted (Answered (Err c.into.result)) c.insert.ensures.was_ordered c.in_ok-old.ensures.entries (λ k. refl)
    (λ k. c.let_go_of.ensures.holders k ∙ ap (λ o. holders_at k errors - holds_any k o) c.in_ok-old.ensures.old))
    c.let_go_of.ensures.kept
    ∙ ap (seen (slot_seen errors)) c.in_ok-old.ensures.entries
    ∙ put-seen (slot_seen errors) self.made (Answered (Err c.into.result)) (Some (Err c.args.kind)) self.slots.entries
    (ap (λ (e : ErrorKind). Some (Some (Err e))) same) c.insert.ensures.was_ordered
