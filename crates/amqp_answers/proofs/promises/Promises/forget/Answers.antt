use Rattle.std.proofs.Common.{◌∙◌, ap, refl, ◌-◌, None}
use Rattle.amqp_outbox.specs.Order.{seen}
use Rattle.amqp_outbox.proofs.Seen.{without-seen}
use Rattle.amqp_answers.specs.Sharing.{holders_at, holds_any}
use Rattle.amqp_answers.specs.Seen.{slot_seen}
use Rattle.amqp_answers.proofs.Holding.{counted-without, seen-kept}
use Rattle.amqp_answers.proofs.Losses.{suits-same, suits-updated}
use Rattle.amqp_answers.proofs.promises.Promises.forget.Goals as goal

pub invariant_of-self : goal.invariant_of-self
invariant_of-self c =
    let self = c.args.self.now in
    let errors = self.errors.errors.entries in
    record {
      counted =
          counted-without c.args.number self.slots.entries _ errors _ self.counted c.remove.ensures.entries
          (λ n. c.let_go_of.ensures.holders n ∙ ap (λ o. holders_at n errors - holds_any n o) c.remove.ensures.value);
      awaited = λ n. c.let_go_of.ensures.awaited n ∙ self.awaited n;
      suited =
          suits-same c.remove.new.self.entries errors c.let_go_of.new.errors.errors.entries c.let_go_of.ensures.awaited
          (suits-updated c.args.number None self.slots.entries _ errors c.remove.ensures.updates.0 refl self.suited);
    }

pub returns-clause-slots : goal.returns-clause-slots
returns-clause-slots c =
    let self = c.args.self.now in
    let errors = self.errors.errors.entries in
    seen-kept c.remove.new.self.entries errors c.let_go_of.new.errors.errors.entries
    (counted-without c.args.number self.slots.entries _ errors _ self.counted c.remove.ensures.entries
    (λ n. c.let_go_of.ensures.holders n ∙ ap (λ o. holders_at n errors - holds_any n o) c.remove.ensures.value))
    c.let_go_of.ensures.kept
    ∙ ap (seen (slot_seen errors)) c.remove.ensures.entries
    ∙ without-seen (slot_seen errors) c.args.number self.slots.entries c.len.ensures.ordered
