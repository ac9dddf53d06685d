use Rattle.std.proofs.Common.{◌≡◌, ◌∙◌, ap, sym, refl, None}
use Rattle.amqp_answers.specs.declared.promises.Slot.TheVariants.{Place}
use Rattle.amqp_maps.specs.Listed.{at}
use Rattle.amqp_outbox.specs.Order.{seen}
use Rattle.amqp_answers.specs.Seen.{slot_seen}
use Rattle.amqp_outbox.proofs.Cases.{on-ok}
use Rattle.amqp_maps.proofs.Maps.{at-absent}
use Rattle.amqp_answers.proofs.Holding.{counted-placed}
use Rattle.amqp_answers.proofs.Losses.{suits-placed}
use Rattle.amqp_outbox.proofs.Seen.{put-unseen}
use Rattle.amqp_answers.proofs.promises.Promises.reserve_slot.Goals as goal

pub invariant_of-self-2 : goal.invariant_of-self-2
invariant_of-self-2 c =
    let self = c.args.self.now in
    let es = self.slots.entries in
    let none : at self.made es ≡ None = at-absent self.made es (sym c.contains_key.ensures ∙ c.if-contains_key.false) in
    record {
      counted =
          counted-placed c.insert.result self.made es _ self.errors.errors.entries self.counted c.insert.ensures.was_ordered none c.insert.ensures.entries c.insert.ensures.err;
      awaited = self.awaited;
      suited = suits-placed c.insert.result self.made es _ self.errors.errors.entries (on-ok c.insert.result (λ u. u.0) c.insert.ensures.updates) c.insert.ensures.err self.suited;
    }

pub returns-clause-slots : goal.returns-clause-slots
returns-clause-slots c =
    let self = c.args.self.now in
    let es = self.slots.entries in
    let see = slot_seen self.errors.errors.entries in
    let none : at self.made es ≡ None = at-absent self.made es (sym c.contains_key.ensures ∙ c.if-contains_key.false) in
    ap (seen see) c.in_ok-insert.ensures.entries ∙ put-unseen see self.made Place es refl none
