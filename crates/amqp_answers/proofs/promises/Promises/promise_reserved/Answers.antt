use Rattle.std.proofs.Common.{◌≡◌, ◌∙◌, ap, sym, ℕ, ◌+◌, ◌-◌, true, None, Some, is_some}
use Rattle.std.specs.Ordering.{nat_cmp}
use Rattle.std.specs.Map.{set_value}
use Rattle.std.specs.BTreeMap.{is_at}
use Rattle.amqp_outbox.specs.Order.{seen}
use Rattle.amqp_outbox.proofs.Seen.{set-seen}
use Rattle.amqp_answers.specs.declared.promises.Slot.{Slot}
use Rattle.amqp_maps.specs.Listed.{at}
use Rattle.amqp_answers.specs.Sharing.{holders_at, holds, is_error_awaited, suits, new_slot, AreCounted}
use Rattle.amqp_answers.specs.Seen.{slot_seen}
use Rattle.amqp_answers.proofs.Holding.{few-hold, counted-anew, seen-kept, seen-held}
use Rattle.amqp_answers.proofs.Losses.{awaited-same, suits-same, suits-updated, suits-new, seen-new}
use Rattle.amqp_answers.proofs.promises.Promises.promise_reserved.Goals as goal

pub new_slot-slot-requires : goal.new_slot-slot-requires
new_slot-slot-requires c =
    let self = c.args.self.now in
    record {
      awaited = self.awaited;
      few = λ n. few-hold n self.slots.entries self.errors.errors.entries self.counted (rw (sym c.len.ensures.len) c.len.ensures.small);
    }

pub invariant_of-self : goal.invariant_of-self
invariant_of-self c =
    let self = c.args.self.now in
    let n = self.made in
    let es = self.slots.entries in
    let errors = self.errors.errors.entries in
    let held = c.new_slot-slot.new.errors.errors.entries in
    let left = c.let_go_of.new.errors.errors.entries in
    let slot = c.replace-old.new.self in
    let there : at n es ≡ Some c.in-Some.place.now = sym c.in-Some.ensures.value in
    let same : (k : ℕ) → is_error_awaited k left ≡ is_error_awaited k errors =
    λ k. c.let_go_of.ensures.awaited k ∙ awaited-same errors held c.new_slot-slot.ensures.errors k in
    let fits : suits errors (Some slot) n ≡ true =
    ap (λ (x : Slot). suits errors (Some x) n) (c.replace-old.ensures.is ∙ c.new_slot-slot.ensures.slot) ∙ suits-new n self.loss errors c.requires.place.1 in
    record {
      counted =
          counted-anew n es _ errors left self.counted c.in-Some.place.now slot c.replace-old.result there
          (c.get_mut.follows.holds slot).0 c.replace-old.ensures.was
          (λ k. c.let_go_of.ensures.holders k ∙ ap (λ h. h - holds k c.replace-old.result)
          (c.new_slot-slot.ensures.holders k ∙ ap (λ (x : Slot). holders_at k errors + holds k x) (sym c.replace-old.ensures.is)));
      awaited = λ k. same k ∙ self.awaited k;
      suited =
          suits-same (c.get_mut.follows.lender slot).entries errors left same
          (suits-updated n (Some slot) es _ errors ((c.get_mut.follows.holds slot).3 (ap is_some there)).0 fits self.suited);
    }

pub returns-in-Some-clause-slots : goal.returns-in-Some-clause-slots
returns-in-Some-clause-slots c =
    let self = c.args.self.now in
    let n = self.made in
    let es = self.slots.entries in
    let errors = self.errors.errors.entries in
    let held = c.new_slot-slot.new.errors.errors.entries in
    let left = c.let_go_of.new.errors.errors.entries in
    let slot = c.replace-old.new.self in
    let there : at n es ≡ Some c.in-Some.place.now = sym c.in-Some.ensures.value in
    let es' = (c.get_mut.follows.lender slot).entries in
    let counted : AreCounted es' left =
    counted-anew n es es' errors left self.counted c.in-Some.place.now slot c.replace-old.result there
    (c.get_mut.follows.holds slot).0 c.replace-old.ensures.was
    (λ k. c.let_go_of.ensures.holders k ∙ ap (λ h. h - holds k c.replace-old.result)
    (c.new_slot-slot.ensures.holders k ∙ ap (λ (x : Slot). holders_at k errors + holds k x) (sym c.replace-old.ensures.is))) in
    seen-kept es' held left counted c.let_go_of.ensures.kept
    ∙ seen-held es' errors held (λ k h. c.new_slot-slot.ensures.errors k)
    ∙ ap (seen (slot_seen errors))
    ((c.get_mut.follows.holds slot).0 ∙ ap (set_value (is_at (nat_cmp n)) es) (c.replace-old.ensures.is ∙ c.new_slot-slot.ensures.slot))
    ∙ set-seen (slot_seen errors) n c.in-Some.place.now (new_slot n self.loss) None es (seen-new n self.loss errors self.awaited) there c.get_mut.ensures.ordered
