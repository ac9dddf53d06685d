use Rattle.std.proofs.Common.{◌≡◌, ◌∙◌, ◌&&◌, ap, sym, subst, true, List, Some, Err, is_some, IsSome, ℕ}
use Rattle.std.specs.Ordering.{nat_cmp}
use Rattle.std.specs.Map.{set_value}
use Rattle.std.specs.BTreeMap.{BTreeMap, is_at}
use Rattle.std.specs.Option.{option_copied_mut}
use Rattle.amqp_outbox.specs.Order.{seen}
use Rattle.amqp_answers.specs.declared.promises.Slot.{Slot}
use Rattle.amqp_answers.specs.declared.promises.Slot.TheVariants.{Shared}
use Rattle.amqp_maps.specs.Listed.{at}
use Rattle.amqp_answers.specs.Sharing.{error_at, waits, suits}
use Rattle.amqp_answers.specs.Seen.{slot_seen}
use Rattle.amqp_types.proofs.Small.{if_by, and-right}
use Rattle.amqp_maps.proofs.Maps.{still-there}
use Rattle.amqp_answers.proofs.Seen.{error-seen, answer-where, settle-none}
use Rattle.amqp_answers.proofs.Holding.{few-hold, less-held, counted-set, seen-held}
use Rattle.amqp_answers.proofs.Reasons.{reason-none}
use Rattle.amqp_answers.proofs.Losses.{awaited-same, suits-same, suits-updated, suits-error}
use Rattle.amqp_answers.proofs.promises.Promises.settle_with.Goals as goal

pub share-requires : goal.share-requires
share-requires c =
    let self = c.args.self.now in
    record {
      few = few-hold c.args.why.now.number self.slots.entries self.errors.errors.entries self.counted (rw (sym c.len.ensures.len) c.len.ensures.small);
      held = λ n. less-held c.args.number n c.in-Some.slot.now self.slots.entries self.errors.errors.entries self.counted (sym c.in-Some.ensures.value);
    }

pub invariant_of-self : goal.invariant_of-self
invariant_of-self c =
    let self = c.args.self.now in
    let n = c.args.number in
    let es = self.slots.entries in
    let errors = self.errors.errors.entries in
    let s = c.in-Some.slot.now in
    let k = c.args.why.now.number in
    let there : at n es ≡ Some s = sym c.in-Some.ensures.value in
    let same = awaited-same errors c.share.new.errors.errors.entries c.share.ensures.errors in
    let fits : suits errors (Some c.share.new.self) n ≡ true =
    ap (λ (x : Slot). suits errors (Some x) n) c.share.ensures.slot
    ∙ if_by (λ (x : Slot). suits errors (Some x) n ≡ true) (waits errors s && is_some (error_at k errors)) (Shared k) s
    (λ both. suits-error k n errors (and-right (waits errors s) (is_some (error_at k errors)) both))
    (λ none. ap (λ o. suits errors o n) (sym there) ∙ self.suited n) in
    record {
      counted = counted-set n es _ errors _ self.counted s c.share.new.self there (c.get_mut.follows.holds c.share.new.self).0 c.share.ensures.holders;
      awaited = λ m. same m ∙ self.awaited m;
      suited =
          suits-same (c.get_mut.follows.lender c.share.new.self).entries errors c.share.new.errors.errors.entries same
          (suits-updated n (Some c.share.new.self) es _ errors ((c.get_mut.follows.holds c.share.new.self).3 (ap is_some there)).0 fits self.suited);
    }

pub returns-in-Some-clause-slots : goal.returns-in-Some-clause-slots
returns-in-Some-clause-slots c e kept =
    let self = c.args.self.now in
    let es = self.slots.entries in
    let errors = self.errors.errors.entries in
    let k = c.args.why.now.number in
    seen-held (c.get_mut.follows.lender c.share.new.self).entries errors c.share.new.errors.errors.entries (λ n h. c.share.ensures.errors n)
    ∙ ap (seen (slot_seen errors))
    ((c.get_mut.follows.holds c.share.new.self).0 ∙ ap (set_value (is_at (nat_cmp c.args.number)) es) c.share.ensures.slot)
    ∙ answer-where errors c.args.number (Err e) es c.get_mut.ensures.ordered (Shared k) (error-seen errors k e kept)
    (is_some (error_at k errors)) (ap is_some kept) c.in-Some.slot.now (sym c.in-Some.ensures.value)

pub returns-in-None-clause-slots : goal.returns-in-None-clause-slots
returns-in-None-clause-slots c e kept =
    let es = c.args.self.now.slots.entries in
    let errors = c.args.self.now.errors.errors.entries in
    ap (λ (m : BTreeMap ℕ Slot). seen (slot_seen errors) m.entries) c.get_mut.follows.holds-at-none
    ∙ settle-none errors c.args.number (Err e) es c.get_mut.ensures.ordered (sym c.get_mut.ensures.value ∙ ap option_copied_mut c.in-None.is)

pub returns-in-Some-clause-none : goal.returns-in-Some-clause-none
returns-in-Some-clause-none c gone =
    let self = c.args.self.now in
    let es = self.slots.entries in
    let errors = self.errors.errors.entries in
    let k = c.args.why.now.number in
    seen-held (c.get_mut.follows.lender c.share.new.self).entries errors c.share.new.errors.errors.entries (λ n h. c.share.ensures.errors n)
    ∙ ap (seen (slot_seen errors))
    ((c.get_mut.follows.holds c.share.new.self).0
    ∙ ap (set_value (is_at (nat_cmp c.args.number)) es) c.share.ensures.slot
    ∙ reason-none errors k c.args.number c.in-Some.slot.now es gone (sym c.in-Some.ensures.value))

pub returns-in-None-clause-none : goal.returns-in-None-clause-none
returns-in-None-clause-none c gone =
    ap (λ (m : BTreeMap ℕ Slot). seen (slot_seen c.args.self.now.errors.errors.entries) m.entries) c.get_mut.follows.holds-at-none

pub returns-in-Some-clause-place : goal.returns-in-Some-clause-place
returns-in-Some-clause-place c h =
    let self = c.args.self.now in
    let P : List (ℕ × Slot) → Type 0 = λ x. IsSome (at self.made x) in
    (subst P (sym (c.get_mut.follows.holds c.share.new.self).0) (still-there c.args.number self.made c.share.new.self self.slots.entries h.0), h.1)

pub returns-in-None-clause-place : goal.returns-in-None-clause-place
returns-in-None-clause-place c h =
    let self = c.args.self.now in
    let P : BTreeMap ℕ Slot → Type 0 = λ m. IsSome (at self.made m.entries) in
    (subst P (sym c.get_mut.follows.holds-at-none) h.0, h.1)
