use Rattle.std.proofs.Common.{◌≡◌, ◌∙◌, ap, sym, refl, subst, List, ℕ, true, Some, is_some, IsSome}
use Rattle.std.specs.Ordering.{nat_cmp}
use Rattle.std.specs.Map.{set_value}
use Rattle.std.specs.BTreeMap.{BTreeMap, is_at}
use Rattle.std.specs.Option.{option_copied_mut}
use Rattle.amqp_answers.specs.declared.promises.Slot.{Slot}
use Rattle.amqp_answers.specs.declared.promises.Slot.TheVariants.{Answered}
use Rattle.amqp_outbox.specs.Order.{seen}
use Rattle.amqp_answers.specs.Sharing.{waits, suits}
use Rattle.amqp_answers.specs.Seen.{slot_seen}
use Rattle.amqp_maps.specs.Listed.{at}
use Rattle.amqp_types.proofs.Small.{if_case}
use Rattle.amqp_maps.proofs.Maps.{still-there}
use Rattle.amqp_answers.proofs.Seen.{answer-seen, settle-none}
use Rattle.amqp_answers.proofs.Holding.{counted-set, less-held, seen-held}
use Rattle.amqp_answers.proofs.Losses.{awaited-same, suits-same, suits-updated}
use Rattle.amqp_answers.proofs.promises.Promises.settle.Goals as goal

pub settle-requires : goal.settle-requires
settle-requires c n =
    let self = c.args.self.now in
    less-held c.args.number n c.in-Some.slot.now self.slots.entries self.errors.errors.entries self.counted (sym c.in-Some.ensures.value)

pub invariant_of-self : goal.invariant_of-self
invariant_of-self c =
    let self = c.args.self.now in
    let n = c.args.number in
    let es = self.slots.entries in
    let errors = self.errors.errors.entries in
    let s = c.in-Some.slot.now in
    let there : at n es ≡ Some s = sym c.in-Some.ensures.value in
    let same = awaited-same errors c.settle.new.errors.errors.entries c.settle.ensures.errors in
    let fits : suits errors (Some c.settle.new.self) n ≡ true =
    ap (λ (x : Slot). suits errors (Some x) n) c.settle.ensures.slot
    ∙ if_case (λ (x : Slot). suits errors (Some x) n ≡ true) (waits errors s) (Answered c.args.answer) s refl
    (ap (λ o. suits errors o n) (sym there) ∙ self.suited n) in
    record {
      counted =
          counted-set n es _ errors _ self.counted s c.settle.new.self there
          (c.get_mut.follows.holds c.settle.new.self).0 c.settle.ensures.holders;
      awaited = λ m. same m ∙ self.awaited m;
      suited =
          suits-same (c.get_mut.follows.lender c.settle.new.self).entries errors c.settle.new.errors.errors.entries same
          (suits-updated n (Some c.settle.new.self) es _ errors ((c.get_mut.follows.holds c.settle.new.self).3 (ap is_some there)).0 fits self.suited);
    }

pub returns-in-Some-clause-slots : goal.returns-in-Some-clause-slots
returns-in-Some-clause-slots c =
    let n = c.args.number in
    let es = c.args.self.now.slots.entries in
    let errors = c.args.self.now.errors.errors.entries in
    seen-held (c.get_mut.follows.lender c.settle.new.self).entries errors c.settle.new.errors.errors.entries (λ m h. c.settle.ensures.errors m)
    ∙ ap (seen (slot_seen errors))
    ((c.get_mut.follows.holds c.settle.new.self).0 ∙ ap (set_value (is_at (nat_cmp n)) es) c.settle.ensures.slot)
    ∙ answer-seen errors n c.args.answer es c.get_mut.ensures.ordered (Answered c.args.answer) refl c.in-Some.slot.now (sym c.in-Some.ensures.value)

pub returns-in-None-clause-slots : goal.returns-in-None-clause-slots
returns-in-None-clause-slots c =
    let es = c.args.self.now.slots.entries in
    let errors = c.args.self.now.errors.errors.entries in
    ap (λ (m : BTreeMap ℕ Slot). seen (slot_seen errors) m.entries) c.get_mut.follows.holds-at-none
    ∙ settle-none errors c.args.number c.args.answer es c.get_mut.ensures.ordered (sym c.get_mut.ensures.value ∙ ap option_copied_mut c.in-None.is)

pub returns-in-Some-clause-place : goal.returns-in-Some-clause-place
returns-in-Some-clause-place c h =
    let self = c.args.self.now in
    let P : List (ℕ × Slot) → Type 0 = λ x. IsSome (at self.made x) in
    (subst P (sym (c.get_mut.follows.holds c.settle.new.self).0) (still-there c.args.number self.made c.settle.new.self self.slots.entries h.0), h.1)

pub returns-in-None-clause-place : goal.returns-in-None-clause-place
returns-in-None-clause-place c h =
    let self = c.args.self.now in
    let P : BTreeMap ℕ Slot → Type 0 = λ m. IsSome (at self.made m.entries) in
    (subst P (sym c.get_mut.follows.holds-at-none) h.0, h.1)
