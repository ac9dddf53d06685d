-- What the calls of a lane keep: that its numbers are those of what waits, and that places come after.
use Rattle.std.proofs.Common.{◌≡◌, ◌∙◌, ap, sym, refl, subst, ℕ, ◌+◌, ◌<◌, ◌≤◌, ◌==◌, if◌then◌else◌, List, [], ◌∷◌, ◌++◌, Option, Some, None, Result, Ok, Err, OnOk, OnErr}
use Rattle.std.specs.Prelude.{drop, find}
use Rattle.std.specs.List.{AllByRecursion}
use Rattle.std.specs.declared.cmp.Ordering.{Ordering}
use Rattle.std.specs.declared.cmp.Ordering.TheVariants.{Less, Equal, Greater}
use Rattle.std.specs.Ordering.{nat_cmp, match_ordering}
use Rattle.std.specs.Map.{keys_of, values_of, set_value}
use Rattle.std.specs.BTreeMap.{is_at}
use Rattle.amqp_outbox.specs.declared.numbers.Queue.{Queue}
use Rattle.amqp_outbox.specs.Lists.{head, without_first, is_the_number}
use Rattle.amqp_outbox.specs.Listed.{at, put, without}
use Rattle.amqp_outbox.specs.Order.{seen_at, held, waiting, listed, has_key, numbers_under, IsHeldBelow, IsSoundLane}
use Rattle.amqp_outbox.proofs.Cases.{equal-from}
use Rattle.amqp_types.proofs.Small.{not-below}
use Rattle.amqp_outbox.proofs.Maps.{all-without}
use Rattle.amqp_outbox.proofs.Seen.{Sorted, at-seen, put-unseen, without-seen}
use Rattle.amqp_outbox.proofs.Lanes.{held-pushed, all-pushed, all-given, none-waits, values-pushed, numbers-pushed}
use Rattle.amqp_outbox.proofs.Taking.{Takes, takes, all-numbers, all-head, sorted-held, none-taken, none-left_out}

abbrev Slots : Type 0 → Type 0
Slots X = List (ℕ × Option X)

abbrev Lists : Type 0
Lists = List (ℕ × Queue)

all-put : {Y : Type 0} (P : ℕ × Y → Type 0) (n : ℕ) (y : Y) (es : List (ℕ × Y)) → P (n, y) → AllByRecursion P es → AllByRecursion P (put n y es)
all-put P n y [] one all = (one, tt)
all-put P n y (e ∷ es) one all = by (nat_cmp n e.0) refl (all-put P n y es one all.1) where
  by : (r : Ordering) → nat_cmp n e.0 ≡ r → AllByRecursion P (put n y es) → AllByRecursion P (match_ordering r ((n, y) ∷ e ∷ es) ((e.0, y) ∷ es) (e ∷ put n y es))
  by Less is rest = (one, all)
  by Equal is rest = (subst (λ m. P (m, y)) (equal-from n e.0 is) one, all.1)
  by Greater is rest = (all.0, rest)

module _ {X : Type 0} (key_of : X → Option ℕ) where
  module _ (made : ℕ) (es : Slots X) (ls : Lists) (sound : IsSoundLane key_of made es ls) where
    -- ---- a place that is made

    pub waits-placed : (n : ℕ) (es' : Slots X) → at n es ≡ None → es' ≡ put n None es → held es' ≡ held es
    waits-placed n es' none is = ap held is ∙ put-unseen (λ o. o) n None es refl none

    pub sound-placed : (n : ℕ) (es' : Slots X) → made ≤ n → at n es ≡ None → es' ≡ put n None es → IsSoundLane key_of made es' ls
    sound-placed n es' from none is = (
      subst (AllByRecursion (IsHeldBelow made)) (sym is) (all-put (IsHeldBelow made) n None es (sym (not-below n made from)) sound.0),
      λ k. sound.1 k ∙ sym (ap (numbers_under key_of k) (waits-placed n es' none is)),
    )

    -- a place is made, or its memory was refused
    pub sound-inserted : {A E : Type 0} (r : Result A E) (n : ℕ) (es' : Slots X) → made ≤ n → at n es ≡ None → OnOk r (es' ≡ put n None es) → OnErr r (es' ≡ es)
        → IsSoundLane key_of made es' ls
    sound-inserted (Ok x) n es' from none ok err = sound-placed n es' from none ok
    sound-inserted (Err e) n es' from none ok err = subst (λ s. IsSoundLane key_of made s ls) (sym err) sound

    -- ---- a thing that is pushed

    module _ (v : X) (o : Option X) (es' : Slots X) (sorted : Sorted (keys_of es)) (there : at made es ≡ Some o)
        (is : es' ≡ set_value (is_at (nat_cmp made)) es (Some v)) where
      pub waits-pushed : waiting es' ≡ waiting es ++ v ∷ []
      waits-pushed =
          ap values_of (ap held is ∙ held-pushed made v o es sound.0 sorted there) ∙ values-pushed (held es) made v

      pub sound-pushed : (ls' : Lists) → ((k : ℕ) → listed k ls' ≡ (if is_the_number k (key_of v) then listed k ls ++ made ∷ [] else listed k ls))
          → IsSoundLane key_of (made + 1) es' ls'
      sound-pushed ls' lists = (
        subst (AllByRecursion (IsHeldBelow (made + 1))) (sym is) (all-pushed made v es sound.0 sorted),
        λ k. lists k
            ∙ ap (λ l. if is_the_number k (key_of v) then l ++ made ∷ [] else l) (sound.1 k)
            ∙ sym (ap (numbers_under key_of k) (ap held is ∙ held-pushed made v o es sound.0 sorted there) ∙ numbers-pushed key_of k made v (held es)),
      )

    -- ---- the first slot, which is taken out

    module _ (n : ℕ) (es' : Slots X) (sorted : Sorted (keys_of es)) (is : es ≡ (n, None) ∷ es') where
      whole : AllByRecursion (IsHeldBelow made) ((n, None) ∷ es')
      whole = subst (AllByRecursion (IsHeldBelow made)) is sound.0

      -- a place, after which nothing waits
      pub none-held-first : held es ≡ []
      none-held-first = ap held is ∙ none-waits made (n, None) es' whole (subst (λ s. Sorted (keys_of s)) is sorted) refl

      pub none-held-then : held es' ≡ []
      none-held-then = none-waits made (n, None) es' whole (subst (λ s. Sorted (keys_of s)) is sorted) refl

    -- ---- the first thing of a key

    module _ (k n : ℕ) (sorted : Sorted (keys_of es)) (first : Some n ≡ head (listed k ls)) where
      taken : Takes key_of k n (held es)
      taken = takes key_of k n (held es) (sorted-held es sorted) (sym (first ∙ ap head (sound.1 k)))

      -- its number was given
      pub taken-below : n < made
      taken-below =
          all-head key_of (λ m. m < made) n (numbers_under key_of k (held es)) (all-numbers key_of (λ m. m < made) k (held es) (all-given made es sound.0)) (sym (first ∙ ap head (sound.1 k)))

      pub found : seen_at (λ o. o) (at n es) ≡ find (has_key key_of k) (waiting es)
      found = sym (at-seen (λ o. o) n es sorted) ∙ taken.there

      out : (es' : Slots X) → es' ≡ without n es → held es' ≡ without n (held es)
      out es' is = ap held is ∙ without-seen (λ o. o) n es sorted

      pub waits-without : (es' : Slots X) → es' ≡ without n es → waiting es' ≡ without_first (has_key key_of k) (waiting es)
      waits-without es' is = ap values_of (out es' is) ∙ taken.rest

      pub sound-without : (es' : Slots X) (ls' : Lists) → es' ≡ without n es
          → ((j : ℕ) → listed j ls' ≡ (if k == j then drop 1 (listed j ls) else listed j ls)) → IsSoundLane key_of made es' ls'
      sound-without es' ls' is lists = (
        subst (AllByRecursion (IsHeldBelow made)) (sym is) (all-without (IsHeldBelow made) n es sound.0),
        λ j. lists j
            ∙ ap (λ l. if k == j then drop 1 l else l) (sound.1 j)
            ∙ sym (ap (numbers_under key_of j) (out es' is) ∙ taken.numbers j),
      )

    -- where a key has no number, nothing of it waits
    module _ (k : ℕ) (none : None ≡ head (listed k ls)) where
      pub none-found : find (has_key key_of k) (waiting es) ≡ None
      none-found = none-taken key_of k (held es) (sym (none ∙ ap head (sound.1 k)))

      pub none-out : without_first (has_key key_of k) (waiting es) ≡ waiting es
      none-out = none-left_out (has_key key_of k) (waiting es) none-found
