-- The search for a number in a range, run by run.
use Rattle.std.proofs.Common.{◌≡◌, ◌∙◌, ap, sym, refl, ℕ, zero, suc, ◌+◌, ◌-◌, ◌<◌, ◌≤◌, Bool, true, false, not, cond, List, Option, None, Some, ◌∷◌, arith, inl, inr}
use Rattle.std.proofs.lemmas.Bool.{cases_eq, cases_lt, not-false}
use Rattle.std.proofs.lemmas.List.Folds.{find-append}
use Rattle.std.specs.Prelude.{find}
use Rattle.std.specs.List.{range_with_len}
use Rattle.std.specs.Option.{option_or}
use Rattle.amqp_channels.specs.declared.channels.Channel.{Channel}
use Rattle.amqp_maps.specs.Listed.{has}
use Rattle.amqp_channels.specs.Numbering.{cycle, drawn}
use Rattle.amqp_channels.specs.Channels.{AllListed}

first-fails : (b : Bool) (n : ℕ) (o : Option ℕ) → cond b (Some n) o ≡ None → b ≡ false
first-fails true n o h = absurd cc
first-fails false n o h = refl

rest-fails : (b : Bool) (n : ℕ) (o : Option ℕ) → cond b (Some n) o ≡ None → o ≡ None
rest-fails true n o h = absurd cc
rest-fails false n o h = h

one-none : (o r : Option ℕ) → option_or o r ≡ None → o ≡ None
one-none None r h = refl
one-none (Some n) r h = absurd cc

other-none : (o r : Option ℕ) → option_or o r ≡ None → r ≡ None
other-none None r h = h
other-none (Some n) r h = absurd cc

module _ (p : ℕ → Bool) where
  range-cons : (n until : ℕ) → n < until → range_with_len n (until - n) ≡ n ∷ range_with_len (n + 1) (until - (n + 1))
  range-cons n until h =
      let k : until - n ≡ suc (until - (n + 1)) = omega arith in ap (range_with_len n) k

  step : (n until : ℕ) → n < until → find p (range_with_len n (until - n)) ≡ cond (p n) (Some n) (find p (range_with_len (n + 1) (until - (n + 1))))
  step n until h = ap (find p) (range-cons n until h)

  -- past the end nothing is found
  pub find-end : (n until : ℕ) → until ≤ n → find p (range_with_len n (until - n)) ≡ None
  find-end n until h = let k : until - n ≡ 0 = omega arith in ap (λ m. find p (range_with_len n m)) k

  -- a number that does not pass is left behind
  find-on : (n until : ℕ) → p n ≡ false → find p (range_with_len n (until - n)) ≡ find p (range_with_len (n + 1) (until - (n + 1)))
  find-on n until fails =
      elim (cases_eq (until - n) 0) [
        | inl h ↦ find-end n until (omega (arith, h)) ∙ sym (find-end (n + 1) until (omega (arith, h)))
        | inr h ↦ step n until (omega (arith, h)) ∙ ap (λ b. cond b (Some n) (find p (range_with_len (n + 1) (until - (n + 1))))) fails
      ]

  -- a run of numbers that do not pass is left behind
  pub find-past : (k n until : ℕ) → ((i : ℕ) → i < k → p (n + i) ≡ false)
      → find p (range_with_len n (until - n)) ≡ find p (range_with_len (n + k) (until - (n + k)))
  find-past zero n until fail = let same : n ≡ n + 0 = omega arith in ap (λ m. find p (range_with_len m (until - m))) same
  find-past (suc k) n until fail =
      let here : p n ≡ false = ap p (omega arith) ∙ fail 0 (omega arith) in
      let same : n + 1 + k ≡ n + suc k = omega arith in
      find-on n until here
      ∙ find-past k (n + 1) until (λ i h. let next : n + 1 + i ≡ n + suc i = omega arith in ap p next ∙ fail (suc i) (omega arith))
      ∙ ap (λ m. find p (range_with_len m (until - m))) same

  -- where no number of a range passes, none is found
  none-found : (n until : ℕ) → ((m : ℕ) → n ≤ m → m < until → p m ≡ false) → find p (range_with_len n (until - n)) ≡ None
  none-found n until fail =
      find-past (until - n) n until (λ i h. fail (n + i) (omega arith) (omega (arith, h))) ∙ find-end (n + (until - n)) until (omega arith)

  -- where none is found, no number of the range passes
  none-passes : (k n : ℕ) → find p (range_with_len n k) ≡ None → (i : ℕ) → i < k → p (n + i) ≡ false
  none-passes zero n h i lt = absurd (omega (arith, lt))
  none-passes (suc k) n h i lt =
      elim (cases_eq i 0) [
        | inl e ↦ let same : n + i ≡ n = omega (arith, e) in ap p same ∙ first-fails (p n) n (find p (range_with_len (n + 1) k)) h
        | inr ne ↦
            let same : n + i ≡ n + 1 + (i - 1) = omega (arith, ne) in
            ap p same ∙ none-passes k (n + 1) (rest-fails (p n) n (find p (range_with_len (n + 1) k)) h) (i - 1) (omega (arith, lt, ne))
      ]

  module _ (top first : ℕ) where
    abbrev later : Option ℕ
    later = find p (range_with_len first (top + 1 - first))

    abbrev earlier : Option ℕ
    earlier = find p (range_with_len 1 (first - 1))

    in_order : find p (cycle top first) ≡ option_or later earlier
    in_order = find-append p (range_with_len first (top + 1 - first)) (range_with_len 1 (first - 1))

    -- where no number up to the greatest passes, none in the cycle is found
    pub none-in-cycle : 1 ≤ first → first ≤ top → ((n : ℕ) → 1 ≤ n → n ≤ top → p n ≡ false) → find p (cycle top first) ≡ None
    none-in-cycle low high fail =
        in_order
        ∙ ap (λ o. option_or o earlier) (none-found first (top + 1) (λ m from below. fail m (omega (arith, low, from)) (omega (arith, below))))
        ∙ none-found 1 first (λ m from below. fail m from (omega (arith, below, high)))

    -- where none in the cycle is found, no number up to the greatest passes
    pub cycle-fails : find p (cycle top first) ≡ None → (n : ℕ) → 1 ≤ n → n ≤ top → p n ≡ false
    cycle-fails none n low high =
        let both : option_or later earlier ≡ None = sym in_order ∙ none in
        elim (cases_lt n first) [
          | inl below ↦
              let same : n ≡ 1 + (n - 1) = omega (arith, low) in
              ap p same ∙ none-passes (first - 1) 1 (other-none later earlier both) (n - 1) (omega (arith, below, low))
          | inr from ↦
              let same : n ≡ first + (n - first) = omega (arith, from) in
              ap p same ∙ none-passes (top + 1 - first) first (one-none later earlier both) (n - first) (omega (arith, from, high))
        ]

module _ (listed : List (ℕ × Channel)) (top first : ℕ) where
  abbrev unlisted : ℕ → Bool
  unlisted n = not (has n listed)

  -- where none is drawn, all are listed
  pub all-listed : drawn top first listed ≡ None → AllListed top listed
  all-listed none n low high = not-false (has n listed) (cycle-fails unlisted top first none n low high)

  -- and where all are listed, none is drawn
  pub none-drawn : 1 ≤ first → first ≤ top → AllListed top listed → drawn top first listed ≡ None
  none-drawn low high all = none-in-cycle unlisted top first low high (λ n from below. ap not (all n from below))
