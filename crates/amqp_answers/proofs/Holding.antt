-- Promises that share errors: these are counted, and what is held is seen as before.
use Rattle.std.proofs.Common.{◌≡◌, ◌∙◌, ap, sym, refl, subst, ℕ, ◌+◌, ◌-◌, ◌≤◌, ◌<◌, ◌^◌, ◌==◌, ◌&&◌, arith, Bool, true, false, if◌then◌else◌, List, [], ◌∷◌, length, Option, Some, None, option_map, unwrap_or, Result, Ok, Err, OnOk, OnErr}
use Rattle.std.proofs.lemmas.Bool.Decides.{nat_tests}
use Rattle.std.specs.Ordering.{nat_cmp}
use Rattle.std.specs.Cmp.{nat_cmp_total}
use Rattle.std.specs.List.{sum_by}
use Rattle.std.specs.Map.{keys_of, values_of, set_value}
use Rattle.std.specs.BTreeMap.{is_at}
use Rattle.std.proofs.lemmas.List.Sums.{sum_by-cons}
use Rattle.std.proofs.lemmas.Map.Entries.{sum_by-insert_entry, sum_by-set_value, sum_by-remove_entry}
use Rattle.amqp_outbox.specs.Order.{seen, seen_first}
use Rattle.amqp_types.proofs.Small.{the-number}
use Rattle.amqp_outbox.proofs.Seen.{Sorted}
use Rattle.amqp_answers.specs.declared.answer.Answer.{Answer}
use Rattle.amqp_promise.specs.declared.error.ErrorKind.{ErrorKind}
use Rattle.amqp_answers.specs.declared.shared_errors.SharedError.{SharedError}
use Rattle.amqp_answers.specs.declared.promises.Slot.{Slot}
use Rattle.amqp_answers.specs.declared.promises.Slot.TheVariants.{Place, Waiting, Answered, Shared}
use Rattle.amqp_maps.specs.Listed.{at, put, without}
use Rattle.amqp_answers.specs.Sharing.{shared_at, unheld, holders_at, holds, holds_any, AreCounted, KeepsHeld}
use Rattle.amqp_answers.specs.Seen.{slot_seen}

abbrev pub Slots : Type 0
Slots = List (ℕ × Slot)

abbrev pub Errors : Type 0
Errors = List (ℕ × SharedError)

-- ---- what a slot holds

pub one-held : (n : ℕ) → 1 ≤ holds n (Shared n)
one-held n = by (n == n) (grind (arith, nat_tests)) where
  by : (b : Bool) → b ≡ true → 1 ≤ (if b then 1 else 0)
  by true is = omega arith
  by false is = absurd cc

-- a slot that is seen with other errors, where the one that it holds is the same
slot-kept : (s : Slot) (errors errors' : Errors) → ((n : ℕ) → 1 ≤ holds n s → shared_at n errors' ≡ shared_at n errors)
    → slot_seen errors' s ≡ slot_seen errors s
slot-kept Place errors errors' same = refl
slot-kept Waiting errors errors' same = refl
slot-kept (Answered a) errors errors' same = refl
slot-kept (Shared n) errors errors' same =
    ap (λ (o : Option (Option ErrorKind)). option_map (option_map (λ (e : ErrorKind). refused e)) o) (same n (one-held n))
  where
    refused : ErrorKind → Result Answer ErrorKind
    refused e = Err e

sum-more : (n : ℕ) (e : ℕ × Slot) (es : Slots) → sum_by (holds n) (values_of (e ∷ es)) ≡ holds n e.1 + sum_by (holds n) (values_of es)
sum-more n e es = sum_by-cons (holds n) e.1 (values_of es)

-- promises that are seen with other errors
pub seen-held : (es : Slots) (errors errors' : Errors) → ((n : ℕ) → 1 ≤ sum_by (holds n) (values_of es) → shared_at n errors' ≡ shared_at n errors)
    → seen (slot_seen errors') es ≡ seen (slot_seen errors) es
seen-held [] errors errors' same = refl
seen-held (e ∷ es) errors errors' same =
    let first : slot_seen errors' e.1 ≡ slot_seen errors e.1 =
    slot-kept e.1 errors errors' (λ n h. same n (let more = sum-more n e es in omega (arith, h, more))) in
    let rest = seen-held es errors errors' (λ n h. same n (let more = sum-more n e es in omega (arith, h, more))) in
    ap (λ o. seen_first e.0 o (seen (slot_seen errors') es)) first ∙ ap (seen_first e.0 (slot_seen errors e.1)) rest

-- the same, where those that are held are kept
pub seen-kept : (es : Slots) (errors errors' : Errors) → AreCounted es errors' → KeepsHeld errors errors'
    → seen (slot_seen errors') es ≡ seen (slot_seen errors) es
seen-kept es errors errors' counted kept =
    seen-held es errors errors' (λ n h. kept n (let k = counted n in omega (arith, h, k)))

-- ---- errors that come and go

-- what comes is held by none
pub kept-come : (number : ℕ) (e : Option ErrorKind) (errors errors' : Errors) → at number errors ≡ None
    → ((n : ℕ) → shared_at n errors' ≡ (if number == n then Some e else shared_at n errors))
    → ((n : ℕ) → holders_at n errors' ≡ holders_at n errors) → KeepsHeld errors errors'
kept-come number e errors errors' fresh is holders n held = by (number == n) refl where
  by : (b : Bool) → (number == n) ≡ b → shared_at n errors' ≡ shared_at n errors
  by true test =
      let none : holders_at n errors ≡ 0 =
      ap (λ m. holders_at m errors) (sym (the-number number n test)) ∙ ap (λ o. unwrap_or (option_map (λ (s : SharedError). s.holders) o) 0) fresh in
      let same = holders n in absurd (omega (arith, held, none, same))
  by false test = is n ∙ ap (λ b. if b then Some e else shared_at n errors) test

kept-where : {X : Type 0} (b : Bool) (held : ℕ) (x y : X) → 1 ≤ held → (if b && (held == 0) then x else y) ≡ y
kept-where false held x y h = refl
kept-where true held x y h = let some : (held == 0) ≡ false = grind (arith, nat_tests, h) in ap (λ t. if t then x else y) some

-- an error that goes is held by none
pub kept-gone : (number : ℕ) (errors errors' : Errors)
    → ((n : ℕ) → shared_at n errors' ≡ (if number == n && holders_at n errors == 0 then unheld (shared_at n errors) else shared_at n errors))
    → ((n : ℕ) → holders_at n errors' ≡ holders_at n errors) → KeepsHeld errors errors'
kept-gone number errors errors' is holders n held =
    let same = holders n in
    is n ∙ kept-where (number == n) (holders_at n errors) (unheld (shared_at n errors)) (shared_at n errors) (omega (arith, held, same))

-- ---- counting

one-at-most : (n : ℕ) (s : Slot) → holds n s ≤ 1
one-at-most n Place = omega arith
one-at-most n Waiting = omega arith
one-at-most n (Answered a) = omega arith
one-at-most n (Shared k) = by (k == n) where
  by : (b : Bool) → (if b then 1 else 0) ≤ 1
  by true = omega arith
  by false = omega arith

at-most : (n : ℕ) (es : Slots) → sum_by (holds n) (values_of es) ≤ length es
at-most n [] = omega arith
at-most n (e ∷ es) =
    let one = one-at-most n e.1 in let rest = at-most n es in let more = sum-more n e es in omega (arith, one, rest, more)

-- there are fewer promises than a count can tell
pub few-hold : (n : ℕ) (es : Slots) (errors : Errors) → AreCounted es errors → length es < 2 ^ 63 → holders_at n errors + 1 < 2 ^ 64
few-hold n es errors counted few = let some = at-most n es in let is = counted n in omega (arith, few, some, is)

-- what a promise holds is among what all hold
pub less-held : (n k : ℕ) (s : Slot) (es : Slots) (errors : Errors) → AreCounted es errors → at n es ≡ Some s → holds k s ≤ holders_at k errors
less-held n k s es errors counted there =
    let sums = sum_by-set_value (holds k) (is_at (nat_cmp n)) es s Waiting there in
    let c = counted k in omega (arith, sums, c)

module _ (n : ℕ) (es es' : Slots) (errors errors' : Errors) (counted : AreCounted es errors) where
  abbrev sum : ℕ → Slots → ℕ
  sum k slots = sum_by (holds k) (values_of slots)

  -- a promise is put in the place of what was there
  pub counted-put : (s : Slot) → Sorted (keys_of es) → es' ≡ put n s es → ((k : ℕ) → holds k s ≡ 0)
      → ((k : ℕ) → holders_at k errors' ≡ holders_at k errors - holds_any k (at n es))
      → AreCounted es' errors'
  counted-put s sorted is none holders k =
      let now : sum k es' ≡ sum k (put n s es) = ap (sum k) is in
      let sums : sum k (put n s es) + holds_any k (at n es) ≡ sum k es + holds k s = sum_by-insert_entry (holds k) nat_cmp_total es n s sorted in
      let h = holders k in let c : holders_at k errors ≡ sum k es = counted k in let z = none k in
      let goal : holders_at k errors' ≡ sum k es' = omega (arith, now, sums, h, c, z) in goal

  -- a promise goes
  pub counted-without : es' ≡ without n es
      → ((k : ℕ) → holders_at k errors' ≡ holders_at k errors - holds_any k (at n es))
      → AreCounted es' errors'
  counted-without is holders k =
      let now : sum k es' ≡ sum k (without n es) = ap (sum k) is in
      let sums : sum k (without n es) + holds_any k (at n es) ≡ sum k es = sum_by-remove_entry (holds k) (is_at (nat_cmp n)) es in
      let h = holders k in let c : holders_at k errors ≡ sum k es = counted k in
      let goal : holders_at k errors' ≡ sum k es' = omega (arith, now, sums, h, c) in goal

  -- a promise changes
  pub counted-set : (s s' : Slot) → at n es ≡ Some s → es' ≡ set_value (is_at (nat_cmp n)) es s'
      → ((k : ℕ) → holders_at k errors' + holds k s ≡ holders_at k errors + holds k s')
      → AreCounted es' errors'
  counted-set s s' there is holders k =
      let now : sum k es' ≡ sum k (set_value (is_at (nat_cmp n)) es s') = ap (sum k) is in
      let sums : sum k (set_value (is_at (nat_cmp n)) es s') + holds k s ≡ sum k es + holds k s' = sum_by-set_value (holds k) (is_at (nat_cmp n)) es s s' there in
      let h = holders k in let c : holders_at k errors ≡ sum k es = counted k in
      let goal : holders_at k errors' ≡ sum k es' = omega (arith, now, sums, h, c) in goal

  -- a promise that is made takes its place
  pub counted-anew : (s s' was : Slot) → at n es ≡ Some s → es' ≡ set_value (is_at (nat_cmp n)) es s' → was ≡ s
      → ((k : ℕ) → holders_at k errors' ≡ (holders_at k errors + holds k s') - holds k was)
      → AreCounted es' errors'
  counted-anew s s' was there is same holders =
      counted-set s s' there is (λ k.
      let less = less-held n k s es errors counted there in
      let h = holders k in
      let old : holds k was ≡ holds k s = ap (holds k) same in
      omega (arith, less, h, old))

-- a place that is made, where memory for it may be refused
pub counted-placed : {O E : Type 0} (r : Result O E) (n : ℕ) (es es' : Slots) (errors : Errors) → AreCounted es errors → Sorted (keys_of es) → at n es ≡ None
    → OnOk r (es' ≡ put n Place es) → OnErr r (es' ≡ es) → AreCounted es' errors
counted-placed (Ok old) n es es' errors counted sorted none ok err =
    counted-put n es es' errors errors counted Place sorted ok (λ k. refl)
    (λ k. let z : holds_any k (at n es) ≡ 0 = ap (holds_any k) none in omega (arith, z))
counted-placed (Err e) n es es' errors counted sorted none ok err =
    subst (λ (slots : Slots). AreCounted slots errors) (sym err) counted
