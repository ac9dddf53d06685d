-- The error by which the link will be lost: it alone is awaited, each promise that waits shares it, but that of the
-- connection, and once it is known these are rejected.
use Rattle.std.proofs.Common.{◌≡◌, ◌∙◌, ap, sym, refl, subst, ℕ, zero, suc, ◌==◌, not, arith, Bool, true, false, cond, if◌then◌else◌, List, [], ◌∷◌, Option, Some, None, is_some, IsSome, option_map, unwrap_or, Result, Ok, Err, IfOk, OnOk, OnErr}
use Rattle.std.proofs.lemmas.Bool.Decides.{nat_tests}
use Rattle.std.specs.Option.{is_none}
use Rattle.std.specs.declared.cmp.Ordering.{Ordering}
use Rattle.std.specs.declared.cmp.Ordering.TheVariants.{Less, Equal, Greater}
use Rattle.std.specs.Ordering.{nat_cmp, is_eq}
use Rattle.std.specs.Cmp.{nat_cmp_total, eq_by_cmp_equiv}
use Rattle.std.specs.Map.{keys_of}
use Rattle.std.specs.BTreeMap.{is_at}
use Rattle.std.proofs.lemmas.Map.{lookup-none}
use Rattle.std.proofs.lemmas.Map.Entries.{none_past_head}
use Rattle.std.proofs.lemmas.Map.Keys.{IsDistinct-from_sorted, sorted_tail}
use Rattle.amqp_outbox.specs.Order.{seen, seen_first}
use Rattle.amqp_outbox.proofs.Cases.{equal-from}
use Rattle.amqp_types.proofs.Small.{the-number, nat_cmp_self}
use Rattle.amqp_outbox.proofs.Seen.{Sorted}
use Rattle.amqp_answers.specs.declared.answer.Answer.{Answer}
use Rattle.amqp_promise.specs.declared.error.ErrorKind.{ErrorKind}
use Rattle.amqp_answers.specs.declared.shared_errors.SharedError.{SharedError}
use Rattle.amqp_answers.specs.declared.promises.Slot.{Slot}
use Rattle.amqp_answers.specs.declared.promises.Slot.TheVariants.{Place, Waiting, Answered, Shared}
use Rattle.amqp_maps.specs.Listed.{at}
use Rattle.amqp_answers.specs.Settled.{rejected_slot, rejected_all}
use Rattle.amqp_answers.specs.Sharing.{shared_at, error_at, is_error_awaited, unheld, holders_at, is_loss_number, suits, new_slot, AreCounted, AwaitsLoss, AllSuit}
use Rattle.amqp_answers.specs.Seen.{slot_seen}
use Rattle.amqp_answers.proofs.Holding.{Slots, Errors, less-held, one-held}

-- ---- what is awaited

-- what is kept is awaited
abbrev waits_in : Option (Option ErrorKind) → Bool
waits_in o = unwrap_or (option_map is_none o) false

-- where what is kept is the same, the same is awaited
pub awaited-same : (errors errors' : Errors) → ((n : ℕ) → shared_at n errors' ≡ shared_at n errors) → (n : ℕ) → is_error_awaited n errors' ≡ is_error_awaited n errors
awaited-same errors errors' same n = ap waits_in (same n)

-- an error that goes was not awaited
pub awaited-gone : (test : ℕ → Bool) (errors errors' : Errors)
    → ((n : ℕ) → shared_at n errors' ≡ (if test n then unheld (shared_at n errors) else shared_at n errors))
    → (n : ℕ) → is_error_awaited n errors' ≡ is_error_awaited n errors
awaited-gone test errors errors' is n = ap waits_in (is n) ∙ by (test n) (shared_at n errors) where
  by : (b : Bool) (o : Option (Option ErrorKind)) → waits_in (if b then unheld o else o) ≡ waits_in o
  by false o = refl
  by true None = refl
  by true (Some None) = refl
  by true (Some (Some e)) = refl

-- what comes is awaited, where it is no error yet
awaited-come : (number : ℕ) (e : Option ErrorKind) (errors errors' : Errors)
    → ((n : ℕ) → shared_at n errors' ≡ (if number == n then Some e else shared_at n errors))
    → (n : ℕ) → is_error_awaited n errors' ≡ (if number == n then is_none e else is_error_awaited n errors)
awaited-come number e errors errors' is n = ap waits_in (is n) ∙ by (number == n) where
  by : (b : Bool) → waits_in (if b then Some e else shared_at n errors) ≡ (if b then is_none e else is_error_awaited n errors)
  by true = refl
  by false = refl

-- an error that comes under a number which is not kept is not awaited
awaited-why : (number : ℕ) (e : ErrorKind) (errors errors' : Errors) → at number errors ≡ None
    → ((n : ℕ) → shared_at n errors' ≡ (if number == n then Some (Some e) else shared_at n errors))
    → (n : ℕ) → is_error_awaited n errors' ≡ is_error_awaited n errors
awaited-why number e errors errors' fresh is n = awaited-come number (Some e) errors errors' is n ∙ by (number == n) refl where
  by : (b : Bool) → (number == n) ≡ b → (if b then false else is_error_awaited n errors) ≡ is_error_awaited n errors
  by false test = refl
  by true test =
      sym (ap (λ m. is_error_awaited m errors) (sym (the-number number n test))
      ∙ ap (λ (o : Option SharedError). waits_in (option_map (λ (s : SharedError). s.error) o)) fresh)

-- the same, where memory for it may be refused
pub awaited-put : {E : Type 0} (r : Result ℕ E) (e : ErrorKind) (errors errors' : Errors) → IfOk r (λ number. at number errors ≡ None)
    → IfOk r (λ number. (n : ℕ) → shared_at n errors' ≡ (if number == n then Some (Some e) else shared_at n errors))
    → OnErr r (errors' ≡ errors) → (n : ℕ) → is_error_awaited n errors' ≡ is_error_awaited n errors
awaited-put (Ok number) e errors errors' fresh is same n = awaited-why number e errors errors' fresh is n
awaited-put (Err refused) e errors errors' fresh is same n = ap (is_error_awaited n) same

-- the error by which the link will be lost comes
pub awaits-come : (loss : Option ℕ) (number : ℕ) (errors errors' : Errors) → is_some loss ≡ false → AwaitsLoss loss errors
    → ((n : ℕ) → shared_at n errors' ≡ (if number == n then Some None else shared_at n errors)) → AwaitsLoss (Some number) errors'
awaits-come (Some k) number errors errors' none awaits is n = absurd cc
awaits-come None number errors errors' none awaits is n = awaited-come number None errors errors' is n ∙ by (number == n) where
  by : (b : Bool) → (if b then true else is_error_awaited n errors) ≡ b
  by true = refl
  by false = awaits n

-- ---- promises that suit their numbers

-- what waits for fewer errors suits as before
pub suits-fewer : (es : Slots) (errors errors' : Errors) → ((n : ℕ) → is_error_awaited n errors' ≡ true → is_error_awaited n errors ≡ true) → AllSuit es errors → AllSuit es errors'
suits-fewer es errors errors' fewer suit n = by (at n es) n (suit n) where
  shared : (b b' : Bool) → (b' ≡ true → b ≡ true) → not b ≡ true → not b' ≡ true
  shared b false less h = refl
  shared false true less h = absurd (let k : false ≡ true = less refl in cc)
  shared true true less h = h

  by : (o : Option Slot) (m : ℕ) → suits errors o m ≡ true → suits errors' o m ≡ true
  by None m h = refl
  by (Some Place) m h = refl
  by (Some Waiting) zero h = refl
  by (Some Waiting) (suc m) h = h
  by (Some (Answered a)) m h = refl
  by (Some (Shared k)) zero h = shared (is_error_awaited k errors) (is_error_awaited k errors') (fewer k) h
  by (Some (Shared k)) (suc m) h = refl

-- the same, where the same is awaited
pub suits-same : (es : Slots) (errors errors' : Errors) → ((n : ℕ) → is_error_awaited n errors' ≡ is_error_awaited n errors) → AllSuit es errors → AllSuit es errors'
suits-same es errors errors' same = suits-fewer es errors errors' (λ n h. sym (same n) ∙ h)

-- no promise shares what comes
pub suits-come : (number : ℕ) (es : Slots) (errors errors' : Errors) → at number errors ≡ None → AreCounted es errors
    → ((n : ℕ) → shared_at n errors' ≡ (if number == n then Some None else shared_at n errors)) → AllSuit es errors → AllSuit es errors'
suits-come number es errors errors' fresh counted is suit n = by (at n es) n refl (suit n) where
  unheld-there : holders_at number errors ≡ 0
  unheld-there = ap (λ o. unwrap_or (option_map (λ (s : SharedError). s.holders) o) 0) fresh

  shared : (k : ℕ) (b : Bool) → (number == k) ≡ b → at n es ≡ Some (Shared k) → not (is_error_awaited k errors) ≡ true
      → not (if b then true else is_error_awaited k errors) ≡ true
  shared k false test there h = h
  shared k true test there h =
      let held = less-held n k (Shared k) es errors counted there in
      let one = one-held k in
      let none : holders_at k errors ≡ 0 = ap (λ m. holders_at m errors) (sym (the-number number k test)) ∙ unheld-there in
      absurd (omega (arith, held, one, none))

  by : (o : Option Slot) (m : ℕ) → at n es ≡ o → suits errors o m ≡ true → suits errors' o m ≡ true
  by None m there h = refl
  by (Some Place) m there h = refl
  by (Some Waiting) zero there h = refl
  by (Some Waiting) (suc m) there h = h
  by (Some (Answered a)) m there h = refl
  by (Some (Shared k)) zero there h =
      ap not (awaited-come number None errors errors' is k) ∙ shared k (number == k) refl there h
  by (Some (Shared k)) (suc m) there h = refl

-- a promise changes, comes or goes
pub suits-updated : (n : ℕ) (o : Option Slot) (es es' : Slots) (errors : Errors)
    → ((m : ℕ) → at m es' ≡ cond (is_at (nat_cmp n) m) o (at m es)) → suits errors o n ≡ true → AllSuit es errors → AllSuit es' errors
suits-updated n o es es' errors is suit all m = ap (λ x. suits errors x m) (is m) ∙ by (nat_cmp n m) refl where
  by : (r : Ordering) → nat_cmp n m ≡ r → suits errors (cond (is_eq r) o (at m es)) m ≡ true
  by Less test = all m
  by Greater test = all m
  by Equal test = ap (suits errors o) (sym (equal-from n m test)) ∙ suit

-- a place that is made, where memory for it may be refused
pub suits-placed : {O E : Type 0} (r : Result O E) (n : ℕ) (es es' : Slots) (errors : Errors)
    → OnOk r ((m : ℕ) → at m es' ≡ cond (is_at (nat_cmp n) m) (Some Place) (at m es)) → OnErr r (es' ≡ es)
    → AllSuit es errors → AllSuit es' errors
suits-placed (Ok old) n es es' errors ok err all = suits-updated n (Some Place) es es' errors ok refl all
suits-placed (Err e) n es es' errors ok err all = subst (λ (slots : Slots). AllSuit slots errors) (sym err) all

-- a promise that is made suits its number
pub suits-new : (n : ℕ) (loss : Option ℕ) (errors : Errors) → IsSome loss → suits errors (Some (new_slot n loss)) n ≡ true
suits-new zero loss errors there = refl
suits-new (suc n) None errors there = absurd cc
suits-new (suc n) (Some k) errors there = refl

-- it waits
pub seen-new : (n : ℕ) (loss : Option ℕ) (errors : Errors) → AwaitsLoss loss errors → slot_seen errors (new_slot n loss) ≡ Some None
seen-new zero loss errors awaits = refl
seen-new (suc n) None errors awaits = refl
seen-new (suc n) (Some k) errors awaits = by (shared_at k errors) (awaits k ∙ grind (arith, nat_tests)) where
  told : ErrorKind → Result Answer ErrorKind
  told x = Err x

  by : (o : Option (Option ErrorKind)) → waits_in o ≡ true → option_map (option_map told) o ≡ Some None
  by None h = absurd cc
  by (Some None) h = refl
  by (Some (Some e)) h = absurd cc

-- an error that is kept suits every promise
pub suits-error : (k n : ℕ) (errors : Errors) → is_some (error_at k errors) ≡ true → suits errors (Some (Shared k)) n ≡ true
suits-error k zero errors kept = by (shared_at k errors) kept where
  by : (o : Option (Option ErrorKind)) → is_some (unwrap_or o None) ≡ true → not (waits_in o) ≡ true
  by None h = absurd cc
  by (Some None) h = absurd cc
  by (Some (Some e)) h = refl
suits-error k (suc n) errors kept = refl

-- ---- the link is lost

later-there : (n : ℕ) (e : ℕ × Slot) (es : Slots) (s : Slot) → Sorted (keys_of (e ∷ es)) → at n es ≡ Some s → at n (e ∷ es) ≡ Some s
later-there n e es s sorted there = by (is_at (nat_cmp n) e.0) refl where
  by : (b : Bool) → is_at (nat_cmp n) e.0 ≡ b → cond b (Some e.1) (at n es) ≡ Some s
  by false test = there
  by true test =
      let none : at n es ≡ None =
      lookup-none (is_at (nat_cmp n)) es
      (none_past_head (eq_by_cmp_equiv nat_cmp_total) n e es (IsDistinct-from_sorted nat_cmp (keys_of (e ∷ es)) sorted) test) in
      absurd cc

suits-later : (e : ℕ × Slot) (es : Slots) (errors : Errors) → Sorted (keys_of (e ∷ es)) → AllSuit (e ∷ es) errors → AllSuit es errors
suits-later e es errors sorted all n = by (at n es) refl where
  by : (o : Option Slot) → at n es ≡ o → suits errors o n ≡ true
  by None there = refl
  by (Some s) there = ap (λ o. suits errors o n) (sym (later-there n e es s sorted there)) ∙ all n

module _ (e : ErrorKind) (errors errors' : Errors)
    (known : (n : ℕ) → shared_at n errors' ≡ (if is_error_awaited n errors then Some (Some e) else shared_at n errors)) where
  abbrev told : ErrorKind → Result Answer ErrorKind
  told x = Err x

  slot-lost : (s : Slot) (n : ℕ) → suits errors (Some s) n ≡ true → slot_seen errors' s ≡ option_map (rejected_slot e n) (slot_seen errors s)
  slot-lost Place n suit = refl
  slot-lost Waiting zero suit = refl
  slot-lost Waiting (suc n) suit = absurd cc
  slot-lost (Answered a) zero suit = refl
  slot-lost (Answered a) (suc n) suit = refl
  slot-lost (Shared k) zero suit = ap (option_map (option_map told)) (known k) ∙ by (shared_at k errors) suit where
    by : (o : Option (Option ErrorKind)) → not (waits_in o) ≡ true
        → option_map (option_map told) (if waits_in o then Some (Some e) else o) ≡ option_map (rejected_slot e zero) (option_map (option_map told) o)
    by None h = refl
    by (Some None) h = absurd cc
    by (Some (Some x)) h = refl
  slot-lost (Shared k) (suc n) suit = ap (option_map (option_map told)) (known k) ∙ by (shared_at k errors) where
    by : (o : Option (Option ErrorKind))
        → option_map (option_map told) (if waits_in o then Some (Some e) else o) ≡ option_map (rejected_slot e (suc n)) (option_map (option_map told) o)
    by None = refl
    by (Some None) = refl
    by (Some (Some x)) = refl

  first-lost : (n : ℕ) (o : Option (Option (Result Answer ErrorKind))) (ps : List (ℕ × Option (Result Answer ErrorKind)))
      → seen_first n (option_map (rejected_slot e n) o) (rejected_all e ps) ≡ rejected_all e (seen_first n o ps)
  first-lost n None ps = refl
  first-lost n (Some p) ps = refl

  -- the promises are rejected, once the error is known that was awaited
  pub seen-lost : (es : Slots) → Sorted (keys_of es) → AllSuit es errors → seen (slot_seen errors') es ≡ rejected_all e (seen (slot_seen errors) es)
  seen-lost [] sorted all = refl
  seen-lost (x ∷ es) sorted all =
      let first : suits errors (Some x.1) x.0 ≡ true =
      ap (λ r. suits errors (cond (is_eq r) (Some x.1) (at x.0 es)) x.0) (sym (nat_cmp_self x.0)) ∙ all x.0 in
      ap (λ o. seen_first x.0 o (seen (slot_seen errors') es)) (slot-lost x.1 x.0 first)
      ∙ ap (seen_first x.0 (option_map (rejected_slot e x.0) (slot_seen errors x.1)))
      (seen-lost es (sorted_tail nat_cmp x.0 (keys_of es) sorted) (suits-later x es errors sorted all))
      ∙ first-lost x.0 (slot_seen errors x.1) (seen (slot_seen errors) es)

  -- and nothing is awaited any more
  pub none-awaited : (n : ℕ) → is_error_awaited n errors' ≡ false
  none-awaited n = ap waits_in (known n) ∙ by (shared_at n errors) where
    by : (o : Option (Option ErrorKind)) → waits_in (if waits_in o then Some (Some e) else o) ≡ false
    by None = refl
    by (Some None) = refl
    by (Some (Some x)) = refl

-- the error by which the link is lost is the one that was awaited
pub known-lost : (number : ℕ) (e : ErrorKind) (errors errors' : Errors) → AwaitsLoss (Some number) errors
    → ((n : ℕ) → shared_at n errors' ≡ (if number == n then option_map (λ (o : Option ErrorKind). Some e) (shared_at n errors) else shared_at n errors))
    → (n : ℕ) → shared_at n errors' ≡ (if is_error_awaited n errors then Some (Some e) else shared_at n errors)
known-lost number e errors errors' awaits is n = is n ∙ by (number == n) (shared_at n errors) (awaits n) where
  by : (b : Bool) (o : Option (Option ErrorKind)) → waits_in o ≡ b
      → (if b then option_map (λ (x : Option ErrorKind). Some e) o else o) ≡ (if waits_in o then Some (Some e) else o)
  by false o h = sym (ap (λ b. if b then Some (Some e) else o) h)
  by true None h = absurd cc
  by true (Some None) h = refl
  by true (Some (Some x)) h = absurd cc

-- where none was awaited, all is as before
pub none-lost : (loss : Option ℕ) (e : ErrorKind) (errors : Errors) → loss ≡ None → AwaitsLoss loss errors
    → (n : ℕ) → shared_at n errors ≡ (if is_error_awaited n errors then Some (Some e) else shared_at n errors)
none-lost loss e errors none awaits n =
    sym (ap (λ b. if b then Some (Some e) else shared_at n errors) (awaits n ∙ ap (λ l. is_loss_number l n) none))
