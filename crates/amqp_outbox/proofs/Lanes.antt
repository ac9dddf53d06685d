-- A lane, as what is pushed to it and what is first in it.
use Rattle.std.proofs.Common.{◌≡◌, ◌∙◌, ap, sym, refl, subst, ℕ, ◌+◌, ◌<◌, ◌≤◌, nat_lt, arith, Bool, true, false, cond, if◌then◌else◌, List, [], ◌∷◌, ◌++◌, Option, Some, None, is_some}
use Rattle.std.specs.List.{AllByRecursion, slice_get}
use Rattle.std.proofs.lemmas.Bool.Decides.{nat_tests}
use Rattle.std.specs.declared.cmp.Ordering.{Ordering}
use Rattle.std.specs.declared.cmp.Ordering.TheVariants.{Less, Equal, Greater}
use Rattle.std.specs.Ordering.{nat_cmp, is_eq}
use Rattle.std.specs.Map.{keys_of, values_of, set_value}
use Rattle.std.specs.BTreeMap.{is_at}
use Rattle.std.proofs.lemmas.Map.Keys.{sorted_head, sorted_tail}
use Rattle.std.proofs.lemmas.List.{map-append}
use Rattle.amqp_outbox.specs.Lists.{head}
use Rattle.amqp_outbox.specs.Listed.{at}
use Rattle.amqp_outbox.specs.Order.{seen_first, held, waiting, has_key, numbers_under, IsHeldBelow}
use Rattle.amqp_outbox.proofs.Cases.{below-from, from-not-below, less-from, equal-from, greater-from}
use Rattle.amqp_types.proofs.Small.{none-from, not-below}
use Rattle.amqp_outbox.proofs.Seen.{Sorted}

-- numbers from one on
abbrev From : ℕ → List ℕ → Type 0
From n ks = AllByRecursion (λ k. n ≤ k) ks

-- numbers above one
abbrev Past : ℕ → List ℕ → Type 0
Past n ks = AllByRecursion (λ k. n < k) ks

past-less : (n : ℕ) (ks : List ℕ) → AllByRecursion (λ k. nat_cmp n k ≡ Less) ks → Past n ks
past-less n [] less = tt
past-less n (k ∷ ks) less = (less-from n k less.0, past-less n ks less.1)

from-past : (n m : ℕ) (ks : List ℕ) → n ≤ m → Past m ks → From n ks
from-past n m [] h past = tt
from-past n m (k ∷ ks) h past = (omega (arith, h, past.0), from-past n m ks h past.1)

module _ {X : Type 0} (made : ℕ) where
  abbrev AllBelow : List (ℕ × Option X) → Type 0
  AllBelow es = AllByRecursion (IsHeldBelow made) es

  -- a slot from the next number on is a place
  place-from : (e : ℕ × Option X) → IsHeldBelow made e → made ≤ e.0 → e.1 ≡ None
  place-from e is from = none-from e.1 (is ∙ not-below e.0 made from)

  -- what has such numbers alone holds nothing
  pub none-held : (es : List (ℕ × Option X)) → AllBelow es → From made (keys_of es) → held es ≡ []
  none-held [] all from = refl
  none-held (e ∷ es) all from =
      ap (λ o. seen_first e.0 o (held es)) (place-from e all.0 from.0) ∙ none-held es all.1 from.1

  -- where the first slot is a place, all are
  pub all-places : (e : ℕ × Option X) (es : List (ℕ × Option X)) → AllBelow (e ∷ es) → Sorted (keys_of (e ∷ es)) → e.1 ≡ None → held es ≡ []
  all-places e es all sorted is =
      let from : made ≤ e.0 = from-not-below e.0 made (sym all.0 ∙ ap is_some is) in
      none-held es all.1 (from-past made e.0 (keys_of es) from (past-less e.0 (keys_of es) (sorted_head nat_cmp e.0 (keys_of es) sorted)))

  -- ---- a thing that is pushed

  module _ (v : X) where
    abbrev pushed : List (ℕ × Option X) → List (ℕ × Option X)
    pushed es = set_value (is_at (nat_cmp made)) es (Some v)

    before : (e : ℕ × Option X) (es : List (ℕ × Option X)) → held (pushed es) ≡ held es ++ (made, v) ∷ []
        → held (e ∷ pushed es) ≡ held (e ∷ es) ++ (made, v) ∷ []
    before e es rest = by e.1 where
      by : (o : Option X) → seen_first e.0 o (held (pushed es)) ≡ seen_first e.0 o (held es) ++ (made, v) ∷ []
      by None = rest
      by (Some x) = ap (λ xs. (e.0, x) ∷ xs) rest

    -- it goes last
    pub held-pushed : (o : Option X) (es : List (ℕ × Option X)) → AllBelow es → Sorted (keys_of es) → at made es ≡ Some o
        → held (pushed es) ≡ held es ++ (made, v) ∷ []
    held-pushed o [] all sorted there = absurd cc
    held-pushed o (e ∷ es) all sorted there =
        by (nat_cmp made e.0) refl there (λ h. before e es (held-pushed o es all.1 (sorted_tail nat_cmp e.0 (keys_of es) sorted) h)) where
          by : (r : Ordering) → nat_cmp made e.0 ≡ r → cond (is_eq r) (Some e.1) (at made es) ≡ Some o
              → (at made es ≡ Some o → held (e ∷ pushed es) ≡ held (e ∷ es) ++ (made, v) ∷ [])
              → held (cond (is_eq r) ((e.0, Some v) ∷ es) (e ∷ pushed es)) ≡ held (e ∷ es) ++ (made, v) ∷ []
          by Equal is h rest =
              let same : made ≡ e.0 = equal-from made e.0 is in
              let place : e.1 ≡ None = place-from e all.0 (omega (arith, same)) in
              let none : held es ≡ [] = all-places e es all sorted place in
              ap (λ xs. (e.0, v) ∷ xs) none
              ∙ ap (λ n. (n, v) ∷ []) (sym same)
              ∙ sym (ap (λ p. seen_first e.0 p (held es) ++ (made, v) ∷ []) place ∙ ap (λ xs. xs ++ (made, v) ∷ []) none)
          by Less is h rest = rest h
          by Greater is h rest = rest h

    to-below : (a b : ℕ) → a < b → nat_lt a b ≡ true
    to-below a b k = grind (arith, nat_tests)

    past-below : (es : List (ℕ × Option X)) → AllBelow es → Past made (keys_of es) → AllByRecursion (IsHeldBelow (made + 1)) es
    past-below [] all past = tt
    past-below (e ∷ es) all past =
        (all.0 ∙ not-below e.0 made (omega (arith, past.0)) ∙ sym (not-below e.0 (made + 1) (omega (arith, past.0))), past-below es all.1 past.1)

    other-below : (n : ℕ) (r : Ordering) → nat_cmp made n ≡ r → is_eq r ≡ false → nat_lt n made ≡ nat_lt n (made + 1)
    other-below n Equal is h = absurd cc
    other-below n Less is h =
        let past : made < n = less-from made n is in not-below n made (omega (arith, past)) ∙ sym (not-below n (made + 1) (omega (arith, past)))
    other-below n Greater is h =
        let under : n < made = greater-from made n is in to-below n made under ∙ sym (to-below n (made + 1) (omega (arith, under)))

    -- its slot holds it, and its number was given
    pub all-pushed : (es : List (ℕ × Option X)) → AllBelow es → Sorted (keys_of es) → AllByRecursion (IsHeldBelow (made + 1)) (pushed es)
    all-pushed [] all sorted = tt
    all-pushed (e ∷ es) all sorted = by (nat_cmp made e.0) refl (all-pushed es all.1 (sorted_tail nat_cmp e.0 (keys_of es) sorted)) where
      by : (r : Ordering) → nat_cmp made e.0 ≡ r → AllByRecursion (IsHeldBelow (made + 1)) (pushed es)
          → AllByRecursion (IsHeldBelow (made + 1)) (cond (is_eq r) ((e.0, Some v) ∷ es) (e ∷ pushed es))
      by Equal is rest =
          let same : made ≡ e.0 = equal-from made e.0 is in
          let past : Past made (keys_of es) =
          subst (λ n. Past n (keys_of es)) (sym same) (past-less e.0 (keys_of es) (sorted_head nat_cmp e.0 (keys_of es) sorted)) in
          (sym (to-below e.0 (made + 1) (omega (arith, same))), past-below es all.1 past)
      by Less is rest = (all.0 ∙ other-below e.0 Less is refl, rest)
      by Greater is rest = (all.0 ∙ other-below e.0 Greater is refl, rest)

  -- ---- the first slot

  -- where the first slot is a place, nothing waits
  pub none-waits : (e : ℕ × Option X) (es : List (ℕ × Option X)) → AllBelow (e ∷ es) → Sorted (keys_of (e ∷ es)) → e.1 ≡ None → held (e ∷ es) ≡ []
  none-waits e es all sorted is = ap (λ o. seen_first e.0 o (held es)) is ∙ all-places e es all sorted is

-- the first slot holds what waits first
pub first-waits : {X : Type 0} (e : ℕ × Option X) (es : List (ℕ × Option X)) (x : X) → e.1 ≡ Some x → held (e ∷ es) ≡ (e.0, x) ∷ held es
first-waits e es x is = ap (λ o. seen_first e.0 o (held es)) is

-- the first slot tells what waits first
pub head-slot : {X : Type 0} (made : ℕ) (es : List (ℕ × Option X)) (e : ℕ × Option X) → AllByRecursion (IsHeldBelow made) es → Sorted (keys_of es)
    → slice_get es 0 ≡ Some e → head (waiting es) ≡ e.1
head-slot made [] e all sorted h = absurd cc
head-slot {X} made (f ∷ es) e all sorted h = let same : f ≡ e = cc in by f.1 refl ∙ ap (λ (x : ℕ × Option X). x.1) same where
  by : (o : Option X) → f.1 ≡ o → head (waiting (f ∷ es)) ≡ f.1
  by None is = ap (λ l. head (values_of l)) (none-waits made f es all sorted is) ∙ sym is
  by (Some x) is = ap (λ l. head (values_of l)) (first-waits f es x is) ∙ sym is

-- what waits has a number that was given
pub all-given : {X : Type 0} (made : ℕ) (es : List (ℕ × Option X)) → AllByRecursion (IsHeldBelow made) es → AllByRecursion (λ k. k < made) (keys_of (held es))
all-given made [] all = tt
all-given {X} made (e ∷ es) all = by e.1 refl (all-given made es all.1) where
  by : (o : Option X) → e.1 ≡ o → AllByRecursion (λ k. k < made) (keys_of (held es)) → AllByRecursion (λ k. k < made) (keys_of (seen_first e.0 o (held es)))
  by None is rest = rest
  by (Some x) is rest = (below-from e.0 made (sym all.0 ∙ ap is_some is), rest)

-- what waits, and one more
pub values-pushed : {X : Type 0} (xs : List (ℕ × X)) (n : ℕ) (v : X) → values_of (xs ++ (n, v) ∷ []) ≡ values_of xs ++ v ∷ []
values-pushed {X} xs n v = map-append (λ (e : ℕ × X). e.1) xs ((n, v) ∷ [])

module _ {X : Type 0} (key_of : X → Option ℕ) (k n : ℕ) (v : X) where
  with_last : List ℕ → List ℕ
  with_last list = if has_key key_of k v then list ++ n ∷ [] else list

  cons-last : (m : ℕ) (b : Bool) (list : List ℕ) → m ∷ (if b then list ++ n ∷ [] else list) ≡ (if b then (m ∷ list) ++ n ∷ [] else m ∷ list)
  cons-last m true list = refl
  cons-last m false list = refl

  -- the numbers of a key, once one more thing waits
  pub numbers-pushed : (xs : List (ℕ × X))
      → numbers_under key_of k (xs ++ (n, v) ∷ []) ≡ (if has_key key_of k v then numbers_under key_of k xs ++ n ∷ [] else numbers_under key_of k xs)
  numbers-pushed [] = refl
  numbers-pushed (e ∷ es) = by (has_key key_of k e.1) (numbers-pushed es) where
    by : (b : Bool) → numbers_under key_of k (es ++ (n, v) ∷ []) ≡ (if has_key key_of k v then numbers_under key_of k es ++ n ∷ [] else numbers_under key_of k es)
        → (if b then e.0 ∷ numbers_under key_of k (es ++ (n, v) ∷ []) else numbers_under key_of k (es ++ (n, v) ∷ []))
        ≡ (if has_key key_of k v then (if b then e.0 ∷ numbers_under key_of k es else numbers_under key_of k es) ++ n ∷ [] else (if b then e.0 ∷ numbers_under key_of k es else numbers_under key_of k es))
    by true rest = ap (λ list. e.0 ∷ list) rest ∙ cons-last e.0 (has_key key_of k v) (numbers_under key_of k es)
    by false rest = rest
