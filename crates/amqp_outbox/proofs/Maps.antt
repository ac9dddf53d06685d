-- Maps as lists of their entries.
use Rattle.std.proofs.Common.{◌≡◌, ◌∙◌, ap, sym, refl, ℕ, Bool, true, false, cond, List, [], ◌∷◌, Some, None}
use Rattle.std.specs.List.{AllByRecursion}
use Rattle.std.specs.declared.cmp.Ordering.{Ordering}
use Rattle.std.specs.declared.cmp.Ordering.TheVariants.{Less, Equal, Greater}
use Rattle.std.specs.Ordering.{nat_cmp, is_eq, match_ordering}
use Rattle.std.specs.Cmp.{nat_cmp_total}
use Rattle.std.specs.List.Sorted.{IsStrictlySortedBy}
use Rattle.std.specs.Map.{set_value, keys_of}
use Rattle.std.specs.BTreeMap.{is_at}
use Rattle.std.proofs.lemmas.Map.{lookup-none}
use Rattle.std.proofs.lemmas.Map.Entries.{none_below_head}
use Rattle.std.proofs.lemmas.Map.Keys.{sorted_tail}
use Rattle.amqp_outbox.specs.Listed.{at, put, without}

module _ {X : Type 0} (n : ℕ) (v old : X) where
  -- the first entry, by how the number compares to it
  put_head : (o : Ordering) (e : ℕ × X) (es : List (ℕ × X)) → nat_cmp n e.0 ≡ o → at n (e ∷ es) ≡ Some old
      → IsStrictlySortedBy nat_cmp (keys_of (e ∷ es)) → (at n es ≡ Some old → put n v es ≡ set_value (is_at (nat_cmp n)) es v)
      → put n v (e ∷ es) ≡ set_value (is_at (nat_cmp n)) (e ∷ es) v
  put_head Less e es k h sorted rest =
      let none : at n (e ∷ es) ≡ None = lookup-none (is_at (nat_cmp n)) (e ∷ es) (none_below_head nat_cmp_total n e es sorted k) in absurd cc
  put_head Equal e es k h sorted rest =
      ap (λ o. match_ordering o ((n, v) ∷ e ∷ es) ((e.0, v) ∷ es) (e ∷ put n v es)) k
      ∙ sym (ap (λ o. cond (is_eq o) ((e.0, v) ∷ es) (e ∷ set_value (is_at (nat_cmp n)) es v)) k)
  put_head Greater e es k h sorted rest =
      let later : at n es ≡ Some old = sym (ap (λ o. cond (is_eq o) (Some e.1) (at n es)) k) ∙ h in
      ap (λ o. match_ordering o ((n, v) ∷ e ∷ es) ((e.0, v) ∷ es) (e ∷ put n v es)) k
      ∙ ap (λ xs. e ∷ xs) (rest later)
      ∙ sym (ap (λ o. cond (is_eq o) ((e.0, v) ∷ es) (e ∷ set_value (is_at (nat_cmp n)) es v)) k)

  -- a number that a map has is put in its place
  pub put-present : (es : List (ℕ × X)) → at n es ≡ Some old → IsStrictlySortedBy nat_cmp (keys_of es) → put n v es ≡ set_value (is_at (nat_cmp n)) es v
  put-present [] h sorted = absurd cc
  put-present (e ∷ es) h sorted =
      put_head (nat_cmp n e.0) e es refl h sorted (λ later. put-present es later (sorted_tail nat_cmp e.0 (keys_of es) sorted))

module _ {X : Type 0} (n : ℕ) where
  absent-first : (b : Bool) (e : ℕ × X) (es : List (ℕ × X)) → cond b (Some e.1) (at n es) ≡ None
      → (at n es ≡ None → without n es ≡ es) → cond b es (e ∷ without n es) ≡ e ∷ es
  absent-first true e es h rest = absurd cc
  absent-first false e es h rest = ap (λ xs. e ∷ xs) (rest h)

  -- a number that a map has not goes without a change
  pub without-absent : (es : List (ℕ × X)) → at n es ≡ None → without n es ≡ es
  without-absent [] h = refl
  without-absent (e ∷ es) h = absent-first (is_at (nat_cmp n) e.0) e es h (without-absent es)

-- what holds of each entry holds of each that is left
pub all-without : {X : Type 0} (P : ℕ × X → Type 0) (n : ℕ) (es : List (ℕ × X)) → AllByRecursion P es → AllByRecursion P (without n es)
all-without P n [] all = tt
all-without P n (e ∷ es) all = one (is_at (nat_cmp n) e.0) (all-without P n es all.1) where
  one : (b : Bool) → AllByRecursion P (without n es) → AllByRecursion P (cond b es (e ∷ without n es))
  one true rest = all.1
  one false rest = (all.0, rest)
