-- Maps as lists of their entries.
use Rattle.std.proofs.Common.{◌≡◌, ap, sym, refl, ℕ, Bool, true, false, cond, List, [], ◌∷◌, Option, Some, None, IsSome, is_some}
use Rattle.std.specs.Ordering.{nat_cmp}
use Rattle.std.specs.Map.{set_value}
use Rattle.std.specs.BTreeMap.{is_at}
use Rattle.amqp_types.proofs.Small.{none-from}
use Rattle.amqp_maps.specs.Listed.{at, has, map_values}

module _ {X : Type 0} (n : ℕ) (v : X) where
  -- the first entry, by whether it is at the number
  same_head : (b : Bool) (e : ℕ × X) (es : List (ℕ × X)) → cond b (Some e.1) (at n es) ≡ Some v
      → (at n es ≡ Some v → set_value (is_at (nat_cmp n)) es v ≡ es)
      → cond b ((e.0, v) ∷ es) (e ∷ set_value (is_at (nat_cmp n)) es v) ≡ e ∷ es
  same_head true e es h rest = let k : e.1 ≡ v = cc in ap (λ x. (e.0, x) ∷ es) (sym k)
  same_head false e es h rest = ap (λ xs. e ∷ xs) (rest h)

  -- a value that is set to what it was leaves the map as it was
  pub set_value-same : (es : List (ℕ × X)) → at n es ≡ Some v → set_value (is_at (nat_cmp n)) es v ≡ es
  set_value-same [] h = absurd cc
  set_value-same (e ∷ es) h = same_head (is_at (nat_cmp n) e.0) e es h (set_value-same es)

module _ {X : Type 0} (n : ℕ) (f : X → X) where
  same_test : (b : Bool) (e : ℕ × X) (es : List (ℕ × X)) → is_some (at n (map_values f es)) ≡ is_some (at n es)
      → is_some (cond b (Some (f e.1)) (at n (map_values f es))) ≡ is_some (cond b (Some e.1) (at n es))
  same_test true e es rest = refl
  same_test false e es rest = rest

  -- a map whose values are changed has the same numbers
  pub has-map_values : (es : List (ℕ × X)) → has n (map_values f es) ≡ has n es
  has-map_values [] = refl
  has-map_values (e ∷ es) = same_test (is_at (nat_cmp n) e.0) e es (has-map_values es)

-- a number that a map has not
pub at-absent : {X : Type 0} (n : ℕ) (es : List (ℕ × X)) → has n es ≡ false → at n es ≡ None
at-absent n es h = none-from (at n es) h

-- ---- what is there stays, where a value is set

there-either : {X : Type 0} (b : Bool) (x y : X) (o : Option X) → IsSome (cond b (Some x) o) → IsSome (cond b (Some y) o)
there-either true x y o h = refl
there-either false x y o h = h

there-later : {X : Type 0} (b : Bool) (x : X) (o o' : Option X) → (IsSome o → IsSome o') → IsSome (cond b (Some x) o) → IsSome (cond b (Some x) o')
there-later true x o o' f h = refl
there-later false x o o' f h = f h

pub still-there : {X : Type 0} (m n : ℕ) (v : X) (es : List (ℕ × X)) → IsSome (at n es) → IsSome (at n (set_value (is_at (nat_cmp m)) es v))
still-there m n v [] h = h
still-there {X} m n v (e ∷ es) h = by (is_at (nat_cmp m) e.0) (still-there m n v es)
  where
    by : (b : Bool) → (IsSome (at n es) → IsSome (at n (set_value (is_at (nat_cmp m)) es v)))
        → IsSome (at n (cond b ((e.0, v) ∷ es) (e ∷ set_value (is_at (nat_cmp m)) es v)))
    by true later = there-either (is_at (nat_cmp n) e.0) e.1 v (at n es) h
    by false later = there-later (is_at (nat_cmp n) e.0) e.1 (at n es) (at n (set_value (is_at (nat_cmp m)) es v)) later h
