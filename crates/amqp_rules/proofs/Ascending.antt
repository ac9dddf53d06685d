-- Maps whose numbers ascend.
use Rattle.std.proofs.Common.{◌≡◌, ◌∙◌, ap, sym, subst, refl, ℕ, ◌<◌, ◌≤◌, Bool, true, false, cond, List, [], ◌∷◌, Some, None, arith}
use Rattle.std.specs.declared.cmp.Ordering.{Ordering}
use Rattle.std.specs.declared.cmp.Ordering.TheVariants.{Less, Equal, Greater}
use Rattle.std.specs.Ordering.{nat_cmp, is_eq, match_ordering, MatchOrdering}
use Rattle.std.specs.Cmp.{nat_cmp_is, ranks}
use Rattle.std.specs.Prelude.{filter}
use Rattle.std.specs.Map.{keys_of}
use Rattle.std.specs.BTreeMap.{is_at}
use Rattle.amqp_maps.specs.Listed.{at, put, without, map_values}
use Rattle.amqp_rules.specs.Sound.{AscendFrom, Ascend, AllBelow}

pub ranked : (n k : ℕ) (r : Ordering) → nat_cmp n k ≡ r → MatchOrdering r (n < k) (n ≡ k) (k < n)
ranked n k r h = subst (λ r. MatchOrdering r (n < k) (n ≡ k) (k < n)) h (ranks n k)

-- what is above a number is above a lesser one
pub ascend-below : (m k : ℕ) (ks : List ℕ) → m ≤ k → AscendFrom k ks → AscendFrom m ks
ascend-below m k [] le h = tt
ascend-below m k (x ∷ ks) le h = (omega (arith, le, h.0), h.1)

pub ascend-from : (m : ℕ) (ks : List ℕ) → AscendFrom m ks → Ascend ks
ascend-from m [] h = tt
ascend-from m (k ∷ ks) h = h.1

-- what is below a number is below a greater one
pub below-greater : (m n : ℕ) (ks : List ℕ) → m ≤ n → AllBelow m ks → AllBelow n ks
below-greater m n [] le h = tt
below-greater m n (k ∷ ks) le h = (omega (arith, le, h.0), below-greater m n ks le h.1)

module _ {X : Type 0} (n : ℕ) (v : X) where
  put-head : (r : Ordering) (m : ℕ) (e : ℕ × X) (es : List (ℕ × X)) → nat_cmp n e.0 ≡ r → m < n → AscendFrom m (keys_of (e ∷ es))
      → (e.0 < n → AscendFrom e.0 (keys_of (put n v es)))
      → AscendFrom m (keys_of (match_ordering r ((n, v) ∷ e ∷ es) ((e.0, v) ∷ es) (e ∷ put n v es)))
  put-head Less m e es h low s rest = (low, (ranked n e.0 Less h, s.1))
  put-head Equal m e es h low s rest = s
  put-head Greater m e es h low s rest = (s.0, rest (ranked n e.0 Greater h))

  -- a number that is put stands in its order
  pub put-from : (m : ℕ) (es : List (ℕ × X)) → m < n → AscendFrom m (keys_of es) → AscendFrom m (keys_of (put n v es))
  put-from m [] low s = (low, tt)
  put-from m (e ∷ es) low s = put-head (nat_cmp n e.0) m e es refl low s (λ above. put-from e.0 es above s.1)

  first-head : (r : Ordering) (e : ℕ × X) (es : List (ℕ × X)) → nat_cmp n e.0 ≡ r → Ascend (keys_of (e ∷ es))
      → Ascend (keys_of (match_ordering r ((n, v) ∷ e ∷ es) ((e.0, v) ∷ es) (e ∷ put n v es)))
  first-head Less e es h s = (ranked n e.0 Less h, s)
  first-head Equal e es h s = s
  first-head Greater e es h s = put-from e.0 es (ranked n e.0 Greater h) s

  pub put-ascends : (es : List (ℕ × X)) → Ascend (keys_of es) → Ascend (keys_of (put n v es))
  put-ascends [] s = tt
  put-ascends (e ∷ es) s = first-head (nat_cmp n e.0) e es refl s

  below-head : (r : Ordering) (top : ℕ) (e : ℕ × X) (es : List (ℕ × X)) → n < top → AllBelow top (keys_of (e ∷ es))
      → AllBelow top (keys_of (put n v es))
      → AllBelow top (keys_of (match_ordering r ((n, v) ∷ e ∷ es) ((e.0, v) ∷ es) (e ∷ put n v es)))
  below-head Less top e es low s rest = (low, s)
  below-head Equal top e es low s rest = s
  below-head Greater top e es low s rest = (s.0, rest)

  -- a number below another is put among those below it
  pub put-below : (top : ℕ) (es : List (ℕ × X)) → n < top → AllBelow top (keys_of es) → AllBelow top (keys_of (put n v es))
  put-below top [] low s = (low, tt)
  put-below top (e ∷ es) low s = below-head (nat_cmp n e.0) top e es low s (put-below top es low s.1)

module _ {X : Type 0} (n : ℕ) where
  gone-below : (b : Bool) (top : ℕ) (e : ℕ × X) (es : List (ℕ × X)) → AllBelow top (keys_of (e ∷ es)) → AllBelow top (keys_of (without n es))
      → AllBelow top (keys_of (cond b es (e ∷ without n es)))
  gone-below true top e es s rest = s.1
  gone-below false top e es s rest = (s.0, rest)

  -- a number that goes leaves the others below what they were below
  pub without-below : (top : ℕ) (es : List (ℕ × X)) → AllBelow top (keys_of es) → AllBelow top (keys_of (without n es))
  without-below top [] s = tt
  without-below top (e ∷ es) s = gone-below (is_at (nat_cmp n) e.0) top e es s (without-below top es s.1)

  at-head : (r : Ordering) (top : ℕ) (e : ℕ × X) (es : List (ℕ × X)) (x : X) → nat_cmp n e.0 ≡ r → e.0 < top → (at n es ≡ Some x → n < top)
      → cond (is_eq r) (Some e.1) (at n es) ≡ Some x → n < top
  at-head Less top e es x h low rest found = rest found
  at-head Equal top e es x h low rest found = let same : n ≡ e.0 = ranked n e.0 Equal h in omega (arith, same, low)
  at-head Greater top e es x h low rest found = rest found

  -- a number that is there is below what all are below
  pub at-below : (top : ℕ) (es : List (ℕ × X)) (x : X) → AllBelow top (keys_of es) → at n es ≡ Some x → n < top
  at-below top [] x s found = absurd cc
  at-below top (e ∷ es) x s found = at-head (nat_cmp n e.0) top e es x refl s.0 (at-below top es x s.1) found

  -- a number that others are below is not among them
  pub none-above : (top : ℕ) (es : List (ℕ × X)) → top ≤ n → AllBelow top (keys_of es) → at n es ≡ None
  none-above top [] le s = refl
  none-above top (e ∷ es) le s =
      ap (λ r. cond (is_eq r) (Some e.1) (at n es)) (sym (nat_cmp_is n e.0 Greater (omega (arith, le, s.0)))) ∙ none-above top es le s.1

  gone-head : (b : Bool) (m : ℕ) (e : ℕ × X) (es : List (ℕ × X)) → AscendFrom m (keys_of (e ∷ es)) → AscendFrom e.0 (keys_of (without n es))
      → AscendFrom m (keys_of (cond b es (e ∷ without n es)))
  gone-head true m e es s rest = ascend-below m e.0 (keys_of es) (omega (arith, s.0)) s.1
  gone-head false m e es s rest = (s.0, rest)

  -- a number that goes leaves the others in their order
  pub without-from : (m : ℕ) (es : List (ℕ × X)) → AscendFrom m (keys_of es) → AscendFrom m (keys_of (without n es))
  without-from m [] s = tt
  without-from m (e ∷ es) s = gone-head (is_at (nat_cmp n) e.0) m e es s (without-from e.0 es s.1)

  first-gone : (b : Bool) (e : ℕ × X) (es : List (ℕ × X)) → Ascend (keys_of (e ∷ es)) → Ascend (keys_of (cond b es (e ∷ without n es)))
  first-gone true e es s = ascend-from e.0 (keys_of es) s
  first-gone false e es s = without-from e.0 es s

  pub without-ascends : (es : List (ℕ × X)) → Ascend (keys_of es) → Ascend (keys_of (without n es))
  without-ascends [] s = tt
  without-ascends (e ∷ es) s = first-gone (is_at (nat_cmp n) e.0) e es s

  -- a number below all others is not there
  pub none-below : (es : List (ℕ × X)) → AscendFrom n (keys_of es) → at n es ≡ None
  none-below [] s = refl
  none-below (e ∷ es) s =
      ap (λ r. cond (is_eq r) (Some e.1) (at n es)) (sym (nat_cmp_is n e.0 Less s.0))
      ∙ none-below es (ascend-below n e.0 (keys_of es) (omega (arith, s.0)) s.1)

  taken-head : (r : Ordering) (e : ℕ × X) (es : List (ℕ × X)) → nat_cmp n e.0 ≡ r → AscendFrom e.0 (keys_of es)
      → at n (without n es) ≡ None → at n (cond (is_eq r) es (e ∷ without n es)) ≡ None
  taken-head Less e es h s rest = ap (λ r. cond (is_eq r) (Some e.1) (at n (without n es))) h ∙ rest
  taken-head Equal e es h s rest = none-below es (subst (λ k. AscendFrom k (keys_of es)) (sym (ranked n e.0 Equal h)) s)
  taken-head Greater e es h s rest = ap (λ r. cond (is_eq r) (Some e.1) (at n (without n es))) h ∙ rest

  -- a number that went is not there
  pub at-gone : (es : List (ℕ × X)) → Ascend (keys_of es) → at n (without n es) ≡ None
  at-gone [] s = refl
  at-gone (e ∷ es) s = taken-head (nat_cmp n e.0) e es refl s (at-gone es (ascend-from e.0 (keys_of es) s))

module _ {X : Type 0} (p : ℕ × X → Bool) where
  left-head : (b : Bool) (m : ℕ) (e : ℕ × X) (es : List (ℕ × X)) → AscendFrom m (keys_of (e ∷ es)) → AscendFrom e.0 (keys_of (filter p es))
      → AscendFrom m (keys_of (cond b (e ∷ filter p es) (filter p es)))
  left-head true m e es s rest = (s.0, rest)
  left-head false m e es s rest = ascend-below m e.0 (keys_of (filter p es)) (omega (arith, s.0)) rest

  -- entries that go leave the others in their order
  pub filter-from : (m : ℕ) (es : List (ℕ × X)) → AscendFrom m (keys_of es) → AscendFrom m (keys_of (filter p es))
  filter-from m [] s = tt
  filter-from m (e ∷ es) s = left-head (p e) m e es s (filter-from e.0 es s.1)

-- values that change leave the numbers
pub map_values-from : {X : Type 0} (f : X → X) (m : ℕ) (es : List (ℕ × X)) → AscendFrom m (keys_of es) → AscendFrom m (keys_of (map_values f es))
map_values-from f m [] s = tt
map_values-from f m (e ∷ es) s = (s.0, map_values-from f e.0 es s.1)
