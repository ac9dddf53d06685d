-- The entries of a map that are seen, as a map.
use Rattle.std.proofs.Common.{◌≡◌, ◌∙◌, ap, sym, refl, ℕ, Bool, true, false, cond, List, [], ◌∷◌, Option, Some, None}
use Rattle.std.specs.List.{AllByRecursion}
use Rattle.std.specs.declared.cmp.Ordering.{Ordering}
use Rattle.std.specs.declared.cmp.Ordering.TheVariants.{Less, Equal, Greater}
use Rattle.std.specs.Ordering.{nat_cmp, is_eq, match_ordering}
use Rattle.std.specs.Cmp.{nat_cmp_total}
use Rattle.std.specs.List.Sorted.{IsStrictlySortedBy}
use Rattle.std.specs.Map.{keys_of, set_value}
use Rattle.std.specs.BTreeMap.{is_at}
use Rattle.std.proofs.lemmas.Map.Keys.{sorted_head, sorted_tail}
use Rattle.std.proofs.lemmas.Map.Lookups.{exact_unsigned}
use Rattle.amqp_outbox.specs.Listed.{at, put, without}
use Rattle.amqp_outbox.specs.Order.{seen, seen_at, seen_first}
use Rattle.amqp_outbox.proofs.Maps.{put-present, without-absent}

-- all numbers of a list are above a number
abbrev Above : ℕ → List ℕ → Type 0
Above n ks = AllByRecursion (λ k. nat_cmp n k ≡ Less) ks

abbrev pub Sorted : List ℕ → Type 0
Sorted ks = IsStrictlySortedBy nat_cmp ks

above-less : (n k : ℕ) (ks : List ℕ) → nat_cmp n k ≡ Less → Above k ks → Above n ks
above-less n k [] h above = tt
above-less n k (x ∷ ks) h above = (nat_cmp_total.trans n k x h above.0, above-less n k ks h above.1)

above-equal : (n k : ℕ) (ks : List ℕ) → nat_cmp n k ≡ Equal → Above k ks → Above n ks
above-equal n k [] h above = tt
above-equal n k (x ∷ ks) h above = (nat_cmp_total.congr n k x h ∙ above.0, above-equal n k ks h above.1)

module _ {X : Type 0} (n : ℕ) (k : ℕ) (xs : List (ℕ × X)) where
  at-first : (o : Option X) → nat_cmp n k ≡ Less → at n xs ≡ None → at n (seen_first k o xs) ≡ None
  at-first None h rest = rest
  at-first (Some x) h rest = ap (λ o. cond (is_eq o) (Some x) (at n xs)) h ∙ rest

  without-first : (o : Option X) → nat_cmp n k ≡ Less → without n xs ≡ xs → without n (seen_first k o xs) ≡ seen_first k o xs
  without-first None h rest = rest
  without-first (Some x) h rest = ap (λ o. cond (is_eq o) xs ((k, x) ∷ without n xs)) h ∙ ap (λ ys. (k, x) ∷ ys) rest

  put-first : (v : X) (o : Option X) → nat_cmp n k ≡ Less → put n v xs ≡ (n, v) ∷ xs → put n v (seen_first k o xs) ≡ (n, v) ∷ seen_first k o xs
  put-first v None h rest = rest
  put-first v (Some x) h rest = ap (λ o. match_ordering o ((n, v) ∷ (k, x) ∷ xs) ((k, v) ∷ xs) ((k, x) ∷ put n v xs)) h

module _ {X Y : Type 0} (f : Y → Option X) (n : ℕ) where
  -- a number below all others
  at-above : (es : List (ℕ × Y)) → Above n (keys_of es) → at n (seen f es) ≡ None
  at-above [] above = refl
  at-above (e ∷ es) above = at-first n e.0 (seen f es) (f e.1) above.0 (at-above es above.1)

  without-above : (es : List (ℕ × Y)) → Above n (keys_of es) → without n (seen f es) ≡ seen f es
  without-above [] above = refl
  without-above (e ∷ es) above = without-first n e.0 (seen f es) (f e.1) above.0 (without-above es above.1)

  put-above : (v : X) (es : List (ℕ × Y)) → Above n (keys_of es) → put n v (seen f es) ≡ (n, v) ∷ seen f es
  put-above v [] above = refl
  put-above v (e ∷ es) above = put-first n e.0 (seen f es) v (f e.1) above.0 (put-above v es above.1)

  -- ---- what is at a number

  at-head : (r : Ordering) (e : ℕ × Y) (es : List (ℕ × Y)) (o : Option X) → nat_cmp n e.0 ≡ r → f e.1 ≡ o → Sorted (keys_of (e ∷ es))
      → at n (seen f es) ≡ seen_at f (at n es)
      → at n (seen_first e.0 o (seen f es)) ≡ seen_at f (cond (is_eq r) (Some e.1) (at n es))
  at-head Less e es None h is sorted rest = rest
  at-head Less e es (Some x) h is sorted rest = ap (λ r. cond (is_eq r) (Some x) (at n (seen f es))) h ∙ rest
  at-head Greater e es None h is sorted rest = rest
  at-head Greater e es (Some x) h is sorted rest = ap (λ r. cond (is_eq r) (Some x) (at n (seen f es))) h ∙ rest
  at-head Equal e es None h is sorted rest =
      at-above es (above-equal n e.0 (keys_of es) h (sorted_head nat_cmp e.0 (keys_of es) sorted)) ∙ sym is
  at-head Equal e es (Some x) h is sorted rest = ap (λ r. cond (is_eq r) (Some x) (at n (seen f es))) h ∙ sym is

  -- what is seen at a number is what is seen of its entry
  pub at-seen : (es : List (ℕ × Y)) → Sorted (keys_of es) → at n (seen f es) ≡ seen_at f (at n es)
  at-seen [] sorted = refl
  at-seen (e ∷ es) sorted =
      at-head (nat_cmp n e.0) e es (f e.1) refl refl sorted (at-seen es (sorted_tail nat_cmp e.0 (keys_of es) sorted))

  -- ---- a number that goes

  without-head : (r : Ordering) (e : ℕ × Y) (es : List (ℕ × Y)) (o : Option X) → nat_cmp n e.0 ≡ r → f e.1 ≡ o → Sorted (keys_of (e ∷ es))
      → seen f (without n es) ≡ without n (seen f es)
      → seen f (cond (is_eq r) es (e ∷ without n es)) ≡ without n (seen_first e.0 o (seen f es))
  without-head Less e es None h is sorted rest = ap (λ o. seen_first e.0 o (seen f (without n es))) is ∙ rest
  without-head Less e es (Some x) h is sorted rest =
      ap (λ o. seen_first e.0 o (seen f (without n es))) is ∙ ap (λ xs. (e.0, x) ∷ xs) rest
      ∙ sym (ap (λ r. cond (is_eq r) (seen f es) ((e.0, x) ∷ without n (seen f es))) h)
  without-head Greater e es None h is sorted rest = ap (λ o. seen_first e.0 o (seen f (without n es))) is ∙ rest
  without-head Greater e es (Some x) h is sorted rest =
      ap (λ o. seen_first e.0 o (seen f (without n es))) is ∙ ap (λ xs. (e.0, x) ∷ xs) rest
      ∙ sym (ap (λ r. cond (is_eq r) (seen f es) ((e.0, x) ∷ without n (seen f es))) h)
  without-head Equal e es None h is sorted rest =
      sym (without-above es (above-equal n e.0 (keys_of es) h (sorted_head nat_cmp e.0 (keys_of es) sorted)))
  without-head Equal e es (Some x) h is sorted rest =
      sym (ap (λ r. cond (is_eq r) (seen f es) ((e.0, x) ∷ without n (seen f es))) h)

  -- a number that goes is no longer seen
  pub without-seen : (es : List (ℕ × Y)) → Sorted (keys_of es) → seen f (without n es) ≡ without n (seen f es)
  without-seen [] sorted = refl
  without-seen (e ∷ es) sorted =
      without-head (nat_cmp n e.0) e es (f e.1) refl refl sorted (without-seen es (sorted_tail nat_cmp e.0 (keys_of es) sorted))

  module _ (y : Y) where
    -- ---- a value that is put, and seen

    put-head : (x : X) (r : Ordering) (e : ℕ × Y) (es : List (ℕ × Y)) (o : Option X) → nat_cmp n e.0 ≡ r → f e.1 ≡ o → f y ≡ Some x
        → Sorted (keys_of (e ∷ es)) → seen f (put n y es) ≡ put n x (seen f es)
        → seen f (match_ordering r ((n, y) ∷ e ∷ es) ((e.0, y) ∷ es) (e ∷ put n y es)) ≡ put n x (seen_first e.0 o (seen f es))
    put-head x Less e es o h is given sorted rest =
        let above : Above n (keys_of es) = above-less n e.0 (keys_of es) h (sorted_head nat_cmp e.0 (keys_of es) sorted) in
        ap (λ p. seen_first n p (seen_first e.0 (f e.1) (seen f es))) given
        ∙ ap (λ p. (n, x) ∷ seen_first e.0 p (seen f es)) is
        ∙ sym (put-first n e.0 (seen f es) x o h (put-above x es above))
    put-head x Equal e es None h is given sorted rest =
        let above : Above n (keys_of es) = above-equal n e.0 (keys_of es) h (sorted_head nat_cmp e.0 (keys_of es) sorted) in
        ap (λ p. seen_first e.0 p (seen f es)) given
        ∙ ap (λ k. (k, x) ∷ seen f es) (sym (exact_unsigned n e.0 h))
        ∙ sym (put-above x es above)
    put-head x Equal e es (Some z) h is given sorted rest =
        ap (λ p. seen_first e.0 p (seen f es)) given
        ∙ sym (ap (λ r. match_ordering r ((n, x) ∷ (e.0, z) ∷ seen f es) ((e.0, x) ∷ seen f es) ((e.0, z) ∷ put n x (seen f es))) h)
    put-head x Greater e es None h is given sorted rest = ap (λ p. seen_first e.0 p (seen f (put n y es))) is ∙ rest
    put-head x Greater e es (Some z) h is given sorted rest =
        ap (λ p. seen_first e.0 p (seen f (put n y es))) is
        ∙ ap (λ xs. (e.0, z) ∷ xs) rest
        ∙ sym (ap (λ r. match_ordering r ((n, x) ∷ (e.0, z) ∷ seen f es) ((e.0, x) ∷ seen f es) ((e.0, z) ∷ put n x (seen f es))) h)

    -- a value that is put is seen
    pub put-seen : (x : X) (es : List (ℕ × Y)) → f y ≡ Some x → Sorted (keys_of es) → seen f (put n y es) ≡ put n x (seen f es)
    put-seen x [] given sorted = ap (λ p. seen_first n p []) given
    put-seen x (e ∷ es) given sorted =
        put-head x (nat_cmp n e.0) e es (f e.1) refl refl given sorted (put-seen x es given (sorted_tail nat_cmp e.0 (keys_of es) sorted))

    -- ---- a place that is made

    place-head : (r : Ordering) (e : ℕ × Y) (es : List (ℕ × Y)) → f y ≡ None → cond (is_eq r) (Some e.1) (at n es) ≡ None
        → (at n es ≡ None → seen f (put n y es) ≡ seen f es)
        → seen f (match_ordering r ((n, y) ∷ e ∷ es) ((e.0, y) ∷ es) (e ∷ put n y es)) ≡ seen f (e ∷ es)
    place-head Less e es unseen none rest = ap (λ p. seen_first n p (seen f (e ∷ es))) unseen
    place-head Equal e es unseen none rest = absurd cc
    place-head Greater e es unseen none rest = ap (λ xs. seen_first e.0 (f e.1) xs) (rest none)

    -- what is put where nothing was, and is not seen, leaves what is seen
    pub put-unseen : (es : List (ℕ × Y)) → f y ≡ None → at n es ≡ None → seen f (put n y es) ≡ seen f es
    put-unseen [] unseen none = ap (λ p. seen_first n p []) unseen
    put-unseen (e ∷ es) unseen none = place-head (nat_cmp n e.0) e es unseen none (put-unseen es unseen)

-- ---- entries that change

module _ {X Y : Type 0} (f : Y → Option X) (n : ℕ) (y y' : Y) where
  same-first : (b : Bool) (e : ℕ × Y) (es : List (ℕ × Y)) → f y' ≡ f y → cond b (Some e.1) (at n es) ≡ Some y
      → (at n es ≡ Some y → seen f (set_value (is_at (nat_cmp n)) es y') ≡ seen f es)
      → seen f (cond b ((e.0, y') ∷ es) (e ∷ set_value (is_at (nat_cmp n)) es y')) ≡ seen_first e.0 (f e.1) (seen f es)
  same-first true e es alike h rest =
      let is : e.1 ≡ y = cc in ap (λ o. seen_first e.0 o (seen f es)) (alike ∙ ap f (sym is))
  same-first false e es alike h rest = ap (λ xs. seen_first e.0 (f e.1) xs) (rest h)

  -- a value that changes unseen
  pub set-alike : (es : List (ℕ × Y)) → f y' ≡ f y → at n es ≡ Some y → seen f (set_value (is_at (nat_cmp n)) es y') ≡ seen f es
  set-alike [] alike h = absurd cc
  set-alike (e ∷ es) alike h = same-first (is_at (nat_cmp n) e.0) e es alike h (set-alike es alike)

  -- a value that is seen from then on
  pub set-seen : (x : X) (es : List (ℕ × Y)) → f y' ≡ Some x → at n es ≡ Some y → Sorted (keys_of es)
      → seen f (set_value (is_at (nat_cmp n)) es y') ≡ put n x (seen f es)
  set-seen x es given h sorted = ap (seen f) (sym (put-present n y' y es h sorted)) ∙ put-seen f n y' x es given sorted

  gone-first : (r : Ordering) (e : ℕ × Y) (es : List (ℕ × Y)) (o : Option X) → nat_cmp n e.0 ≡ r → f e.1 ≡ o → f y' ≡ None
      → Sorted (keys_of (e ∷ es)) → cond (is_eq r) (Some e.1) (at n es) ≡ Some y
      → (at n es ≡ Some y → seen f (set_value (is_at (nat_cmp n)) es y') ≡ without n (seen f es))
      → seen f (cond (is_eq r) ((e.0, y') ∷ es) (e ∷ set_value (is_at (nat_cmp n)) es y')) ≡ without n (seen_first e.0 o (seen f es))
  gone-first Equal e es None k is none sorted h rest =
      ap (λ o. seen_first e.0 o (seen f es)) none
      ∙ sym (without-above f n es (above-equal n e.0 (keys_of es) k (sorted_head nat_cmp e.0 (keys_of es) sorted)))
  gone-first Equal e es (Some x) k is none sorted h rest =
      ap (λ o. seen_first e.0 o (seen f es)) none
      ∙ sym (ap (λ r. cond (is_eq r) (seen f es) ((e.0, x) ∷ without n (seen f es))) k)
  gone-first Less e es None k is none sorted h rest = ap (λ o. seen_first e.0 o (seen f (set_value (is_at (nat_cmp n)) es y'))) is ∙ rest h
  gone-first Less e es (Some x) k is none sorted h rest =
      ap (λ o. seen_first e.0 o (seen f (set_value (is_at (nat_cmp n)) es y'))) is ∙ ap (λ xs. (e.0, x) ∷ xs) (rest h)
      ∙ sym (ap (λ r. cond (is_eq r) (seen f es) ((e.0, x) ∷ without n (seen f es))) k)
  gone-first Greater e es None k is none sorted h rest = ap (λ o. seen_first e.0 o (seen f (set_value (is_at (nat_cmp n)) es y'))) is ∙ rest h
  gone-first Greater e es (Some x) k is none sorted h rest =
      ap (λ o. seen_first e.0 o (seen f (set_value (is_at (nat_cmp n)) es y'))) is ∙ ap (λ xs. (e.0, x) ∷ xs) (rest h)
      ∙ sym (ap (λ r. cond (is_eq r) (seen f es) ((e.0, x) ∷ without n (seen f es))) k)

  -- a value that is no longer seen
  pub set-unseen : (es : List (ℕ × Y)) → f y' ≡ None → at n es ≡ Some y → Sorted (keys_of es)
      → seen f (set_value (is_at (nat_cmp n)) es y') ≡ without n (seen f es)
  set-unseen [] none h sorted = absurd cc
  set-unseen (e ∷ es) none h sorted =
      gone-first (nat_cmp n e.0) e es (f e.1) refl refl none sorted h
      (λ later. set-unseen es none later (sorted_tail nat_cmp e.0 (keys_of es) sorted))

-- a number that is not seen goes without a change
pub without-unseen : {X Y : Type 0} (f : Y → Option X) (n : ℕ) (es : List (ℕ × Y)) → Sorted (keys_of es) → seen_at f (at n es) ≡ None
    → seen f (without n es) ≡ seen f es
without-unseen f n es sorted none = without-seen f n es sorted ∙ without-absent n (seen f es) (at-seen f n es sorted ∙ none)

-- ---- the numbers ascend

module _ {X Y : Type 0} (f : Y → Option X) where
  all-seen : (P : ℕ → Type 0) (es : List (ℕ × Y)) → AllByRecursion P (keys_of es) → AllByRecursion P (keys_of (seen f es))
  all-seen P [] all = tt
  all-seen P (e ∷ es) all = by (f e.1) (all-seen P es all.1) where
    by : (o : Option X) → AllByRecursion P (keys_of (seen f es)) → AllByRecursion P (keys_of (seen_first e.0 o (seen f es)))
    by None rest = rest
    by (Some x) rest = (all.0, rest)

  pub sorted-seen : (es : List (ℕ × Y)) → Sorted (keys_of es) → Sorted (keys_of (seen f es))
  unfolding IsStrictlySortedBy
  sorted-seen [] sorted = tt
  sorted-seen (e ∷ es) sorted = by (f e.1) (sorted-seen es sorted.1) where
    by : (o : Option X) → Sorted (keys_of (seen f es)) → Sorted (keys_of (seen_first e.0 o (seen f es)))
    by None rest = rest
    by (Some x) rest = (all-seen (λ k. nat_cmp e.0 k ≡ Less) es sorted.0, rest)
