-- How often promises stand among some, and the least number above all of them.
use Rattle.std.proofs.Common.{◌≡◌, ◌≢◌, ◌∙◌, ◌+◌, ◌≤◌, ◌<◌, ap, sym, subst, refl, ℕ, suc, max, Bool, true, false, true≢false, cond, List, [], ◌∷◌, ◌++◌, length, inl, inr, arith}
use Rattle.std.specs.Prelude.{filter, map, nat_eq, nat_lt, IsTrue, IsFalse, ◌&&◌}
use Rattle.std.specs.List.{AllByRecursion, list_all}
use Rattle.std.proofs.lemmas.Bool.Decides.{nat_tests}
use Rattle.std.proofs.lemmas.Bool.{cases_eq, cases_lt, eq-eqb, ne_eqb}
use Rattle.std.proofs.lemmas.List.Sums.{sum_by-cons, sum_by-append}
use Rattle.amqp_commands.specs.declared.command.ChanRef.{ChanRef}
use Rattle.amqp_pool.specs.Pooled.{times, above, opened_by}

-- one where a promise is this one
abbrev pub one : ℕ → ℕ → ℕ
one n m = cond (nat_eq n m) 1 0

pub times-cons : (n m : ℕ) (ms : List ℕ) → times n (m ∷ ms) ≡ one n m + times n ms
times-cons n m ms = sum_by-cons (one n) m ms

pub times-append : (n : ℕ) (xs ys : List ℕ) → times n (xs ++ ys) ≡ times n xs + times n ys
times-append n xs ys = sum_by-append (one n) xs ys

pub one-same : (n m : ℕ) → n ≡ m → one n m ≡ 1
one-same n m e = ap (λ b. cond b 1 0) (eq-eqb n m e)

pub one-other : (n m : ℕ) → n ≢ m → one n m ≡ 0
one-other n m ne = ap (λ b. cond b 1 0) (ne_eqb n m ne)

pub one-few : (n m : ℕ) → one n m ≤ 1
one-few n m = by (nat_eq n m) where
  by : (b : Bool) → cond b 1 0 ≤ 1
  by true = omega arith
  by false = omega arith

-- ---- those that pass a test

module _ (p : ℕ → Bool) where
  pub times-filter : (n : ℕ) (xs : List ℕ) → times n (filter p xs) ≤ times n xs
  times-filter n [] = omega arith
  times-filter n (x ∷ xs) = by (p x) (times-filter n xs) where
    by : (b : Bool) → times n (filter p xs) ≤ times n xs → times n (cond b (x ∷ filter p xs) (filter p xs)) ≤ times n (x ∷ xs)
    by true less = omega (arith, less, times-cons n x (filter p xs), times-cons n x xs)
    by false less = omega (arith, less, times-cons n x xs)

-- ---- above all

-- what stands among some is below the least number above all of them
pub under-above : (n : ℕ) (xs : List ℕ) → 1 ≤ times n xs → n < above xs
under-above n [] there = absurd (omega (arith, there))
under-above n (x ∷ xs) there =
    elim (cases_eq n x) [
      | inl e ↦ omega (arith, e)
      | inr ne ↦
          let later : n < above xs = under-above n xs (omega (arith, there, times-cons n x xs, one-other n x ne)) in
          omega (arith, later)
    ]

-- what is above all of some is so by the least that is
pub above-least : (m : ℕ) (xs : List ℕ) → ((n : ℕ) → 1 ≤ times n xs → n < m) → above xs ≤ m
above-least m [] all = omega arith
above-least m (x ∷ xs) all =
    let rest : above xs ≤ m = above-least m xs (λ n there. all n (omega (arith, there, times-cons n x xs))) in
    let first : x < m = all x (omega (arith, times-cons x x xs, one-same x x refl)) in
    omega (arith, rest, first)

-- the part of a list has no more above it
pub above-part : (xs ys : List ℕ) → ((n : ℕ) → times n xs ≤ times n ys) → above xs ≤ above ys
above-part xs ys part = above-least (above ys) xs (λ n there. under-above n ys (omega (arith, there, part n)))

-- what is not below all of some is not among them
pub not-there : (n : ℕ) (xs : List ℕ) → above xs ≤ n → times n xs ≡ 0
not-there n xs over =
    elim (cases_eq (times n xs) 0) [
      | inl e ↦ e
      | inr ne ↦ let under : n < above xs = under-above n xs (omega (arith, ne)) in absurd (omega (arith, under, over))
    ]

-- each of some is below what is above all of them
pub each-below : (m : ℕ) (xs : List ℕ) → above xs ≤ m → AllByRecursion (λ n. n < m) xs
each-below m [] h = tt
each-below m (x ∷ xs) h = (omega (arith, h), each-below m xs (omega (arith, h)))

-- ---- whether all are below a bound

-- this is what is asked of each of some
abbrev pub all_below : ℕ → List ℕ → Bool
all_below m xs = list_all (λ n. nat_lt n m) xs

-- where each is below a bound, so is all that is above them at most it
pub below-above : (m : ℕ) (xs : List ℕ) → IsTrue (all_below m xs) → above xs ≤ m
below-above m [] h = omega arith
below-above m (x ∷ xs) h = by (nat_lt x m) refl (below-above m xs) h where
  by : (b : Bool) → nat_lt x m ≡ b → (IsTrue (all_below m xs) → above xs ≤ m) → IsTrue (b && all_below m xs) → above (x ∷ xs) ≤ m
  by true is rest h =
      let first : x < m = grind (arith, nat_tests, is) in
      omega (arith, first, rest h)
  by false is rest h = absurd (true≢false (sym h))

-- where one is not, the bound is below that
pub above-bound : (m : ℕ) (xs : List ℕ) → IsFalse (all_below m xs) → m < above xs
above-bound m [] h = absurd (true≢false h)
above-bound m (x ∷ xs) h = by (nat_lt x m) refl (above-bound m xs) h where
  by : (b : Bool) → nat_lt x m ≡ b → (IsFalse (all_below m xs) → m < above xs) → IsFalse (b && all_below m xs) → m < above (x ∷ xs)
  by true is rest h = omega (arith, rest h)
  by false is rest h =
      let not_less : m ≤ x = grind (arith, nat_tests, is) in
      omega (arith, not_less)

-- what is above all of two lists
pub above-both : (m : ℕ) (xs ys : List ℕ) → above xs ≤ m → above ys ≤ m → above (xs ++ ys) ≤ m
above-both m [] ys h k = k
above-both m (x ∷ xs) ys h k = omega (arith, h, above-both m xs ys (omega (arith, h)) k)

-- the first of two lists has no more above it than both
pub above-first : (m : ℕ) (xs ys : List ℕ) → m < above xs → m < above (xs ++ ys)
above-first m [] ys h = absurd (omega (arith, h))
above-first m (x ∷ xs) ys h =
    elim (cases_lt x m) [
      | inl less ↦ omega (arith, above-first m xs ys (omega (arith, h, less)))
      | inr more ↦ omega (arith, more)
    ]

-- and so has the second
pub above-second : (m : ℕ) (xs ys : List ℕ) → m < above ys → m < above (xs ++ ys)
above-second m [] ys h = h
above-second m (x ∷ xs) ys h = omega (arith, above-second m xs ys h)

-- what is asked of each of what a list is made into
pub below-map : {X : Type 0} (f : X → ℕ) (m : ℕ) (xs : List X) → list_all (λ x. nat_lt (f x) m) xs ≡ all_below m (map f xs)
below-map f m [] = refl
below-map f m (x ∷ xs) = ap (λ b. nat_lt (f x) m && b) (below-map f m xs)

-- ---- whether a bound fits the opening promises of a pool

module _ (m m' : ℕ) (idle leased idle' leased' : List ChanRef) (opening opening' : List ℕ) (of_m : m ≡ m')
    (of_idle : idle ≡ idle') (of_leased : leased ≡ leased') (of_opening : opening ≡ opening') where
  -- what is asked of channels is asked of their promises
  asked : (b : Bool) (rs rs' : List ChanRef) → rs ≡ rs' → list_all (λ (r : ChanRef). nat_lt (opened_by r) m) rs ≡ b → all_below m' (map opened_by rs') ≡ b
  asked b rs rs' is h =
      subst (λ k. all_below k (map opened_by rs') ≡ b) of_m
      (sym (below-map opened_by m rs') ∙ subst (λ xs. list_all (λ (r : ChanRef). nat_lt (opened_by r) m) xs ≡ b) is h)

  asked-opening : (b : Bool) → all_below m opening ≡ b → all_below m' opening' ≡ b
  asked-opening b h = subst (λ k. all_below k opening' ≡ b) of_m (subst (λ xs. all_below m xs ≡ b) of_opening h)

  -- where all are below it, it fits
  pub bound-fits : list_all (λ (r : ChanRef). nat_lt (opened_by r) m) idle ≡ true → list_all (λ (r : ChanRef). nat_lt (opened_by r) m) leased ≡ true
      → IsTrue (all_below m opening) → above (map opened_by idle' ++ (map opened_by leased' ++ opening')) ≤ m'
  bound-fits h k l =
      above-both m' (map opened_by idle') (map opened_by leased' ++ opening')
      (below-above m' (map opened_by idle') (asked true idle idle' of_idle h))
      (above-both m' (map opened_by leased') opening'
      (below-above m' (map opened_by leased') (asked true leased leased' of_leased k))
      (below-above m' opening' (asked-opening true l)))

  -- where one of the idle is not, it does not
  pub idle-over : list_all (λ (r : ChanRef). nat_lt (opened_by r) m) idle ≡ false → m' < above (map opened_by idle' ++ (map opened_by leased' ++ opening'))
  idle-over h =
      above-first m' (map opened_by idle') (map opened_by leased' ++ opening')
      (above-bound m' (map opened_by idle') (asked false idle idle' of_idle h))

  -- so of the leased
  pub leased-over : list_all (λ (r : ChanRef). nat_lt (opened_by r) m) leased ≡ false → m' < above (map opened_by idle' ++ (map opened_by leased' ++ opening'))
  leased-over h =
      above-second m' (map opened_by idle') (map opened_by leased' ++ opening')
      (above-first m' (map opened_by leased') opening'
      (above-bound m' (map opened_by leased') (asked false leased leased' of_leased h)))

  -- and of those that are opening
  pub opening-over : IsFalse (all_below m opening) → m' < above (map opened_by idle' ++ (map opened_by leased' ++ opening'))
  opening-over h =
      above-second m' (map opened_by idle') (map opened_by leased' ++ opening')
      (above-second m' (map opened_by leased') opening'
      (above-bound m' opening' (asked-opening false h)))
