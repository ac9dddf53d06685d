-- A command stands in a journal once: the places of a pass ascend, so each is that of one entry; and they are as many as its count has more than the base's.
use Rattle.std.proofs.Common.{◌≡◌, ◌≤◌, ◌<◌, ℕ, zero, suc, ◌+◌, ◌==◌, nat_lt, Bool, true, false, if◌then◌else◌, List, [], ◌∷◌, ◌++◌, length, Option, Some, None, slice_get, refl, ap, sym, ◌∙◌, subst, arith}
use Rattle.std.proofs.lemmas.Bool.Decides.{nat_tests}
use Rattle.amqp_types.proofs.Small.{if_by, if-true}
use Rattle.amqp_rules.specs.Sound.{AscendFrom, AllBelow}
use Rattle.amqp_commands.specs.declared.command.Cmd.{Cmd}
use Rattle.amqp_journal.specs.declared.entry.Entry.{Entry}
use Rattle.amqp_journal.specs.declared.entry.Entry.TheVariants.{Turn, Called, Own}
use Rattle.amqp_hub.specs.Passes.{own_place, places, gapless}
use Rattle.amqp_hub.proofs.Placing.{length-more}

-- ---- numbers without a gap

more-below : (n x : ℕ) (xs : List ℕ) → n ≤ x → AllBelow n xs → AllBelow x xs
more-below n x [] below all = tt
more-below n x (y ∷ ys) below all = (omega (arith, below, all.0), more-below n x ys below all.1)

below-last : (n x : ℕ) (xs : List ℕ) → AllBelow n xs → n ≤ suc x → AllBelow (suc x) (xs ++ x ∷ [])
below-last n x [] all below = (omega arith, tt)
below-last n x (y ∷ ys) all below = (omega (arith, all.0, below), below-last n x ys all.1 below)

gapless-below : (low high : ℕ) → AllBelow (suc high) (gapless low high)
gapless-below low zero = tt
gapless-below low (suc high) =
    if_by (AllBelow (suc (suc high))) (nat_lt low (suc high)) (gapless low high ++ suc high ∷ []) []
    (λ more. below-last (suc high) (suc high) (gapless low high) (gapless-below low high) (omega arith)) (λ none. tt)

ascend-more : (low x : ℕ) (xs : List ℕ) → AscendFrom low xs → AllBelow x xs → low < x → AscendFrom low (xs ++ x ∷ [])
ascend-more low x [] h all below = (below, tt)
ascend-more low x (y ∷ ys) h all below = (h.0, ascend-more y x ys h.1 all.1 all.0)

pub gapless-ascends : (low high : ℕ) → AscendFrom low (gapless low high)
gapless-ascends low zero = tt
gapless-ascends low (suc high) =
    if_by (AscendFrom low) (nat_lt low (suc high)) (gapless low high ++ suc high ∷ []) []
    (λ more. ascend-more low (suc high) (gapless low high) (gapless-ascends low high) (gapless-below low high) (grind (arith, nat_tests, more))) (λ none. tt)

pub gapless-length : (low high : ℕ) → low ≤ high → low + length (gapless low high) ≡ high
gapless-length low zero below = omega (arith, below)
gapless-length low (suc high) below =
    if_by (λ (xs : List ℕ). low + length xs ≡ suc high) (nat_lt low (suc high)) (gapless low high ++ suc high ∷ []) []
    (λ more.
    let l : low ≤ high = grind (arith, nat_tests, more) in
    omega (arith, gapless-length low high l, length-more (gapless low high) (suc high)))
    (λ none. let l : suc high ≤ low = grind (arith, nat_tests, none) in omega (arith, below, l))

-- ---- where an entry stands

-- the places of the entries after one
rest : (p low : ℕ) (x : Entry) (ys : List ℕ) → AscendFrom low (own_place p x ++ ys) → (k : ℕ) × (low ≤ k) × AscendFrom k ys
rest p low (Turn u) ys h = (low, omega arith, h)
rest p low (Own c) ys h = (low, omega arith, h)
rest p low (Called q n c o) ys h = by (q == p) h where
  by : (b : Bool) → AscendFrom low ((if b then n ∷ [] else []) ++ ys) → (k : ℕ) × (low ≤ k) × AscendFrom k ys
  by true g = (n, omega (arith, g.0), g.1)
  by false g = (low, omega arith, g)

-- those from an entry of the pass on
first : (p m : ℕ) (c : Cmd) (o : Option ℕ) (low : ℕ) (ys : List ℕ) → AscendFrom low (own_place p (Called p m c o) ++ ys) → (low < m) × AscendFrom m ys
first p m c o low ys h =
    let P : List ℕ → Type 0 = λ xs. AscendFrom low (xs ++ ys) in
    subst P (if-true (p == p) (m ∷ []) [] (grind (arith, nat_tests))) h

from-some : (x y : Entry) → Some x ≡ Some y → x ≡ y
from-some x y h = cc

above : (p m : ℕ) (c : Cmd) (o : Option ℕ) (js : List Entry) (low i : ℕ) → AscendFrom low (places p js) → slice_get js i ≡ Some (Called p m c o) → low < m
above p m c o [] low i h is = absurd cc
above p m c o (x ∷ xs) low zero h is =
    let P : Entry → Type 0 = λ y. AscendFrom low (own_place p y ++ places p xs) in
    (first p m c o low (places p xs) (subst P (from-some x (Called p m c o) is) h)).0
above p m c o (x ∷ xs) low (suc i) h is =
    let after = rest p low x (places p xs) h in
    omega (arith, after.1, above p m c o xs after.0 i after.2 is)

pub once : (p m : ℕ) (c d : Cmd) (o q : Option ℕ) (js : List Entry) (low i j : ℕ) → AscendFrom low (places p js)
    → slice_get js i ≡ Some (Called p m c o) → slice_get js j ≡ Some (Called p m d q) → i ≡ j
once p m c d o q [] low i j h here there = absurd cc
once p m c d o q (x ∷ xs) low zero zero h here there = refl
once p m c d o q (x ∷ xs) low zero (suc j) h here there =
    let P : Entry → Type 0 = λ y. AscendFrom low (own_place p y ++ places p xs) in
    let after = (first p m c o low (places p xs) (subst P (from-some x (Called p m c o) here) h)).1 in
    let more : m < m = above p m d q xs m j after there in
    omega (arith, more)
once p m c d o q (x ∷ xs) low (suc i) zero h here there =
    let P : Entry → Type 0 = λ y. AscendFrom low (own_place p y ++ places p xs) in
    let after = (first p m d q low (places p xs) (subst P (from-some x (Called p m d q) there) h)).1 in
    let more : m < m = above p m c o xs m i after here in
    omega (arith, more)
once p m c d o q (x ∷ xs) low (suc i) (suc j) h here there =
    let after = rest p low x (places p xs) h in
    ap suc (once p m c d o q xs after.0 i j after.2 here there)
