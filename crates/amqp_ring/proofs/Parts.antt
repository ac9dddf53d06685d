-- Parts of lists.
use Rattle.std.proofs.Common.{◌≡◌, ◌∙◌, ap, sym, ℕ, ◌+◌, List, ◌++◌, length, take, drop, length-append, take-append-drop}
use Rattle.std.specs.Prelude.{min}
use Rattle.std.proofs.lemmas.List.{take_min, drop_min}
use Rattle.std.proofs.Math.Seq.{take-append-add, drop-append-add}

module _ {X : Type 0} where
  -- taking more than the first of two lists
  pub take_beyond : (a b : List X) (n m : ℕ) → n ≡ length a + m → take n (a ++ b) ≡ a ++ take m b
  take_beyond a b n m e = rw e (take-append-add a b m)

  pub drop_beyond : (a b : List X) (n m : ℕ) → n ≡ length a + m → drop n (a ++ b) ≡ drop m b
  drop_beyond a b n m e = rw e (drop-append-add a b m)

  -- a count that is cut at the length takes and drops the same
  pub take_cut : (xs : List X) (count n : ℕ) → n ≡ min count (length xs) → take n xs ≡ take count xs
  take_cut xs count n e = ap (λ (k : ℕ). take k xs) e ∙ take_min count xs

  pub drop_cut : (xs : List X) (count n : ℕ) → n ≡ min count (length xs) → drop n xs ≡ drop count xs
  drop_cut xs count n e = ap (λ (k : ℕ). drop k xs) e ∙ drop_min count xs

  -- a list is as long as what is taken of it and what is dropped
  pub length-parts : (n : ℕ) (xs : List X) → length (take n xs) + length (drop n xs) ≡ length xs
  length-parts n xs = sym (length-append (take n xs) (drop n xs)) ∙ ap length (take-append-drop n xs)
