-- What becomes of the two lists.
use Rattle.std.proofs.Common.{◌≡◌, ℕ, ◌+◌, ◌-◌, ◌<◌, ◌≤◌, inl, inr, List, [], ◌++◌, length, take, drop, sym, ap, ap₂, ◌∙◌, append_assoc, arith, length-append, length-drop, length-take-le}
use Rattle.std.specs.Prelude.{min}
use Rattle.std.proofs.lemmas.List.{append-nil, take_rest, take-append-le, drop-append-le, take-take, take-append-drop, drop-drop, drop-take, take_at, drop_at}
use Rattle.std.proofs.Math.Seq.{take-add}
use Rattle.std.proofs.Math.Nat.{min_comm}
use Rattle.std.proofs.lemmas.Bool.{cases_lt}
use Rattle.std.proofs.lemmas.Bool.Decides.{nat_tests}
use Rattle.amqp_ring.specs.Ring.{Ring, consumed, filled, written, rolled_back}
use Rattle.amqp_ring.specs.Memory.{rotate, wrap, ring_of}
use Rattle.amqp_ring.proofs.Parts.{take_beyond, drop_beyond, take_cut, drop_cut}
use Rattle.amqp_ring.proofs.Rotations.{length-rotate, rotate_rotate, wrap_within, wrap_round}

abbrev ring : List ℕ → List ℕ → Ring
ring kept free = record { kept = kept; free = free }

kept_after_consume : (xs : List ℕ) (n m : ℕ) → n + m ≤ length xs → take m (rotate n xs) ≡ drop n (take (n + m) xs)
kept_after_consume xs n m fits =
    let short : m ≤ length (drop n xs) = omega (arith, length-drop n xs) in
    take-append-le m (drop n xs) (take n xs) short ∙ sym (drop-take n m xs)

free_after_consume : (xs : List ℕ) (n m : ℕ) → n + m ≤ length xs
    → drop m (rotate n xs) ≡ drop (n + m) xs ++ take n (take (n + m) xs)
free_after_consume xs n m fits =
    let short : m ≤ length (drop n xs) = omega (arith, length-drop n xs) in
    drop-append-le m (drop n xs) (take n xs) short
    ∙ ap₂ ◌++◌ (drop-drop m n xs) (sym (take-take n (n + m) xs (omega arith)))

module _ (memory : List ℕ) (position kept : ℕ) (within : position < length memory) (fits : kept ≤ length memory) where
  same_length : length (rotate position memory) ≡ length memory
  same_length = length-rotate position memory (omega arith)

  length_kept : length (take kept (rotate position memory)) ≡ kept
  length_kept = length-take-le kept (rotate position memory) (omega (arith, same_length))

  length_free : length (drop kept (rotate position memory)) ≡ length memory - kept
  length_free = length-drop kept (rotate position memory) ∙ ap (λ (k : ℕ). k - kept) same_length

  pub consumed_ring : (count n place : ℕ) → n ≡ min count kept → place ≡ wrap (length memory) position n
      → ring_of place (kept - n) memory ≡ consumed count (ring_of position kept memory)
  consumed_ring count n place cut moved =
      let run = rotate position memory in
      let low : n ≤ kept = omega arith in
      let whole : n + (kept - n) ≡ kept = omega arith in
      let inside : n + (kept - n) ≤ length run = omega (arith, same_length) in
      let cut_at : n ≡ min count (length (take kept run)) = cut ∙ ap (min count) (sym length_kept) in
      let place_is : rotate place memory ≡ rotate n run =
      ap (λ (k : ℕ). rotate k memory) moved ∙ rotate_rotate memory position n within (omega arith) in
      let first : take (kept - n) (rotate place memory) ≡ drop count (take kept run) =
      ap (take (kept - n)) place_is ∙ kept_after_consume run n (kept - n) inside
      ∙ ap (λ (k : ℕ). drop n (take k run)) whole
      ∙ drop_cut (take kept run) count n cut_at in
      let second : drop (kept - n) (rotate place memory) ≡ drop kept run ++ take count (take kept run) =
      ap (drop (kept - n)) place_is ∙ free_after_consume run n (kept - n) inside
      ∙ ap (λ (k : ℕ). drop k run ++ take n (take k run)) whole
      ∙ ap (λ (t : List ℕ). drop kept run ++ t) (take_cut (take kept run) count n cut_at) in
      ap₂ ring first second

  pub filled_ring : (count n : ℕ) → n ≡ min count (length memory - kept)
      → ring_of position (kept + n) memory ≡ filled count (ring_of position kept memory)
  filled_ring count n cut =
      let run = rotate position memory in
      let cut_at : n ≡ min count (length (drop kept run)) = cut ∙ ap (min count) (sym length_free) in
      ap₂ ring
      (take-add kept n run ∙ ap (λ (t : List ℕ). take kept run ++ t) (take_cut (drop kept run) count n cut_at))
      (sym (drop-drop n kept run) ∙ drop_cut (drop kept run) count n cut_at)

  pub rolled_back_ring : (count n : ℕ) → n ≡ min kept count
      → ring_of position n memory ≡ rolled_back count (ring_of position kept memory)
  rolled_back_ring count n cut =
      let run = rotate position memory in
      let low : n ≤ kept = omega arith in
      let whole : n + (kept - n) ≡ kept = omega arith in
      let cut_at : n ≡ min count (length (take kept run)) =
      cut ∙ min_comm kept count ∙ ap (min count) (sym length_kept) in
      let between : drop n (take kept run) ≡ take (kept - n) (drop n run) =
      ap (λ (k : ℕ). drop n (take k run)) (sym whole) ∙ drop-take n (kept - n) run in
      let behind : drop kept run ≡ drop (kept - n) (drop n run) =
      ap (λ (k : ℕ). drop k run) (sym whole) ∙ sym (drop-drop (kept - n) n run) in
      let rest : drop count (take kept run) ≡ take (kept - n) (drop n run) =
      sym (drop_cut (take kept run) count n cut_at) ∙ between in
      ap₂ ring
      (sym (take-take n kept run low) ∙ take_cut (take kept run) count n cut_at)
      (sym (ap₂ ◌++◌ rest behind ∙ take-append-drop (kept - n) (drop n run)))

  -- from the place behind the kept bytes it is as far to the position as there are free bytes
  back_to_position : (place : ℕ) → place ≡ wrap (length memory) position kept
      → wrap (length memory) place (length memory - kept) ≡ position
  back_to_position place moved = elim (cases_lt (position + kept) (length memory)) [
    | inl low ↦ (
        let at : place ≡ position + kept = moved ∙ wrap_within (length memory) position kept low in
        wrap_round (length memory) place (length memory - kept) (omega arith) ∙ omega arith)
    | inr high ↦ (
        let at : place ≡ position + kept - length memory = moved ∙ wrap_round (length memory) position kept high in
        wrap_within (length memory) place (length memory - kept) (omega arith) ∙ omega arith)
  ]

  -- bytes written behind the kept ones are kept, and the rest stays
  pub written_run : (put memory' : List ℕ) (place : ℕ) → length memory' ≡ length memory
      → place ≡ wrap (length memory) position kept
      → length put ≤ length memory - kept → rotate place memory' ≡ put ++ drop (length put) (rotate place memory)
      → rotate position memory'
      ≡ take kept (rotate position memory) ++ (put ++ drop (length put) (drop kept (rotate position memory)))
  written_run put memory' place same moved room writes =
      let run = rotate position memory in
      let back = back_to_position place moved in
      let place_in : place < length memory = grind (arith, nat_tests) in
      let place_is : rotate place memory ≡ drop kept run ++ take kept run =
      ap (λ (k : ℕ). rotate k memory) moved ∙ rotate_rotate memory position kept within fits in
      let rest : drop (length put) (rotate place memory) ≡ drop (length put) (drop kept run) ++ take kept run =
      ap (drop (length put)) place_is
      ∙ drop-append-le (length put) (drop kept run) (take kept run) (omega (arith, length_free)) in
      let after : rotate place memory' ≡ (put ++ drop (length put) (drop kept run)) ++ take kept run =
      writes ∙ ap (λ (t : List ℕ). put ++ t) rest
      ∙ sym (append_assoc put (drop (length put) (drop kept run)) (take kept run)) in
      let count : length (put ++ drop (length put) (drop kept run)) ≡ length memory - kept =
      omega (arith, length-append put (drop (length put) (drop kept run)), length-drop (length put) (drop kept run), length_free) in
      let again : rotate position memory' ≡ rotate (length memory - kept) (rotate place memory') =
      ap (λ (k : ℕ). rotate k memory') (sym back ∙ ap (λ (k : ℕ). wrap k place (length memory - kept)) (sym same))
      ∙ rotate_rotate memory' place (length memory - kept) (omega arith) (omega arith) in
      again ∙ ap (rotate (length memory - kept)) after
      ∙ ap₂ ◌++◌ (drop_at (put ++ drop (length put) (drop kept run)) (take kept run) (length memory - kept) count)
      (take_at (put ++ drop (length put) (drop kept run)) (take kept run) (length memory - kept) count)

module _ (memory : List ℕ) (position kept : ℕ) (within : position < length memory) (fits : kept ≤ length memory) where
  pub written_ring : (bytes memory' : List ℕ) (n place : ℕ) → length memory' ≡ length memory
      → place ≡ wrap (length memory) position kept
      → n ≡ min (length bytes) (length memory - kept)
      → rotate place memory' ≡ take n bytes ++ drop (length (take n bytes)) (rotate place memory)
      → ring_of position (kept + n) memory' ≡ written bytes (ring_of position kept memory)
  written_ring bytes memory' n place same moved cut writes =
      let run = rotate position memory in
      let free = length_free memory position kept within fits in
      let put : length (take n bytes) ≡ n = length-take-le n bytes (omega arith) in
      let run' =
      written_run memory position kept within fits (take n bytes) memory' place same moved (omega arith) writes in
      let rest = drop (length (take n bytes)) (drop kept run) in
      let had = length_kept memory position kept within fits in
      let cut_free : n ≡ min (length bytes) (length (drop kept run)) = cut ∙ ap (min (length bytes)) (sym free) in
      let as_many : take n bytes ≡ take (length (drop kept run)) bytes =
      take_cut bytes (length (drop kept run)) n (cut_free ∙ min_comm (length bytes) (length (drop kept run))) in
      ap₂ ring
      (ap (take (kept + n)) run' ∙ take_beyond (take kept run) (take n bytes ++ rest) (kept + n) n (omega arith)
      ∙ ap (λ (t : List ℕ). take kept run ++ t) (take_at (take n bytes) rest n put ∙ as_many))
      (ap (drop (kept + n)) run' ∙ drop_beyond (take kept run) (take n bytes ++ rest) (kept + n) n (omega arith)
      ∙ drop_at (take n bytes) rest n put ∙ ap (λ (k : ℕ). drop k (drop kept run)) put
      ∙ drop_cut (drop kept run) (length bytes) n cut_free)

-- the free bytes that lie before the position
pub free_before : (memory front : List ℕ) (position kept k : ℕ) → front ≡ take position memory
    → kept ≡ length (drop position memory) + k
    → take (length front - k) (drop k front) ++ [] ≡ drop kept (rotate position memory)
free_before memory front position kept k is_front far =
    append-nil (take (length front - k) (drop k front)) ∙ take_rest front k ∙ ap (drop k) is_front
    ∙ sym (drop_beyond (drop position memory) (take position memory) kept k far)
