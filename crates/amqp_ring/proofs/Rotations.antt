-- A list that is begun at another place.
use Rattle.std.proofs.Common.{◌≡◌, ℕ, ◌+◌, ◌-◌, ◌<◌, ◌≤◌, inl, inr, List, [], ◌++◌, length, take, drop, refl, sym, ap, ap₂, ◌∙◌, append_assoc, arith, length-append, length-drop, length-take-le}
use borrow.Rule.Slice.PartMut.{put_mid}
use Rattle.std.proofs.lemmas.Slice.{drop-append-drop}
use Rattle.std.proofs.lemmas.List.{append-nil, drop_all, take_at, drop_at, take-append-le, drop-append-le, take-take, take-append-drop, drop-drop, drop-take}
use Rattle.std.proofs.Math.Seq.{take-add}
use Rattle.std.proofs.lemmas.Bool.{cases_lt}
use Rattle.std.proofs.lemmas.Bool.Decides.{nat_tests}
use Rattle.amqp_ring.specs.Memory.{rotate, wrap}
use Rattle.amqp_ring.proofs.Parts.{take_beyond, drop_beyond}

pub length-rotate : (k : ℕ) (xs : List ℕ) → k ≤ length xs → length (rotate k xs) ≡ length xs
length-rotate k xs fits = omega (arith, length-append (drop k xs) (take k xs), length-drop k xs, length-take-le k xs fits)

-- without going round the end
rotate_within : (xs : List ℕ) (s n : ℕ) → s + n ≤ length xs → rotate (s + n) xs ≡ rotate n (rotate s xs)
rotate_within xs s n fits =
    let short : n ≤ length (drop s xs) = omega (arith, length-drop s xs) in
    rw (take-append-le n (drop s xs) (take s xs) short, drop-append-le n (drop s xs) (take s xs) short, drop-drop n s xs, take-add s n xs, append_assoc) refl

-- round the end
rotate_round : (xs : List ℕ) (s n m : ℕ) → s ≤ length xs → m ≤ s → n ≡ length (drop s xs) + m
    → rotate m xs ≡ rotate n (rotate s xs)
rotate_round xs s n m fits low e =
    let front = take-append-drop s xs in
    let short : m ≤ length (take s xs) = omega (arith, length-take-le s xs fits) in
    let dropped : drop m xs ≡ drop m (take s xs) ++ drop s xs =
    ap (drop m) (sym front) ∙ drop-append-le m (take s xs) (drop s xs) short in
    let taken : take m (take s xs) ≡ take m xs = take-take m s xs low in
    rw (take_beyond (drop s xs) (take s xs) n m e, drop_beyond (drop s xs) (take s xs) n m e, dropped, taken, append_assoc) refl

pub wrap_within : (size s n : ℕ) → s + n < size → wrap size s n ≡ s + n
wrap_within size s n h = grind (arith, nat_tests)

pub wrap_round : (size s n : ℕ) → size ≤ s + n → wrap size s n ≡ s + n - size
wrap_round size s n h = grind (arith, nat_tests)

-- to begin at one place and then at another is to begin at the place that is as far on
pub rotate_rotate : (xs : List ℕ) (s n : ℕ) → s < length xs → n ≤ length xs
    → rotate (wrap (length xs) s n) xs ≡ rotate n (rotate s xs)
rotate_rotate xs s n below fits = elim (cases_lt (s + n) (length xs)) [
  | inl low ↦ ap (λ (k : ℕ). rotate k xs) (wrap_within (length xs) s n low) ∙ rotate_within xs s n (omega arith)
  | inr high ↦ (
      ap (λ (k : ℕ). rotate k xs) (wrap_round (length xs) s n high)
      ∙ rotate_round xs s n (s + n - length xs) (omega arith) (omega arith) (omega (arith, length-drop s xs)))
]

-- written to the end of the memory, and the rest to its front
pub put_round : (memory bytes first rest : List ℕ) (place : ℕ) → place < length memory → length bytes ≤ length memory
    → length first ≡ length memory - place → first ++ rest ≡ bytes
    → rotate place (rest ++ drop (length rest) (put_mid place (length memory - place) memory first))
    ≡ bytes ++ drop (length bytes) (rotate place memory)
put_round memory bytes first rest place within fits to_end both =
    let size : length bytes ≡ length first + length rest = ap length (sym both) ∙ length-append first rest in
    let low : length rest ≤ place = omega arith in
    let front : length (take place memory) ≡ place = length-take-le place memory (omega arith) in
    let behind : length (drop place memory) ≡ length memory - place = length-drop place memory in
    let once = put_mid place (length memory - place) memory first in
    let none : drop (length memory - place) (drop place memory) ≡ [] =
    drop_all (length memory - place) (drop place memory) (omega arith) in
    let dropped : drop place (rest ++ drop (length rest) once) ≡ first =
    drop-append-drop (length rest) once rest place low refl
    ∙ drop_at (take place memory) (first ++ drop (length memory - place) (drop place memory)) place front
    ∙ ap (λ (t : List ℕ). first ++ t) none ∙ append-nil first in
    let whole : length rest + (place - length rest) ≡ place = omega arith in
    let under : take (place - length rest) (drop (length rest) once) ≡ drop (length rest) (take place memory) =
    sym (drop-take (length rest) (place - length rest) once) ∙ ap (λ (k : ℕ). drop (length rest) (take k once)) whole
    ∙ ap (drop (length rest)) (take_at (take place memory) (first ++ drop (length memory - place) (drop place memory)) place front) in
    let taken : take place (rest ++ drop (length rest) once) ≡ rest ++ drop (length rest) (take place memory) =
    take_beyond rest (drop (length rest) once) place (place - length rest) (sym whole)
    ∙ ap (λ (t : List ℕ). rest ++ t) under in
    let past : drop (length bytes) (rotate place memory) ≡ drop (length rest) (take place memory) =
    drop_beyond (drop place memory) (take place memory) (length bytes) (length rest) (omega arith) in
    ap₂ ◌++◌ dropped taken ∙ sym (append_assoc first rest (drop (length rest) (take place memory)))
    ∙ ap₂ ◌++◌ both (sym past)
