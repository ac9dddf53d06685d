-- Numbers that are parted by blanks, one after another.
use Rattle.std.proofs.Common.{◌≡◌, ℕ, List, [], ◌∷◌, ◌++◌, Option, Some, None, refl, sym, ap, ◌∙◌, append_assoc}
use Rattle.std.specs.List.{slice_split}
use Rattle.amqp_replay.specs.Decimals.{number_64}
use Rattle.amqp_replay.specs.Setup.{is_blank, before_numbers, numbers_of}
use Rattle.amqp_replay.specs.Words.{before_byte, after_byte}
use Rattle.amqp_replay.proofs.Cuts.{parts_from, slice_split-cut_at}

-- numbers after those that came before, where all are numbers
abbrev pub after_numbers : List ℕ → Option (List ℕ) → Option (List ℕ)
after_numbers ns None = None
after_numbers ns (Some ms) = Some (ns ++ ms)

-- the numbers of the words that are left, where there are any
abbrev pub rest_numbers : Option (List ℕ) → Option (List ℕ)
rest_numbers None = Some []
rest_numbers (Some rest) = numbers_of (slice_split is_blank rest)

from_words : (front : List ℕ) (rest : Option (List ℕ)) → numbers_of (parts_from 32 front rest) ≡ before_numbers (number_64 front) (rest_numbers rest)
from_words front None = refl
from_words front (Some rest) = refl

-- the first word, and then the rest
pub numbers-cut : (text front : List ℕ) (rest : Option (List ℕ)) → front ≡ before_byte 32 text → rest ≡ after_byte 32 text
    → numbers_of (slice_split is_blank text) ≡ before_numbers (number_64 front) (rest_numbers rest)
numbers-cut text front rest before after =
    ap numbers_of (slice_split-cut_at 32 text front rest before after) ∙ from_words front rest

pub none-before : (rest : Option (List ℕ)) → before_numbers None rest ≡ None
none-before None = refl
none-before (Some rest) = refl

-- one number goes from the rest to those before
pub one-before : (ns : List ℕ) (n : ℕ) (rest : Option (List ℕ)) → after_numbers ns (before_numbers (Some n) rest) ≡ after_numbers (ns ++ n ∷ []) rest
one-before ns n None = refl
one-before ns n (Some ms) = ap (λ (x : List ℕ). Some x) (sym (append_assoc ns (n ∷ []) ms))

pub none-after : (ns : List ℕ) (rest : Option (List ℕ)) → after_numbers ns (before_numbers None rest) ≡ None
none-after ns None = refl
none-after ns (Some ms) = refl
