-- Words that ask to double ask for nothing else; and the number is at most 2,000.
use Rattle.std.proofs.Common.{◌≡◌, ap, sym, refl, ◌==◌, if◌then◌else◌, ℕ, Bool, true, false, true≢false, List, [], ◌∷◌, Some, None, option_map, codes, arith}
use Rattle.std.proofs.lemmas.Bool.Decides.{nat_tests}
use Rattle.std.specs.Str.{bytes_eq}
use Rattle.amqp_types.proofs.Small.{and-left, if-false}
use Rattle.amqp_replay.specs.declared.limits.TheConstants.{MOST_GENERATED}
use Rattle.amqp_replay.specs.Decimals.{decimal_number}
use Rattle.amqp_program.specs.declared.asked.Asked.TheVariants.{Generate}
use Rattle.amqp_program.specs.Asked.{asked_by_words}
use Rattle.amqp_doubled.specs.Numbers.{doubled_number}

-- a word that is `double` is not `generate`
not-generate : (word : List ℕ) → bytes_eq word (codes "double") ≡ true → bytes_eq word (codes "generate") ≡ false
not-generate [] h = absurd (true≢false (sym h))
not-generate (x ∷ word) h =
    let first : (x == 100) ≡ true = and-left (x == 100) (bytes_eq word (codes "ouble")) h in
    let is : x ≡ 100 = grind (arith, nat_tests) in
    ap (λ (y : ℕ). bytes_eq (y ∷ word) (codes "generate")) is

by-test : (b : Bool) (digits : List ℕ) (n : ℕ) → (if b then decimal_number MOST_GENERATED digits else None) ≡ Some n → b ≡ true
by-test true digits n h = refl
by-test false digits n h = absurd (let k : None ≡ Some n = h in cc)

pub no_other : (words : List (List ℕ)) (n : ℕ) → doubled_number words ≡ Some n → asked_by_words words ≡ None
no_other [] n h = absurd (let k : None ≡ Some n = h in cc)
no_other (word ∷ []) n h = absurd (let k : None ≡ Some n = h in cc)
no_other (word ∷ digits ∷ []) n h =
    if-false (bytes_eq word (codes "generate")) (option_map Generate (decimal_number MOST_GENERATED digits)) None
    (not-generate word (by-test (bytes_eq word (codes "double")) digits n h))
no_other (word ∷ digits ∷ other ∷ words) n h = absurd (let k : None ≡ Some n = h in cc)
