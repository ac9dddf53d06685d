-- The number that is drawn for a new channel: it is within 1 and the greatest, and it was not listed.
use Rattle.std.proofs.Common.{◌≡◌, ◌∙◌, ap, sym, refl, ℕ, zero, suc, ◌+◌, ◌-◌, ◌==◌, nat_lt, ◌≤◌, ◌||◌, if◌then◌else◌, Bool, true, false, not, cond, List, Option, None, Some, arith}
use Rattle.std.proofs.lemmas.Bool.Decides.{nat_tests}
use Rattle.std.proofs.lemmas.List.Folds.{find-append}
use Rattle.std.specs.Prelude.{find}
use Rattle.std.specs.List.{range_with_len}
use Rattle.std.specs.Option.{option_or}
use Rattle.amqp_channels.specs.declared.channels.Channel.{Channel}
use Rattle.amqp_maps.specs.Listed.{at, has}
use Rattle.amqp_channels.specs.Numbering.{drawn, first_number}
use Rattle.amqp_maps.proofs.Maps.{at-absent}
use Rattle.amqp_types.proofs.Small.{from-not-true}

-- a number within 1 and the greatest, which passes a test
abbrev Passes : ℕ → (ℕ → Bool) → ℕ → Type 0
Passes most test n = (1 ≤ n) × (n ≤ most) × (test n ≡ true)

passes-head : (most : ℕ) (test : ℕ → Bool) (first n : ℕ) (rest : Option ℕ) (b : Bool) → test first ≡ b → 1 ≤ first → first ≤ most → (rest ≡ Some n → Passes most test n)
    → cond b (Some first) rest ≡ Some n → Passes most test n
passes-head most test first n rest true is low high f h =
    let same : first ≡ n = cc in (omega (arith, low, same), omega (arith, high, same), ap test (sym same) ∙ is)
passes-head most test first n rest false is low high f h = f h

passes-found : (most : ℕ) (test : ℕ → Bool) (count first n : ℕ) → 1 ≤ first → first + count ≤ most + 1 → find test (range_with_len first count) ≡ Some n
    → Passes most test n
passes-found most test zero first n low high h = absurd cc
passes-found most test (suc count) first n low high h =
    passes-head most test first n (find test (range_with_len (first + 1) count)) (test first) refl low (omega (arith, high))
    (passes-found most test count (first + 1) n (omega arith) (omega (arith, high))) h

passes-either : (most : ℕ) (test : ℕ → Bool) (a b : Option ℕ) (n : ℕ) → (a ≡ Some n → Passes most test n) → (b ≡ Some n → Passes most test n)
    → option_or a b ≡ Some n → Passes most test n
passes-either most test None b n f g h = g h
passes-either most test (Some x) b n f g h = f h

first-low : (most cursor : ℕ) → 1 ≤ first_number most cursor
first-low most cursor = grind (arith, nat_tests)

first-high : (most cursor : ℕ) → first_number most cursor ≤ most + 1
first-high most cursor = by (cursor == 0) (nat_lt most cursor) refl where
  by : (a b : Bool) → nat_lt most cursor ≡ b → (if a || b then 1 else cursor) ≤ most + 1
  by true b is = omega arith
  by false true is = omega arith
  by false false is = grind (arith, nat_tests, is)

pub drawn-free : (most cursor n : ℕ) (channels : List (ℕ × Channel)) → drawn most (first_number most cursor) channels ≡ Some n
    → (1 ≤ n) × (n ≤ most) × (at n channels ≡ None)
drawn-free most cursor n channels h =
    let first : ℕ = first_number most cursor in
    let low : 1 ≤ first = first-low most cursor in
    let high : first ≤ most + 1 = first-high most cursor in
    let test : ℕ → Bool = λ n. not (has n channels) in
    let is : Passes most test n =
    passes-either most test (find test (range_with_len first (most + 1 - first))) (find test (range_with_len 1 (first - 1))) n
    (passes-found most test (most + 1 - first) first n low (omega (arith, high)))
    (passes-found most test (first - 1) 1 n (omega arith) (omega (arith, low, high)))
    (sym (find-append test (range_with_len first (most + 1 - first)) (range_with_len 1 (first - 1))) ∙ h) in
    (is.0, is.1, at-absent n channels (from-not-true (has n channels) is.2))
