-- That the numbers which std parses, where no plus stands first, are those of decimal digits alone.
use Rattle.std.proofs.Common.{◌≡◌, ◌≢◌, [], ◌∷◌, subst, ℕ, Bool, true, false, List, refl, sym, ap, ◌∙◌}
use Rattle.std.specs.Prelude.{None, Some, Result, Ok, Err, slice_index, if◌then◌else◌}
use Rattle.std.specs.Result.{OkIff, result_ok}
use Rattle.std.specs.Str.{all_ascii_digits}
use Rattle.std.specs.Str.Parse.{ParsesUnsigned, digits_value}
use Rattle.std.specs.Cmp.Derive.{both_true}
use Rattle.std.proofs.lemmas.Bool.{ltb-true, lt-ltb, and_parts}
use Rattle.std.proofs.lemmas.Str.Parse.{IsNumeralModel, numerals_by_value, tells_all_ascii_digits, parse_plain}
use Rattle.amqp_uri.specs.Query.{number}

own : IsNumeralModel (λ ds. all_ascii_digits ds ≡ true) (digits_value 10)
own = numerals_by_value _ tells_all_ascii_digits

-- a value that is there where something holds is chosen by a test of it
by_test : {E P : Type 0} (r : Result ℕ E) (test : Bool) (value : ℕ) → OkIff r P value → (P → test ≡ true)
    → (test ≡ true → P) → result_ok r ≡ (if test then Some value else None)
by_test (Ok x) test value h to from = ap Some h.1 ∙ sym (ap (λ t. if t then Some value else None) (to h.0))
by_test (Err e) true value h to from = absurd (h (from refl))
by_test (Err e) false value h to from = refl

-- a text that begins with no plus
pub number-parsed : {E : Type 0} (bits : ℕ) (text : List ℕ) (r : Result ℕ E) → ParsesUnsigned bits 10 text r
    → slice_index text 0 ≢ 43 → result_ok r ≡ number bits text
number-parsed bits text r h no_plus =
    by_test r _ (digits_value 10 text) (parse_plain own bits text r h no_plus)
    (λ p. both_true (both_true p.0 (lt-ltb _ _ p.1)) (lt-ltb _ _ p.2))
    (λ e. let parts = and_parts _ _ e in let front = and_parts _ _ parts.0 in
    (front.0, ltb-true _ _ front.1, ltb-true _ _ parts.1))

-- a text that begins with one
pub number-plus : (bits : ℕ) (text : List ℕ) → slice_index text 0 ≡ 43 → number bits text ≡ None
number-plus bits [] plus = refl
number-plus bits (c ∷ cs) plus = subst (λ d. number bits (d ∷ cs) ≡ None) (sym plus) refl
