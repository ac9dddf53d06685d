use Rattle.std.proofs.Common.{◌≡◌, ◌∙◌, ℕ, List, Option, Some, None, ap, sym, refl}
use Rattle.std.specs.Option.{option_copied}
use Rattle.amqp_replay.specs.Decimals.{number_64}
use Rattle.amqp_replay.specs.Setup.{before_numbers}
use Rattle.amqp_replay.proofs.DelayLemmas.{after_numbers, rest_numbers, numbers-cut, one-before, none-after}
use Rattle.amqp_replay.proofs.setup.numbers.Goals as goal

-- what is not there is none
none-found : (o : Option ℕ) → ((n : ℕ) → o ≡ Some n → ⊥) → o ≡ None
none-found None h = refl
none-found (Some n) h = absurd (h n refl)

pub returns-in_default-number : goal.returns-in_default-number
returns-in_default-number c =
    let found : List ℕ = c.words.found in
    let front = c.cut.result.0.now in
    let rest = option_copied c.cut.result.1 in
    let none : number_64 front ≡ None = sym c.number.ensures.value ∙ none-found c.number.result c.in_default-number.not-Some in
    sym (sym c.words.invariant
    ∙ ap (λ x. after_numbers found (rest_numbers (option_copied x))) c.in-Some.is
    ∙ ap (after_numbers found) (numbers-cut c.in-Some.more.now front rest c.cut.ensures.before c.cut.ensures.after)
    ∙ ap (λ (o : Option ℕ). after_numbers found (before_numbers o (rest_numbers rest))) none
    ∙ none-after found (rest_numbers rest))

pub words-preserved : goal.words-preserved
words-preserved c =
    let found : List ℕ = c.words.found in
    let front = c.cut.result.0.now in
    let rest = option_copied c.cut.result.1 in
    let delay = c.in-Some-number.delay in
    let some : number_64 front ≡ Some delay = sym c.number.ensures.value ∙ c.in-Some-number.is in
    ap (λ (x : List ℕ). after_numbers x (rest_numbers rest)) c.in_ok-push.ensures
    ∙ sym (one-before found delay (rest_numbers rest))
    ∙ sym (ap (λ (o : Option ℕ). after_numbers found (before_numbers o (rest_numbers rest))) some)
    ∙ sym (ap (after_numbers found) (numbers-cut c.in-Some.more.now front rest c.cut.ensures.before c.cut.ensures.after))
    ∙ sym (ap (λ x. after_numbers found (rest_numbers (option_copied x))) c.in-Some.is)
    ∙ c.words.invariant
