-- The script of a number that the words ask for is taken.
use Rattle.std.proofs.Common.{◌≡◌, ◌≤◌, ◌⊎◌, nat_le, if◌then◌else◌, ℕ, Bool, true, false, List, [], ◌∷◌, Option, Some, None, option_map, Result, MatchResult, codes, inl, inr, refl, subst, arith}
use Rattle.std.proofs.lemmas.Bool.Decides.{nat_tests}
use Rattle.std.specs.List.{list_all}
use Rattle.std.specs.Str.{bytes_eq}
use Rattle.std.specs.Str.Parse.{digits_value}
use Rattle.amqp_engine.specs.Log.{Log}
use Rattle.amqp_replay.specs.declared.limits.TheConstants.{MOST_GENERATED}
use Rattle.amqp_replay.specs.declared.status.TheConstants.{NO_MEMORY}
use Rattle.amqp_replay.specs.Decimals.{is_digit, at_most, decimal_number}
use Rattle.amqp_replay.specs.Grammar.{Scenario, parsed}
use Rattle.amqp_replay.specs.Generator.{generated}
use Rattle.amqp_replay.specs.GeneratedScenario.{generated_scenario}
use Rattle.amqp_replay.specs.Top.{refused_printout, Prints, Generates}
use Rattle.amqp_replay.proofs.GeneratedLines.{generated-taken}
use Rattle.amqp_program.specs.declared.asked.Asked.{Asked}
use Rattle.amqp_program.specs.declared.asked.Asked.TheVariants.{Replay, Generate, Check}
use Rattle.amqp_program.specs.Asked.{asked_by_words}

-- ---- it is at most 2,000

of_number : (most n count : ℕ) (b : Bool) → nat_le n most ≡ b → option_map Generate (if b then Some n else None) ≡ Some (Generate count) → count ≤ most
of_number most n count true fits h =
    let same : n ≡ count = cc in
    let within : n ≤ most = grind (arith, nat_tests) in
    omega (arith, same, within)
of_number most n count false fits h = absurd cc

of_test : (most n count : ℕ) (b : Bool) → option_map Generate (if b then at_most most n else None) ≡ Some (Generate count) → count ≤ most
of_test most n count true h = of_number most n count (nat_le n most) refl h
of_test most n count false h = absurd cc

of_digits : (most count : ℕ) (digits : List ℕ) → option_map Generate (decimal_number most digits) ≡ Some (Generate count) → count ≤ most
of_digits most count [] h = absurd cc
of_digits most count (digit ∷ digits) h =
    of_test most (digits_value 10 (digit ∷ digits)) count (list_all is_digit (digit ∷ digits)) h

of_one : (count : ℕ) (a b : Bool) → (if a then Some Replay else if b then Some Check else None) ≡ Some (Generate count) → count ≤ MOST_GENERATED
of_one count true b h = absurd cc
of_one count false true h = absurd cc
of_one count false false h = absurd cc

of_two : (count : ℕ) (b : Bool) (digits : List ℕ)
    → (if b then option_map Generate (decimal_number MOST_GENERATED digits) else None) ≡ Some (Generate count) → count ≤ MOST_GENERATED
of_two count true digits h = of_digits MOST_GENERATED count digits h
of_two count false digits h = absurd cc

pub asked-within : (words : List (List ℕ)) (count : ℕ) → asked_by_words words ≡ Some (Generate count) → count ≤ MOST_GENERATED
asked-within [] count h = absurd cc
asked-within (word ∷ []) count h = of_one count (bytes_eq word (codes "replay")) (bytes_eq word (codes "check")) h
asked-within (word ∷ digits ∷ []) count h = of_two count (bytes_eq word (codes "generate")) digits h
asked-within (word ∷ digits ∷ more ∷ words) count h = absurd cc

-- ---- so its script is taken

-- what was answered of a number
abbrev Answered : ℕ → Option Log → Option Log → Option (List ℕ) → Option (List ℕ) → ℕ → Result Scenario ℕ → Type 0
Answered count log log' before after status read =
    MatchResult read (λ s. Generates (generated count) s log' before after status)
    (λ number. Prints (refused_printout number) before after status × (log' ≡ log))

pub number-taken : (n count : ℕ) (log log' : Option Log) (before after : Option (List ℕ)) (status : ℕ) → n ≡ count → count ≤ MOST_GENERATED
    → (status ≡ NO_MEMORY) ⊎ Answered n log log' before after status (parsed false (generated n))
    → (status ≡ NO_MEMORY) ⊎ Generates (generated count) (generated_scenario count) log' before after status
number-taken n count log log' before after status same within (inl none) = inl none
number-taken n count log log' before after status same within (inr answered) =
    let N : ℕ → Type 0 = λ k. Answered k log log' before after status (parsed false (generated k)) in
    let R : Result Scenario ℕ → Type 0 = λ r. Answered count log log' before after status r in
    inr (subst R (generated-taken count within) (subst N same answered))
