-- What the words of a command line ask for.
use Rattle.std.specs.Prelude.{ℕ, Bool, true, false, if◌then◌else◌, List, [], ◌∷◌, Option, Some, None, option_map, codes}
use Rattle.std.specs.Str.{bytes_eq}
use Rattle.amqp_program.specs.declared.asked.Asked.{Asked}
use Rattle.amqp_program.specs.declared.asked.Asked.TheVariants.{Replay, Generate, Check}
use Rattle.amqp_replay.specs.declared.limits.TheConstants.{MOST_GENERATED}
use Rattle.amqp_replay.specs.Decimals.{decimal_number}

-- `replay`, `check`
abbrev pub one_word : List ℕ → Option Asked
one_word word =
    if bytes_eq word (codes "replay") then Some Replay
    else if bytes_eq word (codes "check") then Some Check
    else None

-- `generate N`, N being decimal digits of a number from 0 to 2,000
abbrev pub two_words : List ℕ → List ℕ → Option Asked
two_words word digits =
    if bytes_eq word (codes "generate") then option_map Generate (decimal_number MOST_GENERATED digits) else None

-- what the words ask for, where they are known
abbrev pub asked_by_words : List (List ℕ) → Option Asked
asked_by_words (word ∷ []) = one_word word
asked_by_words (word ∷ digits ∷ []) = two_words word digits
asked_by_words _ = None

-- whether a source is read for what is asked
abbrev pub reads_source : Option Asked → Bool
reads_source (Some Replay) = true
reads_source (Some Check) = true
reads_source _ = false
