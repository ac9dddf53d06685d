-- What the words behind a program's name ask for.
use Rattle.std.specs.Prelude.{◌≡◌, ◌<◌, ◌^◌, ◌||◌, ℕ, Bool, false, List, [], ◌∷◌, Option, Some, None, codes, if◌then◌else◌}
use Rattle.std.specs.Str.{bytes_eq}
use Rattle.std.specs.Str.Parse.{IsNumeral, digits_value}
use Rattle.amqp_tools.specs.declared.wanted.Job.{Job}
use Rattle.amqp_tools.specs.declared.wanted.Job.TheVariants.{Publish, Consume}

-- `--help`, `-h`
abbrev pub wants_help : List (List ℕ) → Bool
wants_help (word ∷ []) = bytes_eq word (codes "--help") || bytes_eq word (codes "-h")
wants_help _ = false

-- `publish` or `consume`, and the words behind it
abbrev pub job_by : List (List ℕ) → Option (Job × List (List ℕ))
job_by [] = None
job_by (first ∷ rest) =
    if bytes_eq first (codes "publish") then Some (Publish, rest)
    else if bytes_eq first (codes "consume") then Some (Consume, rest)
    else None

-- an address, an exchange and a routing key
abbrev pub publishing_by : List (List ℕ) → Option (List ℕ × (List ℕ × List ℕ))
publishing_by (uri ∷ exchange ∷ key ∷ []) = Some (uri, (exchange, key))
publishing_by _ = None

-- an address, a queue, and how many messages where that is said
abbrev pub consuming_by : List (List ℕ) → Option (List ℕ × (List ℕ × Option (List ℕ)))
consuming_by (uri ∷ queue ∷ []) = Some (uri, (queue, None))
consuming_by (uri ∷ queue ∷ count ∷ []) = Some (uri, (queue, Some count))
consuming_by _ = None

-- a word is decimal digits of a number of 64 bits
abbrev pub IsNumber : List ℕ → Type 0
IsNumber word = IsNumeral 10 word × (digits_value 10 word < 2 ^ 64)

-- the number that a word is, where it is one
abbrev pub IsCount : List ℕ → Option ℕ → Type 0
IsCount word (Some count) = IsNumber word × (count ≡ digits_value 10 word)
IsCount word None = IsNumber word → ⊥
