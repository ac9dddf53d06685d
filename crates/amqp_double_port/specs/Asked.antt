-- What the words behind `double` ask for: a port, and how many clients are served, where that is said.
use Rattle.std.specs.Prelude.{◌≡◌, ◌<◌, ◌^◌, ℕ, List, [], ◌∷◌, Option, Some, None}
use Rattle.std.specs.Str.Parse.{IsNumeral, digits_value}
use Rattle.amqp_double_port.specs.declared.listening.Asked.{Asked}

-- a word is decimal digits of a number below this limit
abbrev pub IsBelow : ℕ → List ℕ → Type 0
IsBelow limit word = IsNumeral 10 word × (digits_value 10 word < limit)

-- the number that a word is, where it is one below this limit
abbrev pub IsNumberBelow : ℕ → List ℕ → Option ℕ → Type 0
IsNumberBelow limit word (Some number) = IsBelow limit word × (number ≡ digits_value 10 word)
IsNumberBelow limit word None = IsBelow limit word → ⊥

-- a port of 16 bits; and a number of clients of 64 bits, or none, which is as many as come
abbrev pub IsAskedBy : List (List ℕ) → Asked → Type 0
IsAskedBy (port ∷ []) asked = IsNumberBelow (2 ^ 16) port (Some asked.port) × (asked.clients ≡ None)
IsAskedBy (port ∷ clients ∷ []) asked =
    IsNumberBelow (2 ^ 16) port (Some asked.port)
    × ((count : ℕ) × IsNumberBelow (2 ^ 64) clients (Some count) × (asked.clients ≡ Some count))
IsAskedBy _ asked = ⊥
