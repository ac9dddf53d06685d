-- What a provider of authentication may answer.
use Rattle.std.specs.Prelude.{ℕ, List, [], ◌∷◌, Option, Result, Ok, Err}
use Rattle.amqp_types.specs.declared.memory.NoMemory.{NoMemory as WantOfMemory}
use Rattle.amqp_types.specs.declared.strings.LongString.{LongString}
use Rattle.amqp_types.specs.declared.strings.ShortString.{ShortString}
use Rattle.amqp_types.specs.declared.text.Text.{Text}
use Rattle.amqp_auth.specs.declared.asked.Question.{Question}
use Rattle.amqp_auth.specs.declared.asked.Question.TheVariants as question
use Rattle.amqp_auth.specs.declared.asked.Asked.{Asked}
use Rattle.amqp_auth.specs.declared.asked.Asked.TheVariants as answer
use Rattle.amqp_auth.specs.declared.asked.Refusal.{Refusal}
use Rattle.amqp_auth.specs.declared.asked.Refusal.TheVariants.{Said, NoMemory}
use Rattle.amqp_types.specs.Counts.{Rose}

-- questions with their answers, in order
abbrev pub Exchange : Type 0
Exchange = List (Question × Asked)

-- an exchange may come from a provider's state: the empty one always, and another where the state says so
abbrev pub Allows : (Exchange → Type 0) → Exchange → Type 0
Allows state [] = Unit {0}
Allows state (first ∷ rest) = state (first ∷ rest)

-- what the later state allows is allowed by the earlier one with this question and its answer in front
abbrev pub GoesBefore : (Exchange → Type 0) → (Exchange → Type 0) → Question → Asked → Type 0
GoesBefore before after asked given = (rest : Exchange) → Allows after rest → before ((asked, given) ∷ rest)

-- a question was answered; nothing is said where memory was refused
abbrev pub Replies : (Exchange → Type 0) → (Exchange → Type 0) → Question → (Result LongString Text → Asked)
    → Result LongString Refusal → Type 0
Replies before after asked form (Ok octets) = GoesBefore before after asked (form (Ok octets))
Replies before after asked form (Err (Said text)) = GoesBefore before after asked (form (Err text))
Replies before after asked form (Err NoMemory) = Unit {0}

-- the mechanism was named; nothing is said where memory was refused
abbrev pub Names : (Exchange → Type 0) → Result ShortString WantOfMemory → Type 0
Names state (Ok name) = GoesBefore state state question.Mechanism (answer.Mechanism name)
Names state (Err refused) = Unit {0}

-- the time was told for which the secret is valid
abbrev pub Lasts : (Exchange → Type 0) → Option ℕ → Type 0
Lasts state time = GoesBefore state state question.ValidFor (answer.ValidFor time)

-- a text is said only where the count of refusals rose
abbrev pub Counts : ℕ → ℕ → Result LongString Refusal → Type 0
Counts before now (Err (Said text)) = Rose before now
Counts before now _ = Unit {0}
