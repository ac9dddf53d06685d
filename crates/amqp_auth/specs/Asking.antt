-- What comes of questions to a provider.
use Rattle.std.specs.Prelude.{◌≡◌, Bool, true, false, IsTrue, List, [], ◌∷◌, ◌++◌, take, length, Result, Ok, Err, IsErr}
use Rattle.amqp_types.specs.declared.memory.NoMemory.{NoMemory as WantOfMemory}
use Rattle.amqp_types.specs.declared.strings.LongString.{LongString}
use Rattle.amqp_types.specs.declared.text.Text.{Text}
use Rattle.amqp_auth.specs.declared.asked.Question.{Question}
use Rattle.amqp_auth.specs.declared.asked.Question.TheVariants as question
use Rattle.amqp_auth.specs.declared.asked.Asked.{Asked}
use Rattle.amqp_auth.specs.declared.asked.Asked.TheVariants as answer
use Rattle.amqp_auth.specs.declared.asked.Refusal.{Refusal}
use Rattle.amqp_auth.specs.declared.asked.Refusal.TheVariants.{Said, NoMemory}
use Rattle.amqp_auth.specs.Providers.{Exchange, Allows, GoesBefore}

-- questions with answers, as far as both go
abbrev pub paired : List Question → List Asked → Exchange
paired (asked ∷ later) (given ∷ rest) = (asked, given) ∷ paired later rest
paired _ _ = []

-- a question was answered, and the answer was put last into the list
pub record Answered (asked : Question) (given : Asked) (before after : Exchange → Type 0) (list list' : List Asked)
    : Type 0 where
  -- the list grew by the answer
  pub listed : list' ≡ list ++ given ∷ []
  -- the provider may give it
  pub allowed : GoesBefore before after asked given

-- an answer has its question's form
abbrev pub fits : Question → Asked → Bool
fits question.Mechanism (answer.Mechanism name) = true
fits question.Starter (answer.Starter said) = true
fits (question.Challenge challenge) (answer.Challenge said) = true
fits question.ValidFor (answer.ValidFor time) = true
fits question.Refresh (answer.Refreshed said) = true
fits asked given = false

-- these are answers to these questions, one to each
abbrev pub Answer : List Question → List Asked → Type 0
Answer [] [] = Unit {0}
Answer (asked ∷ later) (given ∷ rest) = IsTrue (fits asked given) × Answer later rest
Answer _ _ = ⊥

-- memory was refused after the first of these questions were answered, and no other answer was listed; what is asked
-- may go by the answers to what was asked before
pub record Unanswered (asked : List Asked → List Question) (before : Exchange → Type 0) (list list' : List Asked)
    : Type 0 where
  -- what was answered
  pub answers : List Asked
  -- the list grew by that
  pub listed : list' ≡ list ++ answers
  -- one answers each of the first questions, and the others were not answered
  pub fits : Answer (take (length answers) (asked answers)) answers
  -- the provider may give it
  pub allowed : Allows before (paired (asked answers) answers)

-- these questions were answered so, and the answers were put last into the list
pub record Asks (asked : List Question) (answers : List Asked) (before after : Exchange → Type 0)
    (list list' : List Asked) : Type 0 where
  -- the list grew by the answers
  pub listed : list' ≡ list ++ answers
  -- one answers each question
  pub all : Answer asked answers
  -- the provider may give them
  pub allowed : (rest : Exchange) → Allows after rest → Allows before (paired asked answers ++ rest)

-- that memory was refused, apart from what was said
abbrev pub IsSaid : Result LongString Refusal → Result (Result LongString Text) WantOfMemory → Type 0
IsSaid (Ok octets) result = result ≡ Ok (Ok octets)
IsSaid (Err (Said text)) result = result ≡ Ok (Err text)
IsSaid (Err NoMemory) result = IsErr result
