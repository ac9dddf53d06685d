-- How a provider is asked to log in, and that what it answers can be said.
use Rattle.std.specs.Prelude.{List, [], ◌∷◌, ◌++◌, map}
use Rattle.amqp_auth.specs.declared.asked.Question.{Question}
use Rattle.amqp_auth.specs.declared.asked.Question.TheVariants as question
use Rattle.amqp_auth.specs.declared.asked.Asked.{Asked}
use Rattle.amqp_auth.specs.Providers.{Exchange, Allows}
use Rattle.amqp_settings.specs.Config.{Options}
use Rattle.amqp_faultless.specs.Faultless.{AreSayable}

-- nothing is asked but by which mechanism a client starts and what it says first, one after the other
abbrev pub AskLogins : List Question → Type 0
AskLogins [] = Unit {0}
AskLogins (question.Mechanism ∷ question.Starter ∷ questions) = AskLogins questions
AskLogins _ = ⊥

-- the questions of an exchange
abbrev pub questions_of : Exchange → List Question
questions_of exchange = map (λ (pair : Question × Asked). pair.0) exchange

-- and its answers
abbrev pub answers_of : Exchange → List Asked
answers_of exchange = map (λ (pair : Question × Asked). pair.1) exchange

-- wherever a provider in this state is asked to log in, what it answers can be said
abbrev pub SaysLogins : Options → (Exchange → Type 0) → Type 0
SaysLogins options state =
    (before logins later : Exchange) → Allows state (before ++ (logins ++ later)) → AskLogins (questions_of logins)
    → AreSayable options (answers_of logins)
