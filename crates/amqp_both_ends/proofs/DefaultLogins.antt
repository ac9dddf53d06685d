-- What the provider of an address answers to a login can be said, where its start-ok is short.
use Rattle.std.proofs.Common.{◌≤◌, sym, subst, [], ◌∷◌, ◌++◌, length}
use Rattle.amqp_frame.specs.Frames.{encoding}
use Rattle.amqp_uri.specs.Login.{Login, sasl_text}
use Rattle.amqp_uri.specs.declared.mechanism.SASLMechanism.{SASLMechanism}
use Rattle.amqp_uri.specs.Mechanisms.{name_of}
use Rattle.amqp_auth.specs.declared.asked.Question.{Question}
use Rattle.amqp_auth.specs.declared.asked.Question.TheVariants as question
use Rattle.amqp_auth.specs.declared.asked.Asked.{Asked}
use Rattle.amqp_auth.specs.Providers.{Exchange, Allows}
use Rattle.amqp_auth.specs.DefaultAnswers.{default_answer, AnswersEach}
use Rattle.amqp_settings.specs.Config.{Options}
use Rattle.amqp_settings.specs.Handshake.{start_ok}
use Rattle.amqp_faultless.specs.Faultless.{AreSayable}
use Rattle.amqp_both_ends.specs.Logins.{AskLogins, questions_of, answers_of, SaysLogins}

allows-all : (f : Question → Asked) (x : Exchange) → Allows (AnswersEach f) x → AnswersEach f x
allows-all f [] h = tt
allows-all f (pair ∷ x) h = h

each-later : (f : Question → Asked) (x y : Exchange) → AnswersEach f (x ++ y) → AnswersEach f y
each-later f [] y h = h
each-later f ((q, a) ∷ x) y h = each-later f x y h.1

each-first : (f : Question → Asked) (x y : Exchange) → AnswersEach f (x ++ y) → AnswersEach f x
each-first f [] y h = tt
each-first f ((q, a) ∷ x) y h = (h.0, each-first f x y h.1)

module _ (options : Options) (mechanism : SASLMechanism) (login : Login) (short : length (encoding (start_ok options (name_of mechanism) (sasl_text mechanism login))) ≤ 131072) where
  abbrev f : Question → Asked
  f = default_answer mechanism login

  each-sayable : (x : Exchange) → AnswersEach f x → AskLogins (questions_of x) → AreSayable options (answers_of x)
  each-sayable [] h asks = tt
  each-sayable ((question.Mechanism, a) ∷ (question.Starter, b) ∷ x) h asks =
      let P : Asked → Type 0 = λ y. AreSayable options (y ∷ b ∷ answers_of x) in
      let Q : Asked → Type 0 = λ y. AreSayable options (f question.Mechanism ∷ y ∷ answers_of x) in
      subst P (sym h.0) (subst Q (sym h.1.0) (short, each-sayable x h.1.1 asks))
  each-sayable (pair ∷ x) h asks = absurd asks

  pub default-says : SaysLogins options (AnswersEach f)
  default-says before logins later allowed asks =
      each-sayable logins (each-first f logins later (each-later f before (logins ++ later) (allows-all f (before ++ (logins ++ later)) allowed))) asks
