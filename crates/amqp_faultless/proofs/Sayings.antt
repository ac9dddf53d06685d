-- A provider that answers what it is asked and never refuses: what each question gets, and what is left for those after it.
use Rattle.std.proofs.Common.{ℕ, true≢false, List, [], ◌∷◌, drop, Ok, Err, sym}
use Rattle.amqp_auth.specs.declared.asked.Question.{Question}
use Rattle.amqp_auth.specs.declared.asked.Question.TheVariants as question
use Rattle.amqp_auth.specs.declared.asked.Asked.{Asked}
use Rattle.amqp_auth.specs.declared.asked.Asked.TheVariants as answer
use Rattle.amqp_auth.specs.Asking.{Answer}
use Rattle.amqp_settings.specs.Config.{Options}
use Rattle.amqp_faultless.specs.Faultless.{AreSayable}
use Rattle.amqp_faultless.proofs.Greeted.{AreSaid}

module _ (options : Options) (later : List Question) where
  -- start
  pub said-start : (answers : List Asked) → Answer (question.Mechanism ∷ question.Starter ∷ later) answers → AreSayable options answers
      → AreSaid (question.Mechanism ∷ question.Starter ∷ []) answers × Answer later (drop 2 answers) × AreSayable options (drop 2 answers)
  said-start [] h k = absurd h
  said-start (answer.Mechanism name ∷ []) h k = absurd h.1
  said-start (answer.Mechanism name ∷ answer.Starter (Ok said) ∷ rest) h k = (tt, h.1.1, k.1)
  said-start (answer.Mechanism name ∷ answer.Starter (Err text) ∷ rest) h k = absurd k
  said-start (answer.Mechanism name ∷ x ∷ rest) h k = absurd k
  said-start (x ∷ rest) h k = absurd (true≢false (sym h.0))

  -- a challenge
  pub said-challenge : (challenge : List ℕ) (answers : List Asked) → Answer (question.Challenge challenge ∷ later) answers → AreSayable options answers
      → AreSaid (question.Challenge challenge ∷ []) answers × Answer later (drop 1 answers) × AreSayable options (drop 1 answers)
  said-challenge challenge [] h k = absurd h
  said-challenge challenge (answer.Challenge (Ok said) ∷ rest) h k = (tt, h.1, k.1)
  said-challenge challenge (answer.Challenge (Err text) ∷ rest) h k = absurd k
  said-challenge challenge (x ∷ rest) h k = absurd (true≢false (sym h.0))
