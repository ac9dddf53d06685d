-- The first frame of a client that it may not say.
use Rattle.std.specs.Prelude.{◌≡◌, ℕ, List, [], ◌∷◌, ◌++◌, length}
use Rattle.amqp_frame.specs.declared.frame.Frame.{Frame}
use Rattle.amqp_frame.specs.declared.frame.Read.TheVariants.{Whole}
use Rattle.amqp_frame.specs.Sequences.{front_at, Stand, SequenceEnd, IsSequence}
use Rattle.amqp_legal.specs.Legal.{Legal}
use Rattle.amqp_legal.specs.Speeches.{HasSaid}
use Rattle.amqp_legal.specs.declared.speech.Speech.{Speech as Spoken}
use Rattle.amqp_check.specs.Verdicts.{no_limit}
use Rattle.amqp_check.specs.declared.finding.Finding.{Finding}

-- what follows the first frame
abbrev pub behind_first : List Frame → List Frame
behind_first [] = []
behind_first (f ∷ frames) = frames

-- frames that are a legal conversation, and the speech that says them; of no frame it is that of the header alone
pub record IsLegallySaid (frames : List Frame) (s : Spoken) : Type 0 where
  pub legal : Legal frames
  pub said : HasSaid (behind_first frames) s

-- so many frames stand before its place, they are legal, and the speech says them; it stands there, and with it they
-- are not legal
pub record IsFinding (client : List ℕ) (f : Finding) : Type 0 where
  pub before : List Frame
  pub size : ℕ
  pub stand : Stand client no_limit 0 before f.place
  pub here : front_at client no_limit f.place ≡ Whole f.frame size
  pub count : f.number ≡ length before
  pub so_far : IsLegallySaid before f.said
  pub illegal : Legal (before ++ f.frame ∷ []) → ⊥

-- the whole frames of one side, however it ends behind them, are legal
abbrev pub IsLegalSide : List ℕ → Type 0
IsLegalSide client =
    (frames : List Frame) × (place : ℕ) × (ending : SequenceEnd) × IsSequence client no_limit frames place ending
    × Legal frames
