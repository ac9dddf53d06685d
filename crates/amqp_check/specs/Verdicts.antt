-- The verdict on a captured link: the octets of its client, and those of its server (AMQP 0-9-1, 4.2.2 and 4.2.3).
use Rattle.std.specs.Prelude.{◌≡◌, ℕ, suc, ◌<◌, List, length, take}
use Rattle.amqp_frame.specs.declared.frame.Frame.{Frame}
use Rattle.amqp_frame.specs.Sequences.{IsSequence}
use Rattle.amqp_frame.specs.Sequences.SequenceEnd.{Complete, Cut, Broken}
use Rattle.amqp_legal.specs.Legal.{Legal}
use Rattle.amqp_check.specs.declared.capture.Verdict.{Verdict}
use Rattle.amqp_check.specs.declared.capture.Verdict.TheVariants as verdict

-- ---- one side

-- the greatest limit: of sizes only one that no limit admits is refused
abbrev pub no_limit : ℕ
no_limit = 4294967295

-- the octets are these frames, one after another, and nothing else
abbrev pub OnlyFrames : List ℕ → List Frame → Type 0
OnlyFrames bytes frames = IsSequence bytes no_limit frames (length bytes) Complete

-- the octets are frames and nothing else
abbrev pub IsOnlyFrames : List ℕ → Type 0
IsOnlyFrames bytes = (frames : List Frame) × OnlyFrames bytes frames

-- at this place, behind whole frames, no frame stands, whatever follows
abbrev pub IsBadAt : List ℕ → ℕ → Type 0
IsBadAt bytes place = (frames : List Frame) × IsSequence bytes no_limit frames place Broken

-- at this place, behind whole frames, a frame begins that is not all there
abbrev pub IsCutAt : List ℕ → ℕ → Type 0
IsCutAt bytes place = (frames : List Frame) × IsSequence bytes no_limit frames place Cut

-- ---- the conversation

-- the frame of this number, counted from 0, is the first by which a conversation is not legal
pub record IsFirstIllegal (frames : List Frame) (i : ℕ) : Type 0 where
  pub within : i < length frames
  pub illegal : Legal (take (suc i) frames) → ⊥
  pub least : (j : ℕ) → j < i → Legal (take (suc j) frames)

-- ---- both sides

-- the client's side is looked at first, then the server's, and then what the client said
abbrev pub IsVerdict : List ℕ → List ℕ → Verdict → Type 0
IsVerdict client server (verdict.BadClient place) = IsBadAt client place
IsVerdict client server (verdict.CutClient place) = IsCutAt client place
IsVerdict client server (verdict.BadServer place) = IsOnlyFrames client × IsBadAt server place
IsVerdict client server (verdict.CutServer place) = IsOnlyFrames client × IsCutAt server place
IsVerdict client server (verdict.Illegal i) =
    (said : List Frame) × OnlyFrames client said × IsOnlyFrames server × IsFirstIllegal said i
IsVerdict client server (verdict.Legal frames others) =
    (said : List Frame) × (answered : List Frame) × OnlyFrames client said × OnlyFrames server answered
    × Legal said × (frames ≡ length said) × (others ≡ length answered)
