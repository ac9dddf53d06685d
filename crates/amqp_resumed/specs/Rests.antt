-- What a client says from some moment on, where nobody heard its beginning (AMQP 0-9-1, 2.2.4); and the verdict on a
-- capture that begins at a border of frames.
use Rattle.std.specs.Prelude.{◌≡◌, ℕ, suc, ◌<◌, List, length, take, Some, None, is_some, IsTrue}
use Rattle.amqp_frame.specs.declared.frame.Frame.{Frame}
use Rattle.amqp_legal.specs.Decider.{Speech, say}
use Rattle.amqp_check.specs.Verdicts.{OnlyFrames, IsOnlyFrames, IsBadAt, IsCutAt}
use Rattle.amqp_check.specs.declared.capture.Verdict.{Verdict}
use Rattle.amqp_check.specs.declared.capture.Verdict.TheVariants as verdict
use Rattle.amqp_resumed.specs.Resumes.{heard_nothing, say_each_late}

-- each of these frames may be said, as a `Resumed` judges them that heard nothing before
abbrev pub IsTakenLate : List Frame → Type 0
IsTakenLate frames = IsTrue (is_some (say_each_late (Some heard_nothing) frames))

-- no conversation may say it, whatever it said before
abbrev pub IsSaidNowhere : Frame → Type 0
IsSaidNowhere frame = (s : Speech) → say frame s ≡ None

-- the frame of this number, counted from 0, is the first that is not taken
pub record IsFirstWrong (frames : List Frame) (i : ℕ) : Type 0 where
  pub within : i < length frames
  pub wrong : IsTakenLate (take (suc i) frames) → ⊥
  pub least : (j : ℕ) → j < i → IsTakenLate (take (suc j) frames)

-- the verdict on both sides of a capture that begins at a border of frames on each: the client's side is looked at
-- first, then the server's, and then what the client said
abbrev pub IsLateVerdict : List ℕ → List ℕ → Verdict → Type 0
IsLateVerdict client server (verdict.BadClient place) = IsBadAt client place
IsLateVerdict client server (verdict.CutClient place) = IsCutAt client place
IsLateVerdict client server (verdict.BadServer place) = IsOnlyFrames client × IsBadAt server place
IsLateVerdict client server (verdict.CutServer place) = IsOnlyFrames client × IsCutAt server place
IsLateVerdict client server (verdict.Illegal i) =
    (said : List Frame) × OnlyFrames client said × IsOnlyFrames server × IsFirstWrong said i
IsLateVerdict client server (verdict.Legal frames others) =
    (said : List Frame) × (answered : List Frame) × OnlyFrames client said × OnlyFrames server answered
    × IsTakenLate said × (frames ≡ length said) × (others ≡ length answered)
