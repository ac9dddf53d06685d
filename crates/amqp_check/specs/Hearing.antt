-- What is read at a place, and what was heard of a client so far, as the code keeps it.
use Rattle.std.specs.Prelude.{◌≡◌, ℕ, ◌+◌, ◌≤◌, List, length, Option, Some, None}
use Rattle.amqp_frame.specs.declared.frame.Frame.{Frame}
use Rattle.amqp_frame.specs.declared.frame.Read.TheVariants.{Whole}
use Rattle.amqp_frame.specs.Sequences.{front_at, EndsAt, IsSequence}
use Rattle.amqp_frame.specs.Sequences.SequenceEnd.{Complete, Cut, Broken}
use Rattle.amqp_legal.specs.declared.speech.Speech.{Speech as Spoken}
use Rattle.amqp_check.specs.Verdicts.{no_limit, OnlyFrames, IsFirstIllegal}
pub use Rattle.amqp_check.specs.Findings.{IsLegallySaid}
use Rattle.amqp_check.specs.declared.end.End.{End}
use Rattle.amqp_check.specs.declared.end.End.TheVariants as at
use Rattle.amqp_check.specs.declared.frames.Next.{Next}
use Rattle.amqp_check.specs.declared.frames.Next.TheVariants as next
use Rattle.amqp_check.specs.declared.judge.Judge.{Judge}

-- how the octets end behind whole frames, at the place where the last of them ends
abbrev pub EndsHere : List ℕ → ℕ → End → Type 0
EndsHere bytes place at.Whole = EndsAt bytes no_limit place Complete
EndsHere bytes place (at.Bad p) = (place ≡ p) × EndsAt bytes no_limit place Broken
EndsHere bytes place (at.Cut p) = (place ≡ p) × EndsAt bytes no_limit place Cut

-- the whole frames of one side, and how it ends
abbrev pub IsSide : List ℕ → List Frame → End → Type 0
IsSide bytes frames at.Whole = OnlyFrames bytes frames
IsSide bytes frames (at.Bad place) = IsSequence bytes no_limit frames place Broken
IsSide bytes frames (at.Cut place) = IsSequence bytes no_limit frames place Cut

-- a frame that has some octets, all of them there; or an end
abbrev pub IsNext : List ℕ → ℕ → Next → Type 0
IsNext bytes place (next.Frame f n) =
    (front_at bytes no_limit place ≡ Whole f n) × (1 ≤ n) × (place + n ≤ length bytes)
IsNext bytes place (next.End end) = EndsHere bytes place end

-- all may be said; or a first one may not
abbrev pub IsHeard : List Frame → Option ℕ → Spoken → Type 0
IsHeard frames None s = IsLegallySaid frames s
IsHeard frames (Some i) s = IsFirstIllegal frames i

-- these frames were heard
pub record HasHeard (frames : List Frame) (judge : Judge) : Type 0 where
  pub count : judge.frames ≡ length frames
  pub judged : IsHeard frames judge.illegal judge.said
