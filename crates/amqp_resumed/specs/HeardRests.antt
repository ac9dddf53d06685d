-- What was heard of a client from some border on, as the code keeps it.
use Rattle.std.specs.Prelude.{◌≡◌, ℕ, List, length, Option, Some, None}
use Rattle.amqp_frame.specs.declared.frame.Frame.{Frame}
use Rattle.amqp_resumed.specs.declared.resumed.Resumed.{Resumed}
use Rattle.amqp_resumed.specs.declared.hearing.Hearing.{Hearing}
use Rattle.amqp_resumed.specs.Resumes.{HasHeardLate}
use Rattle.amqp_resumed.specs.Rests.{IsFirstWrong}

-- all may be said; or a first one may not
abbrev pub IsHeardRest : List Frame → Option ℕ → Resumed → Type 0
IsHeardRest frames None r = HasHeardLate frames r
IsHeardRest frames (Some i) r = IsFirstWrong frames i

-- these frames were heard
pub record HasHeardRest (frames : List Frame) (hearing : Hearing) : Type 0 where
  pub count : hearing.frames ≡ length frames
  pub judged : IsHeardRest frames hearing.wrong hearing.said
