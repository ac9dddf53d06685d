-- What was taken of the sides of a link whose octets come in pieces.
use Rattle.std.specs.Prelude.{◌≡◌, ◌≢◌, ◌<◌, ◌≤◌, ◌⊎◌, ℕ, ◌+◌, ◌-◌, ◌^◌, List, length, drop}
use Rattle.amqp_frame.specs.declared.frame.Frame.{Frame}
use Rattle.amqp_frame.specs.Sequences.{Stand, SequenceEnd, IsSequence}
use Rattle.amqp_frame.specs.Sequences.SequenceEnd.{Complete, Cut as InFrame, Broken}
use Rattle.amqp_check.specs.Verdicts.{no_limit}
use Rattle.amqp_check.specs.Hearing.{HasHeard}
use Rattle.amqp_check.specs.declared.end.End.{End}
use Rattle.amqp_check.specs.declared.end.End.TheVariants as at
use Rattle.amqp_judge.specs.declared.side.Ending.{Ending}
use Rattle.amqp_judge.specs.declared.side.Ending.TheVariants.{Whole, Cut, Bad}
use Rattle.amqp_judge.specs.declared.side.Side.{Side}
use Rattle.amqp_judge.specs.declared.side.TheConstants.{MOST_UNREAD}
use Rattle.amqp_judge.specs.declared.client.Client.{Client}
use Rattle.amqp_judge.specs.declared.server.Server.{Server}
use Rattle.amqp_judge.specs.declared.judging.Judging.{Judging}

-- ---- one side

-- how octets end, as the code keeps it
abbrev pub sequence_end : Ending → SequenceEnd
sequence_end Whole = Complete
sequence_end Cut = InFrame
sequence_end Bad = Broken

-- how they end, by what stands where the next frame would begin
abbrev pub ending_for : End → Ending
ending_for at.Whole = Whole
ending_for (at.Cut place) = Cut
ending_for (at.Bad place) = Bad

-- these frames stand up to a side's place, and the octets from there on are kept
pub record IsReadUpTo (octets : List ℕ) (frames : List Frame) (side : Side) : Type 0 where
  pub stand : Stand octets no_limit 0 frames side.place
  pub rest : drop side.place octets ≡ drop side.at side.unread.items
  pub count : length octets ≡ side.place + (length side.unread.items - side.at)

-- all whole frames were read, and behind them the octets end so; where a frame may still follow, they are kept
pub record IsTaken (octets : List ℕ) (frames : List Frame) (side : Side) : Type 0 where
  pub sequence : IsSequence octets no_limit frames side.place (sequence_end side.ending)
  pub kept : side.ending ≢ Bad → IsReadUpTo octets frames side

-- with so many octets more it would keep more than the most that are kept, or have more than 64 bits count
abbrev pub IsTooMuch : Side → ℕ → Type 0
IsTooMuch side more =
    (MOST_UNREAD < length side.unread.items - side.at + more)
    ⊎ (2 ^ 64 ≤ side.place + (length side.unread.items - side.at) + more)

-- ---- both

-- the client's frames were heard
pub record HasHeardClient (octets : List ℕ) (client : Client) : Type 0 where
  pub frames : List Frame
  pub taken : IsTaken octets frames client.side
  pub heard : HasHeard frames client.judge

-- the server's were counted
pub record HasCountedServer (octets : List ℕ) (server : Server) : Type 0 where
  pub frames : List Frame
  pub taken : IsTaken octets frames server.side
  pub count : server.frames ≡ length frames

-- these octets of both sides were taken
pub record HasTakenSides (client server : List ℕ) (judging : Judging) : Type 0 where
  pub said : HasHeardClient client judging.client
  pub answered : HasCountedServer server judging.server
