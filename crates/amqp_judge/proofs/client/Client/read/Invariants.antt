use Rattle.std.proofs.Common.{◌-◌, ℕ, List, ◌++◌, length}
use Rattle.amqp_frame.specs.declared.frame.Frame.{Frame}
use Rattle.amqp_check.specs.Hearing.{HasHeard}
use Rattle.amqp_judge.specs.Taken.{IsReadUpTo, HasHeardClient}
use Rattle.amqp_judge.proofs.client.Client.read.Given as goal

-- the frames so far were read of all octets, and heard
abbrev pub invariant-frames : goal.invariant-frames
invariant-frames l =
    (octets : List ℕ) → HasHeardClient octets l.fn.self
    → (frames : List Frame) × IsReadUpTo (octets ++ l.piece) frames l.self.side × HasHeard frames l.self.judge

abbrev pub decreases-frames : goal.decreases-frames
decreases-frames l = length l.self.side.unread.items - l.self.side.at
