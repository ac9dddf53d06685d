use Rattle.std.proofs.Common.{◌≡◌, ◌-◌, ℕ, List, ◌++◌, length}
use Rattle.amqp_frame.specs.declared.frame.Frame.{Frame}
use Rattle.amqp_judge.specs.Taken.{IsReadUpTo, HasCountedServer}
use Rattle.amqp_judge.proofs.server.Server.read.Given as goal

-- the frames so far were read of all octets, and counted
abbrev pub invariant-frames : goal.invariant-frames
invariant-frames l =
    (octets : List ℕ) → HasCountedServer octets l.fn.self
    → (frames : List Frame) × IsReadUpTo (octets ++ l.piece) frames l.self.side × (l.self.frames ≡ length frames)

abbrev pub decreases-frames : goal.decreases-frames
decreases-frames l = length l.self.side.unread.items - l.self.side.at
