use Rattle.std.proofs.Common.{◌≤◌, ◌-◌, List, length}
use Rattle.amqp_frame.specs.declared.frame.Frame.{Frame}
use Rattle.amqp_frame.specs.Sequences.{Stand}
use Rattle.amqp_check.specs.Verdicts.{no_limit}
use Rattle.amqp_resumed.specs.HeardRests.{HasHeardRest}
use Rattle.amqp_resumed.proofs.hearing.hear_all.Given as goal

abbrev pub invariant-frames : goal.invariant-frames
invariant-frames l = (l.place ≤ length l.bytes) × (l.hearing.frames ≤ l.place)
    × ((frames : List Frame) × Stand l.bytes no_limit 0 frames l.place × HasHeardRest frames l.hearing)

abbrev pub decreases-frames : goal.decreases-frames
decreases-frames l = length l.bytes - l.place
