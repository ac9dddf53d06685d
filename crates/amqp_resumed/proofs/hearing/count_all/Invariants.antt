use Rattle.std.proofs.Common.{◌≡◌, ◌≤◌, ◌-◌, List, length}
use Rattle.amqp_frame.specs.declared.frame.Frame.{Frame}
use Rattle.amqp_frame.specs.Sequences.{Stand}
use Rattle.amqp_check.specs.Verdicts.{no_limit}
use Rattle.amqp_resumed.proofs.hearing.count_all.Given as goal

abbrev pub invariant-counted : goal.invariant-counted
invariant-counted l = (l.place ≤ length l.bytes) × (l.count ≤ l.place)
    × ((frames : List Frame) × Stand l.bytes no_limit 0 frames l.place × (l.count ≡ length frames))

abbrev pub decreases-counted : goal.decreases-counted
decreases-counted l = length l.bytes - l.place
