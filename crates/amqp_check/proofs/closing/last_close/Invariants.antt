use Rattle.std.proofs.Common.{◌≤◌, ◌-◌, length}
use Rattle.amqp_check.proofs.closing.last_close.Given as goal

abbrev pub invariant-closes : goal.invariant-closes
invariant-closes l = (l.place ≤ length l.octets) × (l.number ≤ l.place)

abbrev pub decreases-closes : goal.decreases-closes
decreases-closes l = length l.octets - l.place
