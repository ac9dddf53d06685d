use Rattle.std.proofs.Common.{◌≤◌, ◌-◌, length}
use Rattle.amqp_resumed.proofs.finding.first_wrong.Given as goal

abbrev pub invariant-heard : goal.invariant-heard
invariant-heard l = (l.place ≤ length l.client) × (l.hearing.frames ≤ l.place)

abbrev pub decreases-heard : goal.decreases-heard
decreases-heard l = length l.client - l.place
