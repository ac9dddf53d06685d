-- What waits in the copy, and what is still to be copied.
use Rattle.std.proofs.Common.{◌≡◌, ◌++◌}
use Rattle.amqp_outbox.specs.Order.{waiting}
use Rattle.amqp_outbox.proofs.lane.Lane.try_clone.Given as goal

abbrev pub invariant-loop-slot : goal.invariant-loop-slot
invariant-loop-slot g l = waiting l.copy.slots.entries ++ waiting l.slot-iterator ≡ waiting l.self.slots.entries
