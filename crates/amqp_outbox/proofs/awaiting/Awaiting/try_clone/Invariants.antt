-- What is awaited in the copy, and what is still to be copied.
use Rattle.std.proofs.Common.{◌≡◌, ◌++◌}
use Rattle.amqp_outbox.specs.Order.{seen}
use Rattle.amqp_outbox.specs.Parts.{list_seen}
use Rattle.amqp_outbox.proofs.awaiting.Awaiting.try_clone.Given as goal

abbrev pub invariant-loop-channel : goal.invariant-loop-channel
invariant-loop-channel l = seen list_seen l.copy.lists.entries ++ seen list_seen l.channel-iterator ≡ seen list_seen l.self.lists.entries
