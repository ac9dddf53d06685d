-- The copies, and what is still to be copied.
use Rattle.std.proofs.Common.{◌≡◌, ◌++◌}
use Rattle.amqp_maps.proofs.copies.by_channel.Given as goal

abbrev pub invariant-loop-id : goal.invariant-loop-id
invariant-loop-id g l = l.copy.entries ++ l.id-iterator ≡ l.map.entries
