-- The copies, and what is still to be copied.
use Rattle.std.proofs.Common.{◌≡◌, ◌++◌}
use Rattle.amqp_maps.proofs.copies.by_number.Given as goal

abbrev pub invariant-loop-number : goal.invariant-loop-number
invariant-loop-number g l = l.copy.entries ++ l.number-iterator ≡ l.map.entries
