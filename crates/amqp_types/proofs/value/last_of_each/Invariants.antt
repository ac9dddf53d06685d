use Rattle.std.proofs.Common.{◌≡◌, map}
use Rattle.amqp_types.specs.View.{pair_of, named_value}
use Rattle.amqp_types.specs.Table.{map_of}
use Rattle.amqp_types.proofs.value.last_of_each.Given as goal

abbrev pub invariant-loop-entry : goal.invariant-loop-entry
invariant-loop-entry l = map named_value l.last.entries ≡ map_of (map pair_of l.yielded)
