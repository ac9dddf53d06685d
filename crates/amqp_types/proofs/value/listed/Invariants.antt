use Rattle.std.proofs.Common.{◌≡◌, ◌++◌, map}
use Rattle.amqp_types.specs.View.{pair_of, named_value}
use Rattle.amqp_types.proofs.value.listed.Given as goal

abbrev pub invariant-loop-name : goal.invariant-loop-name
invariant-loop-name l = map pair_of l.entries.items ++ map named_value l.name-iterator ≡ map named_value l.fn.last.entries
