-- The commands so far, before the publishes that are left, are those before and all publishes.
use Rattle.std.proofs.Common.{◌≡◌, ◌+◌, ◌-◌, ◌++◌, map}
use Rattle.std.specs.List.{range_with_len}
use Rattle.amqp_doubled.specs.Numbers.{hello_command}
use Rattle.amqp_doubled.proofs.commands.push_publishings.Given as goal

abbrev pub invariant-channels : goal.invariant-channels
invariant-channels l =
    l.commands.items ++ map hello_command (range_with_len l.id (l.count + 1 - l.id))
    ≡ l.fn.commands.items ++ map hello_command (range_with_len 1 l.count)
