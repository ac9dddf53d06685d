-- The commands so far, before the openings that are left, are those before and all openings.
use Rattle.std.proofs.Common.{◌≡◌, ◌+◌, ◌-◌, ◌++◌, replicate}
use Rattle.amqp_commands.specs.declared.command.Cmd.TheVariants.{OpenChannel}
use Rattle.amqp_doubled.proofs.commands.push_openings.Given as goal

abbrev pub invariant-channels : goal.invariant-channels
invariant-channels l =
    l.commands.items ++ replicate (l.count + 1 - l.id) OpenChannel ≡ l.fn.commands.items ++ replicate l.count OpenChannel
