-- The turns of the commands so far.
use Rattle.std.proofs.Common.{◌≡◌, take}
use Rattle.amqp_joining.specs.Plans.{turns_for_all}
use Rattle.amqp_joining.proofs.plan.turns_for_all.Given as goal

abbrev pub invariant-commands : goal.invariant-commands
invariant-commands l = l.turns ≡ turns_for_all (take l.command-index l.commands)
