use Rattle.std.proofs.Common.{◌≡◌, map}
use Rattle.amqp_outbox.specs.Items.{plain_item}
use Rattle.amqp_outbox.proofs.group.items_of.Given as goal

abbrev pub invariant-loop-frame : goal.invariant-loop-frame
invariant-loop-frame l = l.items.items ≡ map (plain_item l.channel) l.yielded
