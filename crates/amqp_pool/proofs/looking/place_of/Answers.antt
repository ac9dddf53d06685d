use Rattle.std.proofs.Common.{sym, ◌∙◌, None, add-one}
use Rattle.amqp_outbox.proofs.FirstOfKind.{none-yet}
use Rattle.amqp_commands.specs.declared.command.ChanRef.{ChanRef}
use Rattle.amqp_pool.specs.Pooled.{is_same_channel}
use Rattle.amqp_pool.proofs.looking.place_of.Goals as goal

pub channels-preserved : goal.channels-preserved
channels-preserved c =
    let d : ChanRef = record { id = 0; opened = None } in
    rw add-one
    (none-yet (is_same_channel c.args.wanted) c.args.channels.now c.channels.i d
    c.channels.invariant c.channels-test.true (sym c.is_same.ensures ∙ c.if-is_same.false))
