use Rattle.std.proofs.Common.{sym, subst, ℕ}
use Rattle.amqp_outgoing.specs.Outgoings.{HasAwaitedPlace}
use Rattle.amqp_outgoing.proofs.outgoing.Outgoing.ask.Goals as goal

pub expect_reserved-requires : goal.expect_reserved-requires
expect_reserved-requires c =
    subst (λ (n : ℕ). HasAwaitedPlace n c.args.awaited.reply c.say_reserved.new.self) (sym c.channel-id.ensures)
    (c.say_reserved.ensures.reply c.args.item.channel c.args.awaited.reply c.in_default.ensures.place)
