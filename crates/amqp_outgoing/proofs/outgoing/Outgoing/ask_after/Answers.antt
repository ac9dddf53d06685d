use Rattle.std.proofs.Common.{subst, ℕ}
use Rattle.amqp_outgoing.specs.Outgoings.{HasAwaitedPlace}
use Rattle.amqp_outgoing.proofs.outgoing.Outgoing.ask_after.Goals as goal

pub say_both_awaited-requires-clause-reply : goal.say_both_awaited-requires-clause-reply
say_both_awaited-requires-clause-reply c =
    subst (λ (n : ℕ). HasAwaitedPlace n c.args.awaited.reply c.reserve_reply.new.self) c.channel-id.ensures c.in_default.ensures.place
