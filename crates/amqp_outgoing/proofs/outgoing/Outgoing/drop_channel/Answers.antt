use Rattle.std.proofs.Common.{ap, length, arith}
use Rattle.amqp_outbox.specs.Queued.{Queued, waiting_items}
use Rattle.amqp_outgoing.specs.Outgoings.{queue_of}
use Rattle.amqp_outgoing.proofs.Room.{channel-no-more}
use Rattle.amqp_outgoing.proofs.outgoing.Outgoing.drop_channel.Goals as goal

pub invariant_of-self : goal.invariant_of-self
invariant_of-self c =
    let left = ap (λ (q : Queued). length (waiting_items q)) c.drop_channel.ensures.rest in
    let fewer = channel-no-more c.args.id c.args.scope (queue_of c.args.self.now) in
    record { placed = omega (arith, left, fewer, c.args.self.now.placed) }

pub returns-clause-frames : goal.returns-clause-frames
returns-clause-frames c k n octets has =
    let left = ap (λ (q : Queued). length (waiting_items q)) c.drop_channel.ensures.rest in
    let fewer = channel-no-more c.args.id c.args.scope (queue_of c.args.self.now) in
    (c.drop_channel.ensures.control k n octets has.0, omega (arith, left, fewer, has.1))
