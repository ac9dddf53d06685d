use Rattle.std.proofs.Common.{ap, length, arith}
use Rattle.amqp_outbox.specs.Queued.{Queued, waiting_items}
use Rattle.amqp_outgoing.proofs.outgoing.Outgoing.drop_reply.Goals as goal

pub returns-clause-frames : goal.returns-clause-frames
returns-clause-frames c k n octets has =
    let left = ap (λ (q : Queued). length (waiting_items q)) c.drop_reply.ensures.rest in
    (c.drop_reply.ensures.control k n octets has.0, omega (arith, left, has.1))
