use Rattle.std.proofs.Common.{ap, length, arith}
use Rattle.amqp_outbox.specs.Queued.{Queued, waiting_items}
use Rattle.amqp_outgoing.proofs.outgoing.Outgoing.reserve_reply.Goals as goal

pub returns-clause-frames : goal.returns-clause-frames
returns-clause-frames c k n octets has =
    let same = ap (λ (q : Queued). length (waiting_items q)) c.reserve_reply.ensures.same in
    (c.reserve_reply.ensures.control k n octets has.0, omega (arith, same, has.1))
