use Rattle.std.proofs.Common.{ap, length, arith}
use Rattle.amqp_outbox.specs.Queued.{Queued, waiting_items}
use Rattle.amqp_outgoing.proofs.outgoing.Outgoing.expect_reserved.Goals as goal

pub returns-clause-frames : goal.returns-clause-frames
returns-clause-frames c k n octets has =
    let same = ap (λ (q : Queued). length (waiting_items q)) c.expect_reserved.ensures.queued in
    (c.expect_reserved.ensures.control k n octets has.0, omega (arith, same, has.1))
