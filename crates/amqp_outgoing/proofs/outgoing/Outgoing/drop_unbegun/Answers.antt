use Rattle.std.proofs.Common.{ap, length, arith}
use Rattle.amqp_outbox.specs.Queued.{Queued, waiting_items}
use Rattle.amqp_outbox.proofs.Waiting.{unbegun-no-more}
use Rattle.amqp_outgoing.specs.Outgoings.{queue_of}
use Rattle.amqp_outgoing.proofs.outgoing.Outgoing.drop_unbegun.Goals as goal

pub returns-clause-frames : goal.returns-clause-frames
returns-clause-frames c k n octets has =
    let left = ap (λ (q : Queued). length (waiting_items q)) c.drop_unbegun.ensures.rest in
    let fewer = (unbegun-no-more (queue_of c.args.self.now)).0 in
    (c.drop_unbegun.ensures.control k n octets has.0, omega (arith, left, fewer, has.1))
