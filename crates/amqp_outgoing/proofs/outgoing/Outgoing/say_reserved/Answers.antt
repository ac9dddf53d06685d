use Rattle.std.proofs.Common.{ap, length, arith}
use Rattle.amqp_outbox.specs.Queued.{Queued, waiting_items}
use Rattle.amqp_outbox.proofs.Waiting.{control-more}
use Rattle.amqp_outgoing.specs.Outgoings.{queue_of}
use Rattle.amqp_outgoing.proofs.outgoing.Outgoing.say_reserved.Goals as goal

pub returns-clause-frames : goal.returns-clause-frames
returns-clause-frames c n octets has =
    let said = ap (λ (q : Queued). length (waiting_items q)) c.push_control_reserved.ensures.queued in
    let more = (control-more c.args.item (queue_of c.args.self.now)).0 in
    (c.push_control_reserved.ensures.control n octets has.0, omega (arith, said, more, has.1))
