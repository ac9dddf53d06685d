use Rattle.amqp_types.proofs.SameValues.{AMQPValue_decides}
use Rattle.amqp_types.proofs.equality.AMQPValuePartialEq.eq.Goals as goal

pub returns-clause-equal : goal.returns-clause-equal
returns-clause-equal c = rw c.same.ensures (AMQPValue_decides c.args.self.now c.args.other.now)
