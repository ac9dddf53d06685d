use Rattle.amqp_methods.proofs.Reading.{deliver_takes, ack_takes, nack_takes}
use Rattle.amqp_methods.proofs.laws.what_is_read_was_spelled.Goals as goal

pub returns-clause-deliver : goal.returns-clause-deliver
returns-clause-deliver c = deliver_takes

pub returns-clause-ack : goal.returns-clause-ack
returns-clause-ack c = ack_takes

pub returns-clause-nack : goal.returns-clause-nack
returns-clause-nack c = nack_takes
