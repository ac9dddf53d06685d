use Rattle.amqp_methods.proofs.Reading.{deliver_again, ack_again, nack_again}
use Rattle.amqp_methods.proofs.laws.what_is_heard_is_read.Goals as goal

pub returns-clause-deliver : goal.returns-clause-deliver
returns-clause-deliver c = deliver_again

pub returns-clause-ack : goal.returns-clause-ack
returns-clause-ack c = ack_again

pub returns-clause-nack : goal.returns-clause-nack
returns-clause-nack c = nack_again
