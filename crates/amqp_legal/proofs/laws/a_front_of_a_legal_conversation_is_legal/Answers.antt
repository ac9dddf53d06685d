use Rattle.amqp_legal.proofs.Saying.{front-legal}
use Rattle.amqp_legal.proofs.laws.a_front_of_a_legal_conversation_is_legal.Goals as goal

pub returns : goal.returns
returns c = front-legal
