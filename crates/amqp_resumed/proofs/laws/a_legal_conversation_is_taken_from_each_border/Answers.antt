use Rattle.amqp_resumed.proofs.Beginning.{legal-taken}
use Rattle.amqp_resumed.proofs.laws.a_legal_conversation_is_taken_from_each_border.Goals as goal

pub returns : goal.returns
returns c = legal-taken
