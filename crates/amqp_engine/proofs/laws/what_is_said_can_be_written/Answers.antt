use Rattle.amqp_engine.proofs.WrittenLinks.{sent_writable, turns_writable}
use Rattle.amqp_engine.proofs.laws.what_is_said_can_be_written.Goals as goal

pub returns-clause-committed : goal.returns-clause-committed
returns-clause-committed c = sent_writable

pub returns-clause-turns : goal.returns-clause-turns
returns-clause-turns c = turns_writable
