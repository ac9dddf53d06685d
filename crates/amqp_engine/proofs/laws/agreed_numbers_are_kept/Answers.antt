use Rattle.amqp_engine.proofs.WrittenLinks.{sent_agreed, turns_agreed}
use Rattle.amqp_engine.proofs.laws.agreed_numbers_are_kept.Goals as goal

pub returns-clause-committed : goal.returns-clause-committed
returns-clause-committed c = sent_agreed

pub returns-clause-turns : goal.returns-clause-turns
returns-clause-turns c = turns_agreed
