use Rattle.amqp_engine.proofs.SpelledLinks.{read-back, read-any, all-read-back, all-read-any}
use Rattle.amqp_engine.proofs.laws.what_is_said_is_read_back.Goals as goal

pub returns-clause-link : goal.returns-clause-link
returns-clause-link c = read-back

pub returns-clause-committed : goal.returns-clause-committed
returns-clause-committed c = all-read-back

pub returns-clause-any : goal.returns-clause-any
returns-clause-any c = read-any

pub returns-clause-greatest : goal.returns-clause-greatest
returns-clause-greatest c = all-read-any
