use Rattle.amqp_engine.proofs.Accounting.{history-carried}
use Rattle.amqp_engine.proofs.Carrying.{all-carried}
use Rattle.amqp_engine.proofs.laws.what_is_told_is_carried.Goals as goal

pub returns-clause-history : goal.returns-clause-history
returns-clause-history c = history-carried

pub returns-clause-turns : goal.returns-clause-turns
returns-clause-turns c = all-carried
