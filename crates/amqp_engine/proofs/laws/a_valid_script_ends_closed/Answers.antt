use Rattle.amqp_engine.proofs.Closed.{valid-opened, valid-closed}
use Rattle.amqp_engine.proofs.laws.a_valid_script_ends_closed.Goals as goal

pub returns-clause-opened : goal.returns-clause-opened
returns-clause-opened c = valid-opened

pub returns-clause-closed : goal.returns-clause-closed
returns-clause-closed c = valid-closed
