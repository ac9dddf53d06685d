use Rattle.amqp_engine.proofs.Running.{Runs-none, Runs-over}
use Rattle.amqp_engine.proofs.laws.a_run_without_turns_touches_nothing.Goals as goal

pub returns-clause-allowed : goal.returns-clause-allowed
returns-clause-allowed c = Runs-none

pub returns-clause-ended : goal.returns-clause-ended
returns-clause-ended c = Runs-over
