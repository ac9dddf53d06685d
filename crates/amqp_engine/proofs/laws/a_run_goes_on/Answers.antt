use Rattle.amqp_engine.proofs.Running.{Runs-append}
use Rattle.amqp_engine.proofs.laws.a_run_goes_on.Goals as goal

pub returns : goal.returns
returns c = Runs-append
