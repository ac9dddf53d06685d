use Rattle.amqp_promise.proofs.FirstCompletions.{is_first_completion}
use Rattle.amqp_promise.proofs.laws.a_first_completion_is_taken_once.Goals as goal

pub returns : goal.returns
returns g c = is_first_completion
