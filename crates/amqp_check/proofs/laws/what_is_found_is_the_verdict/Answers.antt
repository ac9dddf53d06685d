use Rattle.amqp_check.proofs.Blame.{found-verdict}
use Rattle.amqp_check.proofs.laws.what_is_found_is_the_verdict.Goals as goal

pub returns : goal.returns
returns c = found-verdict
