use Rattle.amqp_check.proofs.Uniqueness.{one-verdict}
use Rattle.amqp_check.proofs.laws.captures_have_one_verdict.Goals as goal

pub returns : goal.returns
returns c = one-verdict
