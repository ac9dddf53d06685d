use Rattle.amqp_check.proofs.Expecting.{what-follows}
use Rattle.amqp_check.proofs.laws.what_may_follow.Goals as goal

pub returns : goal.returns
returns c = what-follows
