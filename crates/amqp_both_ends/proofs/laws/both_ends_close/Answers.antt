use Rattle.amqp_both_ends.proofs.Both.{both}
use Rattle.amqp_both_ends.proofs.laws.both_ends_close.Goals as goal

pub returns : goal.returns
returns c = both
