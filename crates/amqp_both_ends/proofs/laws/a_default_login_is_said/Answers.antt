use Rattle.amqp_both_ends.proofs.DefaultLogins.{default-says}
use Rattle.amqp_both_ends.proofs.laws.a_default_login_is_said.Goals as goal

pub returns : goal.returns
returns c = default-says
