use Rattle.amqp_double.proofs.Deciding.{stays-refused}
use Rattle.amqp_double.proofs.laws.a_refusal_stays.Goals as goal

pub returns : goal.returns
returns c = stays-refused
