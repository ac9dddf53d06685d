use Rattle.amqp_double.proofs.Deciding.{decided}
use Rattle.amqp_double.proofs.laws.the_clients_octets_decide.Goals as goal

pub returns : goal.returns
returns c = decided
