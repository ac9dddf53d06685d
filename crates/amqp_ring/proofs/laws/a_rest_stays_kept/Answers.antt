use Rattle.amqp_ring.proofs.Capacities.{rest_stays}
use Rattle.amqp_ring.proofs.laws.a_rest_stays_kept.Goals as goal

pub returns : goal.returns
returns c = rest_stays
