use Rattle.amqp_ring.proofs.Capacities.{capacity-grown}
use Rattle.amqp_ring.proofs.laws.a_growth_keeps_what_is_kept.Goals as goal

pub returns-clause-size : goal.returns-clause-size
returns-clause-size c = capacity-grown
