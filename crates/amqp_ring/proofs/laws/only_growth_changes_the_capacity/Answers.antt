use Rattle.amqp_ring.proofs.Capacities.{capacity-consumed, capacity-filled, capacity-written, capacity-rolled_back, capacity-emptied}
use Rattle.amqp_ring.proofs.laws.only_growth_changes_the_capacity.Goals as goal

pub returns-clause-consumed : goal.returns-clause-consumed
returns-clause-consumed c = capacity-consumed

pub returns-clause-filled : goal.returns-clause-filled
returns-clause-filled c = capacity-filled

pub returns-clause-written : goal.returns-clause-written
returns-clause-written c = capacity-written

pub returns-clause-rolled_back : goal.returns-clause-rolled_back
returns-clause-rolled_back c = capacity-rolled_back

pub returns-clause-emptied : goal.returns-clause-emptied
returns-clause-emptied c = capacity-emptied
