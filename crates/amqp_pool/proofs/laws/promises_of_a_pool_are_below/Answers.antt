use Rattle.amqp_pool.specs.Pooled.{opening_promises}
use Rattle.amqp_pool.proofs.Counts.{each-below}
use Rattle.amqp_pool.proofs.laws.promises_of_a_pool_are_below.Goals as goal

pub returns-clause-below : goal.returns-clause-below
returns-clause-below c = λ p t made. each-below t.made (opening_promises p) made
