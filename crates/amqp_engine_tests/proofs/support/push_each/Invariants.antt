use Rattle.amqp_engine.specs.Plan.{ArePieces}
use Rattle.amqp_engine_tests.proofs.support.push_each.Given as goal

abbrev pub invariant-bytes : goal.invariant-bytes
invariant-bytes l = ArePieces l.steps.items
