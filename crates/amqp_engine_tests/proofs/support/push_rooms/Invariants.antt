use Rattle.amqp_engine.specs.Plan.{ArePieces}
use Rattle.amqp_engine_tests.proofs.support.push_rooms.Given as goal

abbrev pub invariant-rooms : goal.invariant-rooms
invariant-rooms l = ArePieces l.steps.items
