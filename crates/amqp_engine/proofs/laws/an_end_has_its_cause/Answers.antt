use Rattle.amqp_engine.proofs.TurnEnds.{turns-cause}
use Rattle.amqp_engine.proofs.laws.an_end_has_its_cause.Goals as goal

pub returns : goal.returns
returns c = turns-cause
