use Rattle.std.proofs.Common.{length, refl}
use Rattle.amqp_engine.specs.Engine.{begin}
use Rattle.amqp_engine.specs.Log.{loaded}
use Rattle.amqp_engine.proofs.Playing.{played-are-turns, turns-plays}
use Rattle.amqp_engine.proofs.laws.a_script_has_its_turns.Goals as goal

pub returns-clause-turns : goal.returns-clause-turns
returns-clause-turns c = λ t gs answers all. played-are-turns (length gs) answers (begin t) (loaded gs) all

pub returns-clause-plays : goal.returns-clause-plays
returns-clause-plays c = λ t gs answers. turns-plays (length gs) answers (begin t) (loaded gs) refl
