use Rattle.amqp_engine.proofs.BuiltSaid.{built-said}
use Rattle.amqp_engine.proofs.laws.what_is_built_can_be_said.Goals as goal

pub returns : goal.returns
returns c = built-said
