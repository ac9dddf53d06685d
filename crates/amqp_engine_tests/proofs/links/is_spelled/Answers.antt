use Rattle.amqp_engine_tests.proofs.Spelling.{greeting-spelled}
use Rattle.amqp_engine_tests.proofs.links.is_spelled.Goals as goal

pub returns : goal.returns
returns c = greeting-spelled
