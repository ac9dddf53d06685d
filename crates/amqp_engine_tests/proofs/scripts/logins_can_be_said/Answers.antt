use Rattle.std.proofs.Common.{arith}
use Rattle.amqp_engine_tests.proofs.scripts.logins_can_be_said.Goals as goal

pub returns : goal.returns
returns c = record { guest = (omega arith, tt); refused = λ is. is; unnamed = λ is. is }
