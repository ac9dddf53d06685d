use Rattle.amqp_joining.proofs.Quiet.{quiet-connected}
use Rattle.amqp_joining.proofs.laws.a_quiet_session_is_connected.Goals as goal

pub returns : goal.returns
returns c = quiet-connected
