use Rattle.amqp_frame.proofs.Sequences.{stand-stays}
use Rattle.amqp_frame.proofs.laws.frames_stay.Goals as goal

pub returns : goal.returns
returns c = stand-stays
