use Rattle.amqp_frame.proofs.Sequences.{stand-begins}
use Rattle.amqp_frame.proofs.laws.sequences_agree.Goals as goal

pub returns : goal.returns
returns c = stand-begins
