use Rattle.amqp_frame.proofs.Sequences.{sequence-same}
use Rattle.amqp_frame.proofs.laws.one_sequence.Goals as goal

pub returns : goal.returns
returns c = sequence-same
