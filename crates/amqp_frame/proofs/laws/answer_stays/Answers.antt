use Rattle.amqp_frame.proofs.Sequences.{front-stays}
use Rattle.amqp_frame.proofs.laws.answer_stays.Goals as goal

pub returns : goal.returns
returns c = front-stays
