use Rattle.amqp_channels.proofs.Drawn.{drawn-free}
use Rattle.amqp_answer_rules.proofs.laws.a_drawn_number_is_free.Goals as goal

pub returns : goal.returns
returns c = drawn-free
