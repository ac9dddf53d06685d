use Rattle.amqp_uses.proofs.Legally.{answered}
use Rattle.amqp_uses.proofs.opening.channel_of.Goals as goal

pub returns : goal.returns
returns c = answered c.args.opening c.args.engine.now c.answer-answer.new.self c.answer-answer.ensures.carried
