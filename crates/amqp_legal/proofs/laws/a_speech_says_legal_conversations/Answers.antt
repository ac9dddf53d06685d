use Rattle.amqp_legal.specs.Speeches.{speech_of}
use Rattle.amqp_legal.proofs.Saying.{all-said, begun, gone-on, next-legal}
use Rattle.amqp_legal.proofs.laws.a_speech_says_legal_conversations.Goals as goal

pub returns-clause-all : goal.returns-clause-all
returns-clause-all c = all-said

pub returns-clause-begun : goal.returns-clause-begun
returns-clause-begun c = begun

pub returns-clause-gone_on : goal.returns-clause-gone_on
returns-clause-gone_on c = gone-on

pub returns-clause-next : goal.returns-clause-next
returns-clause-next c = λ frames f s has. next-legal frames f (speech_of s) has
