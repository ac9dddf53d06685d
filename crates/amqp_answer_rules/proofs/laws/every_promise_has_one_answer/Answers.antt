use Rattle.amqp_answer_rules.proofs.OfRules.{keeps-promises}
use Rattle.amqp_answer_rules.proofs.OneMade.{makes-one, ended-answers}
use Rattle.amqp_answer_rules.proofs.laws.every_promise_has_one_answer.Goals as goal

pub returns : goal.returns
returns c = record { kept = keeps-promises; made = makes-one; ended = ended-answers }
