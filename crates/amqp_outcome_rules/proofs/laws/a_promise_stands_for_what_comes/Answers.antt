use Rattle.amqp_outcome_rules.proofs.Awaiting.{stays-waiting, waits-first}
use Rattle.amqp_outcome_rules.proofs.Forgetting.{forgets-replies}
use Rattle.amqp_outcome_rules.proofs.Promising.{stands-for-replies}
use Rattle.amqp_outcome_rules.proofs.laws.a_promise_stands_for_what_comes.Goals as goal

pub returns : goal.returns
returns c = record { told = stands-for-replies; came = forgets-replies; first = waits-first; stays = stays-waiting }
