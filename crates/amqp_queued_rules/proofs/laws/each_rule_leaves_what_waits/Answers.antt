use Rattle.amqp_queued_rules.proofs.Lefts.{leaves-what-waits}
use Rattle.amqp_queued_rules.proofs.laws.each_rule_leaves_what_waits.Goals as goal

pub returns : goal.returns
returns c = leaves-what-waits
