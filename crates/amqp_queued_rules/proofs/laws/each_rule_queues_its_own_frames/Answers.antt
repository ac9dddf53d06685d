use Rattle.amqp_queued_rules.proofs.Telling.{queues-its-own}
use Rattle.amqp_queued_rules.proofs.laws.each_rule_queues_its_own_frames.Goals as goal

pub returns : goal.returns
returns c = queues-its-own
