use Rattle.amqp_outcome_rules.proofs.Rejected.{rejects-at-losses}
use Rattle.amqp_outcome_rules.proofs.laws.a_lost_link_is_never_silent.Goals as goal

pub returns : goal.returns
returns c = rejects-at-losses
