use Rattle.amqp_outcome_rules.proofs.Flows.{flows-kept}
use Rattle.amqp_outcome_rules.proofs.Heeded.{asks-at-frames, asks-in-time}
use Rattle.amqp_outcome_rules.proofs.laws.flow_and_time_are_heeded.Goals as goal

pub returns : goal.returns
returns c = record { flow = flows-kept; time = asks-in-time; asked = asks-at-frames }
