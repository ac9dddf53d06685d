use Rattle.amqp_replay.proofs.Handed.{none-handed}
use Rattle.amqp_replay.proofs.laws.no_script_names_a_provider_that_was_not_handed.Goals as goal

pub returns : goal.returns
returns c = none-handed
