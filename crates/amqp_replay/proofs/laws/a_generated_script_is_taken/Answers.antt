use Rattle.amqp_replay.proofs.GeneratedLines.{generated-taken}
use Rattle.amqp_replay.proofs.laws.a_generated_script_is_taken.Goals as goal

pub returns : goal.returns
returns c = generated-taken
