use Rattle.std.specs.Option.{option_copied}
use Rattle.amqp_replay.proofs.DataLemmas.{rest_length}
use Rattle.amqp_program.proofs.refused.why_data.Given as goal

abbrev pub decreases-parts : goal.decreases-parts
decreases-parts l = rest_length (option_copied l.rest)
