use Rattle.amqp_rules.proofs.Soundness.{sound-start, keeps-sound, sound-ended}
use Rattle.amqp_rules.proofs.laws.states_stay_sound.Goals as goal

pub returns : goal.returns
returns c = record { first = sound-start; kept = keeps-sound; ended = sound-ended }
