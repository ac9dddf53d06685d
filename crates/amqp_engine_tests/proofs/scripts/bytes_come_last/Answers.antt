use Rattle.std.proofs.Common.{refl, [], ◌∷◌, None}
use Rattle.amqp_engine.specs.declared.given.GivenStep.TheVariants as given
use Rattle.amqp_engine_tests.specs.Scripts.{steps_at}
use Rattle.amqp_engine_tests.proofs.ValidScripts.{a-command-last, nothing-last}
use Rattle.amqp_engine_tests.proofs.scripts.bytes_come_last.Goals as goal

pub returns : goal.returns
returns c = record { bytes = (steps_at 0 (given.Link None ∷ []), _, refl, λ none. cc); command = a-command-last; nothing = nothing-last }
