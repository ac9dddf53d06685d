use Rattle.std.proofs.Common.{refl, rules}
use Rattle.amqp_double.proofs.Taking.{nothing-heard}
use Rattle.amqp_double.proofs.heard.Heard.new.Goals as goal

pub returns-clause-heard : goal.returns-clause-heard
returns-clause-heard c = nothing-heard _ (search rules) refl refl refl (search rules) refl refl c.in_ok-new.ensures
