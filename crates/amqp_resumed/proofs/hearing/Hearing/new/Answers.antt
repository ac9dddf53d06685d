use Rattle.amqp_resumed.proofs.HeardMore.{nothing-heard}
use Rattle.amqp_resumed.proofs.hearing.Hearing.new.Goals as goal

pub returns-clause-heard : goal.returns-clause-heard
returns-clause-heard c = nothing-heard c.in_ok-new.field-0 c.in_ok-new.ensures
