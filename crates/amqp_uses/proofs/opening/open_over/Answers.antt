use Rattle.amqp_uses.proofs.Legally.{begins, ran}
use Rattle.amqp_uses.proofs.opening.open_over.Goals as goal

pub returns-in-Ok-clause-legal : goal.returns-in-Ok-clause-legal
returns-in-Ok-clause-legal g c = c.open_channel.ensures.legal
    (ran _ c.in_ok-engine.engine c.run.new.self _ _ _ _ c.run.ensures.turns (begins _ c.in_ok-engine.engine c.in_ok-engine.ensures.ok))
