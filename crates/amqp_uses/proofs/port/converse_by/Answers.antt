use Rattle.std.proofs.Common.{ap}
use Rattle.amqp_rules.specs.Talk.{has_ended}
use Rattle.amqp_engine.specs.Engine.{Engine}
use Rattle.amqp_uses.proofs.Faultless.{no-counted-fault}
use Rattle.amqp_uses.proofs.port.converse_by.Goals as goal

pub returns-in-Ok : goal.returns-in-Ok
returns-in-Ok g c fault counted h =
    let running = ap (λ (e : Engine). has_ended e.talk) c.in-Ok.ensures.ok in
    no-counted-fault _ _ fault c.run-end.ensures.ended c.run-end.ensures.out_of_turns
    (λ failed. c.run-end.ensures.io_error_counted fault running failed counted) h
