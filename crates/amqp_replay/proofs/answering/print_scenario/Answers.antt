use Rattle.amqp_replay.specs.Top.{handed_state, provider_state}
use Rattle.amqp_replay.proofs.Replaying.{IsMade-reported}
use Rattle.amqp_replay.proofs.answering.print_scenario.Goals as goal

pub returns : goal.returns
returns g c =
    IsMade-reported (provider_state (handed_state g.A.AuthProvider.allows c.args.handed)) c.args.scenario c.in_ok-engine.engine.talk
    (g.P.ScriptedPort.links_taken c.play.new.port) (g.P.Port.log c.args.port.now) (g.P.Port.log c.play.new.port) c.in_ok-printout.field-0
    c.in_ok-printout.ensures c.in_ok-engine.ensures
