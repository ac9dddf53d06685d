use Rattle.std.specs.String.{string_bytes}
use Rattle.amqp_replay.specs.Top.{own_state}
use Rattle.amqp_replay.proofs.Replaying.{IsMade-summed}
use Rattle.amqp_replay.proofs.answering.print_generated_scenario.Goals as goal

pub returns : goal.returns
returns g c =
    IsMade-summed own_state (string_bytes c.args.script) c.args.scenario c.in_ok-engine.engine.talk
    (g.P.ScriptedPort.links_taken c.play_alone.new.port) (g.P.Port.log c.args.port.now) (g.P.Port.log c.play_alone.new.port) c.in_ok-printout.field-0
    c.in_ok-printout.ensures c.in_ok-engine.ensures
