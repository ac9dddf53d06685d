use Rattle.std.proofs.Common.{◌∙◌, ap}
use Rattle.amqp_auth.specs.DefaultAnswers.{default_of}
use Rattle.amqp_replay.specs.Grammar.{Scenario}
use Rattle.amqp_replay.proofs.Replaying.{by-address}
use Rattle.amqp_replay.proofs.answering.play_alone.Goals as goal

pub returns-in-Ok : goal.returns-in-Ok
returns-in-Ok g c =
    by-address c.play_by.result c.in-Ok.provider (default_of c.args.scenario.config.uri) c.args.scenario
    (g.P.ScriptedPort.links_taken c.play_by.new.port) (g.P.Port.log c.play_by.new.port)
    (c.in-Ok.ensures.made ∙ ap (λ (s : Scenario). default_of s.config.uri) c.scenario.view_is) c.play_by.ensures
