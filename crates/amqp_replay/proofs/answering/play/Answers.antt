use Rattle.std.proofs.Common.{◌∙◌, ap, sym, None, if◌then◌else◌}
use Rattle.amqp_replay.specs.Grammar.{Scenario}
use Rattle.amqp_replay.specs.Top.{handed_state, own_state, provider_state}
use Rattle.amqp_replay.proofs.Replaying.{IsReplayed-ran, chosen-handed, chosen-own}
use Rattle.amqp_replay.proofs.answering.play.Goals as goal

pub returns-in-Some : goal.returns-in-Some
returns-in-Some g c =
    let s = c.args.scenario in
    let state = provider_state (handed_state g.A.AuthProvider.allows c.args.handed) s in
    let chosen = sym c.in-Some.is ∙ c.chosen.ensures ∙ ap (λ (x : Scenario). if x.handed then c.args.handed else None) c.scenario.view_is in
    IsReplayed-ran c.play_by.result (g.A.AuthProvider.allows c.in-Some.provider) state s
    (g.P.ScriptedPort.links_taken c.play_by.new.port) (g.P.Port.log c.play_by.new.port)
    (chosen-handed g.A.AuthProvider.allows s.handed c.args.handed c.in-Some.provider (own_state s) chosen) c.play_by.ensures

pub returns-in-None : goal.returns-in-None
returns-in-None g c =
    let s = c.args.scenario in
    let state = provider_state (handed_state g.A.AuthProvider.allows c.args.handed) s in
    let chosen = sym c.in-None.is ∙ c.chosen.ensures ∙ ap (λ (x : Scenario). if x.handed then c.args.handed else None) c.scenario.view_is in
    IsReplayed-ran c.play_alone.result (own_state s) state s
    (g.P.ScriptedPort.links_taken c.play_alone.new.port) (g.P.Port.log c.play_alone.new.port)
    (chosen-own g.A.AuthProvider.allows s.handed c.args.handed (own_state s) chosen) c.play_alone.ensures
