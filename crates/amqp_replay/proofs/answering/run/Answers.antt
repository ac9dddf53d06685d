use Rattle.std.proofs.Common.{◌∙◌, ap, sym, is_some}
use Rattle.amqp_replay.proofs.Replaying.{IsReplayed-run}
use Rattle.amqp_types.proofs.Small.{none-from}
use Rattle.amqp_replay.proofs.answering.run.Goals as goal

pub returns : goal.returns
returns g c s new count loads =
    let before = g.P.Port.log c.args.port.now in
    let after = g.P.Port.log c.run.new.port in
    let links = g.P.ScriptedPort.links_taken c.run.new.port in
    let whole = none-from c.run.new.self.starved (ap is_some (sym c.starved.ensures) ∙ sym c.is_some.ensures ∙ c.if-is_some.false) in
    IsReplayed-run s c.args.turns c.args.engine.now c.run.new.self before after links (g.A.AuthProvider.allows c.args.provider.now)
    count new loads c.run.ensures.played whole (g.met.P.ScriptedPort.ties c.run.new.port)
