use Rattle.std.proofs.Common.{◌∙◌, sym}
use Rattle.amqp_replay.proofs.Generating.{first_len-none, first_len-some}
use Rattle.amqp_replay.proofs.summary.first_len.Goals as goal

pub returns-then-count-eq0 : goal.returns-then-count-eq0
returns-then-count-eq0 g c =
    sym (first_len-none (g.P.ScriptedPort.links_taken c.args.port.now) (sym c.links-count.ensures ∙ c.if-count-eq0.true))

pub returns : goal.returns
returns g c =
    sym (first_len-some (g.P.ScriptedPort.links_taken c.args.port.now) c.link.result.now c.link.ensures)
