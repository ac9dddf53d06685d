use Rattle.std.proofs.Common.{◌∙◌, arith}
use Rattle.amqp_locked.proofs.Kept.{kept-here}
use Rattle.amqp_locked.proofs.backlog.Backlog.place.Goals as goal

pub returns-then-index-opened-clause-there : goal.returns-then-index-opened-clause-there
returns-then-index-opened-clause-there c =
    c.lanes.invariant ∙ kept-here c.args.opened c.lanes.at c.args.self.now.lanes.items c.index.result.now
    (omega (arith, c.lanes-test.true, c.len-at-end.ensures, c.args.self.now.lanes.ok)) c.index.ensures c.if-index-opened.true
