use Rattle.std.proofs.Common.{sym, ◌∙◌, ap, ◌<◌, arith, length, add-one}
use Rattle.amqp_outbox.specs.Replies.{is_of}
use Rattle.amqp_outbox.proofs.FirstOfKind.{none-yet, none-marked}
use Rattle.amqp_outbox.proofs.replies.Replies.place_of.Goals as goal

pub returns-then-not-has-clause-none : goal.returns-then-not-has-clause-none
returns-then-not-has-clause-none c =
    let self = c.args.self.now in
    none-marked c.args.reply self.kinds self.list.items self.told (sym c.has.ensures ∙ c.if-not-has.true)

pub loop-i-preserved : goal.loop-i-preserved
loop-i-preserved c =
    let list = c.args.self.now.list in
    let under : c.loop-i.i < length list.items = omega (arith, c.loop-i-test.true, c.len-i-end.ensures, list.ok.0) in
    rw add-one
    (none-yet (is_of c.args.reply) list.items c.loop-i.i c.index.result.now c.loop-i.invariant under
    (ap (is_of c.args.reply) (sym c.index.ensures) ∙ sym c.is_of.ensures ∙ c.if-is_of.false))
