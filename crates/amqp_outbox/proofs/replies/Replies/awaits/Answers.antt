use Rattle.std.proofs.Common.{◌∙◌}
use Rattle.amqp_outbox.specs.Replies.{is_of}
use Rattle.amqp_outbox.proofs.FirstOfKind.{there-found}
use Rattle.amqp_outbox.proofs.replies.Replies.awaits.Goals as goal

pub returns : goal.returns
returns c =
    c.is_some.ensures ∙ there-found (is_of c.args.reply) c.args.self.now.list.items c.place_of.result c.place_of.ensures.place c.place_of.ensures.none
