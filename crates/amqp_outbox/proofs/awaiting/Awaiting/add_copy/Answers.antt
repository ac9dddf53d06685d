use Rattle.std.proofs.Common.{◌∙◌, ap, sym}
use Rattle.amqp_outbox.specs.Order.{seen}
use Rattle.amqp_outbox.specs.Parts.{list_seen}
use Rattle.amqp_outbox.proofs.ByChannel.{copy-seen}
use Rattle.amqp_outbox.proofs.awaiting.Awaiting.add_copy.Goals as goal

pub returns : goal.returns
returns c =
    ap (seen list_seen) c.in_ok-insert.ensures.entries
    ∙ copy-seen c.args.channel c.args.self.now.lists.entries c.args.list.now c.in_ok-copy.copy c.in_ok-insert.ensures.was_ordered
    (sym c.is_empty.ensures ∙ c.if-is_empty.false) c.in_ok-copy.ensures
