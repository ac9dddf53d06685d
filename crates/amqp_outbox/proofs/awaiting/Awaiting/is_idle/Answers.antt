use Rattle.std.proofs.Common.{sym, ◌∙◌}
use Rattle.amqp_outbox.proofs.Listing.{empty-list}
use Rattle.amqp_outbox.proofs.ByChannel.{empty-seen}
use Rattle.amqp_outbox.proofs.awaiting.Awaiting.is_idle.Goals as goal

pub returns-in-Some : goal.returns-in-Some
returns-in-Some c h =
    empty-seen c.args.channel c.args.self.now.lists.entries c.in-Some.list.now (sym c.in-Some.ensures.value) (empty-list _ (sym c.is_empty.ensures ∙ h))
