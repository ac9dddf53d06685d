use Rattle.std.proofs.Common.{◌∙◌, ap, sym, ◌++◌}
use Rattle.amqp_outbox.specs.Order.{seen}
use Rattle.amqp_outbox.specs.Parts.{list_seen}
use Rattle.amqp_outbox.proofs.Seen.{sorted-seen}
use Rattle.amqp_outbox.proofs.ByChannel.{one-copied}
use Rattle.amqp_outbox.proofs.awaiting.Awaiting.try_clone.Goals as goal

pub loop-channel-preserved : goal.loop-channel-preserved
loop-channel-preserved c =
    let whole = seen list_seen c.args.self.now.lists.entries in
    let done = seen list_seen c.loop-channel.copy.lists.entries in
    ap (λ l. l ++ seen list_seen c.next.new.self) c.in_ok-add_copy.ensures
    ∙ one-copied c.in-Some.channel.now (list_seen c.in-Some.list.now) done (seen list_seen c.next.new.self) whole
    (sorted-seen list_seen c.args.self.now.lists.entries c.len.ensures.ordered)
    (ap (λ l. done ++ seen list_seen l) (sym c.in-Some.ensures.steps) ∙ c.loop-channel.invariant)
