use Rattle.std.proofs.Common.{◌∙◌, ap}
use Rattle.amqp_outbox.specs.Order.{seen}
use Rattle.amqp_outbox.specs.Parts.{list_seen}
use Rattle.amqp_outbox.proofs.Seen.{without-unseen}
use Rattle.amqp_outbox.proofs.awaiting.Awaiting.tidy.Goals as goal

pub returns-then-is_idle : goal.returns-then-is_idle
returns-then-is_idle c =
    ap (seen list_seen) c.remove.ensures.entries
    ∙ without-unseen list_seen c.args.channel c.args.self.now.lists.entries c.len.ensures.ordered (c.is_idle.ensures c.if-is_idle.true)
