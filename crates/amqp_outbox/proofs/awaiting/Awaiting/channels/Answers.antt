use Rattle.amqp_outbox.specs.Parts.{list_seen}
use Rattle.amqp_outbox.proofs.Seen.{sorted-seen}
use Rattle.amqp_outbox.proofs.awaiting.Awaiting.channels.Goals as goal

pub returns-clause-ordered : goal.returns-clause-ordered
returns-clause-ordered c = sorted-seen list_seen c.args.self.now.lists.entries c.len.ensures.ordered
