use Rattle.std.proofs.Common.{sym, refl, None}
use Rattle.amqp_outbox.specs.Listed.{at}
use Rattle.amqp_outbox.proofs.Listing.{kept-listed}
use Rattle.amqp_outbox.proofs.numbers.Numbers.tidy.Goals as goal

pub returns-then-is_idle : goal.returns-then-is_idle
returns-then-is_idle c k =
    let es = c.args.self.now.lists.entries in
    kept-listed c.args.key k es _ (at c.args.key es) None refl (c.remove.ensures.updates.0 k) (sym (c.is_idle.ensures c.if-is_idle.true))
