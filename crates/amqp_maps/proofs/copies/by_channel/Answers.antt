use Rattle.std.proofs.Common.{◌∙◌, ap, sym, ◌++◌, Some}
use Rattle.amqp_outbox.proofs.ByChannel.{one-copied}
use Rattle.amqp_maps.proofs.copies.by_channel.Goals as goal

pub loop-id-preserved : goal.loop-id-preserved
loop-id-preserved g c =
    let whole = c.args.map.now.entries in
    let done = c.loop-id.copy.entries in
    ap (λ l. l ++ c.next.new.self) c.in_ok-put_at_channel.ensures
    ∙ one-copied c.in-Some.id.now (Some c.in-Some.value.now) done c.next.new.self whole c.len.ensures.ordered
    (ap (λ l. done ++ l) (sym c.in-Some.ensures.steps) ∙ c.loop-id.invariant)
