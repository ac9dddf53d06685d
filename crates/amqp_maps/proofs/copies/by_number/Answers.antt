use Rattle.std.proofs.Common.{◌∙◌, ap, sym, ◌++◌, Some}
use Rattle.amqp_outbox.proofs.ByChannel.{one-copied}
use Rattle.amqp_maps.proofs.copies.by_number.Goals as goal

pub loop-number-preserved : goal.loop-number-preserved
loop-number-preserved g c =
    let whole = c.args.map.now.entries in
    let done = c.loop-number.copy.entries in
    ap (λ l. l ++ c.next.new.self) c.in_ok-put_at_number.ensures
    ∙ one-copied c.in-Some.number.now (Some c.in-Some.value.now) done c.next.new.self whole c.len.ensures.ordered
    (ap (λ l. done ++ l) (sym c.in-Some.ensures.steps) ∙ c.loop-number.invariant)
