use Rattle.std.proofs.Common.{sym, subst, IfSome}
use Rattle.amqp_outbox.specs.declared.numbers.Numbers.{Numbers}
use Rattle.amqp_outbox.specs.Order.{HasRoom}
use Rattle.amqp_outbox.proofs.Cases.{on-ok}
use Rattle.amqp_outbox.proofs.lane.Lane.reserve.Goals as goal

pub returns-clause-places : goal.returns-clause-places
returns-clause-places g c =
    let has : Numbers → Type 0 = λ numbers. IfSome c.args.key (λ k. HasRoom k c.args.things numbers.lists.entries) in
    let room : has c.reserve_slots.new.self.numbers = subst has (sym c.reserve_slots.ensures.numbers) c.in_ok-reserve.ensures.room in
    on-ok c.reserve_slots.result (λ slots. (slots, room, c.reserve_slots.ensures.count)) c.reserve_slots.ensures.slots
