use Rattle.std.proofs.Common.{◌+◌, sym, subst, ℕ, Option, arith}
use Rattle.amqp_outbox.specs.Items.{size_of, dropped_with}
use Rattle.amqp_outgoing.specs.Outgoings.{HasFramePlaces, HasAwaitedPlace}
use Rattle.amqp_outgoing.proofs.Room.{fewer-frames}
use Rattle.amqp_outgoing.proofs.outgoing.Outgoing.say_both_awaited.Goals as goal

pub say_reserved-requires : goal.say_reserved-requires
say_reserved-requires c =
    let first = c.args.first in
    let second = c.args.item in
    fewer-frames (dropped_with first) 2 1 (size_of first + size_of second) (size_of first) c.reserve_both.new.self (omega arith) (omega arith)
    c.in_default.ensures.places

pub say_reserved-requires-2 : goal.say_reserved-requires-2
say_reserved-requires-2 c =
    let second = c.args.item in
    subst (λ (k : Option ℕ). HasFramePlaces k 1 (size_of second) c.say_reserved.new.self) c.requires.key
    (c.say_reserved.ensures.frames 1 (size_of second) c.in_default.ensures.places)

pub expect_reserved-requires : goal.expect_reserved-requires
expect_reserved-requires c =
    let on = c.args.item.channel in
    let reply = c.args.awaited.reply in
    subst (λ (n : ℕ). HasAwaitedPlace n reply c.say_reserved-2.new.self) (sym c.channel-id.ensures)
    (c.say_reserved-2.ensures.reply on reply (c.say_reserved.ensures.reply on reply (c.in_default.ensures.reply on reply c.requires.reply)))
