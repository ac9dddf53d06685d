use Rattle.std.proofs.Common.{◌+◌, subst, ℕ, Option, arith}
use Rattle.amqp_outbox.specs.Items.{size_of, dropped_with}
use Rattle.amqp_outgoing.specs.Outgoings.{HasFramePlaces}
use Rattle.amqp_outgoing.proofs.Room.{fewer-frames}
use Rattle.amqp_outgoing.proofs.outgoing.Outgoing.say_both.Goals as goal

pub say_reserved-requires : goal.say_reserved-requires
say_reserved-requires c =
    let first = c.args.first in
    let second = c.args.second in
    fewer-frames (dropped_with first) 2 1 (size_of first + size_of second) (size_of first) c.reserve_both.new.self (omega arith) (omega arith)
    c.in_default.ensures.places

pub say_reserved-requires-2 : goal.say_reserved-requires-2
say_reserved-requires-2 c =
    let second = c.args.second in
    subst (λ (k : Option ℕ). HasFramePlaces k 1 (size_of second) c.say_reserved.new.self) c.requires
    (c.say_reserved.ensures.frames 1 (size_of second) c.in_default.ensures.places)
