use Rattle.std.proofs.Common.{◌≡◌, ◌∙◌, sym, subst, arith, Some, None}
use Rattle.std.specs.Prelude.{find}
use Rattle.amqp_outbox.specs.Items.{size_of}
use Rattle.amqp_outbox.specs.Queued.{goes_with, without_frame}
use Rattle.amqp_outbox.specs.Order.{waiting}
use Rattle.amqp_outbox.specs.Parts.{queued}
use Rattle.amqp_outbox.proofs.Taking.{none-left_out}
use Rattle.amqp_outbox.proofs.Waiting.{Counted, counted-less, frame-less}
use Rattle.amqp_outbox.proofs.outbox.Outbox.drop_frame.Goals as goal

pub invariant_of-self : goal.invariant_of-self
invariant_of-self c =
    let self = c.args.self.now in
    let q = queued self in
    let none : None ≡ find (goes_with c.args.channel) q.control = sym c.in_err-item.was ∙ c.take.ensures.first in
    let same : waiting c.take.new.self.slots.entries ≡ q.control = c.take.ensures.rest ∙ none-left_out (goes_with c.args.channel) q.control (sym none) in
    let counted : Counted self.tally.frames self.tally.octets (record q { control = waiting c.take.new.self.slots.entries }) =
    subst (λ l. Counted self.tally.frames self.tally.octets (record q { control = l })) (sym same) (self.counted, self.measured) in
    record { counted = counted.0; measured = counted.1 }

pub take-requires-2-clause-octets : goal.take-requires-2-clause-octets
take-requires-2-clause-octets c =
    let self = c.args.self.now in
    let q = queued self in
    let there : Some c.in_ok-item.item ≡ find (goes_with c.args.channel) q.control = sym c.in_ok-item.was ∙ c.take.ensures.first in
    let less = frame-less c.args.channel q c.in_ok-item.item (sym there) in
    omega (arith, less.1, self.measured)

pub invariant_of-self-2 : goal.invariant_of-self-2
invariant_of-self-2 c =
    let self = c.args.self.now in
    let tally = c.take-2.new.self in
    let q = queued self in
    let item = c.in_ok-item.item in
    let there : Some item ≡ find (goes_with c.args.channel) q.control = sym c.in_ok-item.was ∙ c.take.ensures.first in
    let rest : Counted tally.frames tally.octets (without_frame c.args.channel q) =
    counted-less 1 (size_of item) self.tally.frames self.tally.octets tally.frames tally.octets q (without_frame c.args.channel q)
    (frame-less c.args.channel q item (sym there)) (self.counted, self.measured) c.take-2.ensures.frames c.take-2.ensures.octets in
    let counted : Counted tally.frames tally.octets (record q { control = waiting c.take.new.self.slots.entries }) =
    subst (λ l. Counted tally.frames tally.octets (record q { control = l })) (sym c.take.ensures.rest) rest in
    record { counted = counted.0; measured = counted.1 }
