use Rattle.std.proofs.Common.{◌≡◌, ◌∙◌, sym, subst, arith, Some, None, length}
use Rattle.std.specs.Prelude.{find}
use Rattle.amqp_outbox.specs.Items.{octets_of}
use Rattle.amqp_outbox.specs.Queued.{is_on, without_group}
use Rattle.amqp_outbox.specs.Order.{waiting}
use Rattle.amqp_outbox.specs.Parts.{queued}
use Rattle.amqp_outbox.proofs.Taking.{none-left_out}
use Rattle.amqp_outbox.proofs.Waiting.{Counted, counted-less, group-less}
use Rattle.amqp_outbox.proofs.outbox.Outbox.drop_group.Goals as goal

pub take_group-requires : goal.take_group-requires
take_group-requires c =
    let self = c.args.self.now in
    let q = queued self in
    let there : Some c.in-Some.group ≡ find (is_on c.args.channel) q.publish = c.in-Some.ensures.first in
    let less = group-less c.args.channel q c.in-Some.group (sym there) in
    record { frames = omega (arith, less.0, self.counted); octets = omega (arith, less.1, self.measured) }

pub invariant_of-self : goal.invariant_of-self
invariant_of-self c =
    let self = c.args.self.now in
    let tally = c.take_group.new.self in
    let q = queued self in
    let group = c.in-Some.group in
    let there : Some group ≡ find (is_on c.args.channel) q.publish = c.in-Some.ensures.first in
    let rest : Counted tally.frames tally.octets (without_group c.args.channel q) =
    counted-less (length group) (octets_of group) self.tally.frames self.tally.octets tally.frames tally.octets q (without_group c.args.channel q)
    (group-less c.args.channel q group (sym there)) (self.counted, self.measured) c.take_group.ensures.frames c.take_group.ensures.octets in
    let counted : Counted tally.frames tally.octets (record q { publish = waiting c.take.new.self.slots.entries }) =
    subst (λ l. Counted tally.frames tally.octets (record q { publish = l })) (sym c.take.ensures.rest) rest in
    record { counted = counted.0; measured = counted.1 }

pub invariant_of-self-in-None : goal.invariant_of-self-in-None
invariant_of-self-in-None c =
    let self = c.args.self.now in
    let q = queued self in
    let none : None ≡ find (is_on c.args.channel) q.publish = c.in-None.ensures.first in
    let same : waiting c.tidy.new.self.slots.entries ≡ q.publish =
    c.tidy.ensures ∙ c.in-None.ensures.rest ∙ none-left_out (is_on c.args.channel) q.publish (sym none) in
    let counted : Counted self.tally.frames self.tally.octets (record q { publish = waiting c.tidy.new.self.slots.entries }) =
    subst (λ l. Counted self.tally.frames self.tally.octets (record q { publish = l })) (sym same) (self.counted, self.measured) in
    record { counted = counted.0; measured = counted.1 }
