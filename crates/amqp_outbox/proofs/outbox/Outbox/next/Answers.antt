use Rattle.std.proofs.Common.{◌≡◌, ◌∙◌, ap, sym, subst, List, [], ◌∷◌, Some}
use Rattle.std.specs.Prelude.{drop}
use Rattle.std.proofs.lemmas.List.{nil_from_length}
use Rattle.amqp_outbox.specs.declared.item.Item.{Item}
use Rattle.amqp_outbox.specs.Lists.{head}
use Rattle.amqp_outbox.specs.Items.{size_of}
use Rattle.amqp_outbox.specs.Queued.{Queued}
use Rattle.amqp_outbox.specs.Order.{waiting}
use Rattle.amqp_outbox.specs.Parts.{queued}
use Rattle.amqp_outbox.proofs.Waiting.{Counted, counted-less, first-less}
use Rattle.amqp_outbox.proofs.outbox.Outbox.next.Goals as goal

pub invariant_of-self-2 : goal.invariant_of-self-2
invariant_of-self-2 c =
    let self = c.args.self.now in
    let tally = c.take-2.new.self in
    let q = queued self in
    let first = c.into_parts-first.result.0 in
    let rest = c.into_parts-first.result.1.items in
    let none : q.begun ≡ [] = nil_from_length q.begun (sym self.begun.ok.0 ∙ c.in_default.ensures.cases.0) in
    let there : Some (first ∷ rest) ≡ head q.publish =
    ap (λ (g : List Item). Some g) (sym c.into_parts-first.ensures) ∙ sym c.in_ok-next.was ∙ c.next-2.ensures.first in
    let left : List Item → List (List Item) → Queued = λ control publish. record q { control = control; publish = publish; begun = rest } in
    let went : Counted tally.frames tally.octets (left (drop 1 q.control) (drop 1 q.publish)) =
    counted-less 1 (size_of first) self.tally.frames self.tally.octets tally.frames tally.octets q (left (drop 1 q.control) (drop 1 q.publish))
    (first-less q first rest none c.in_default-next.ensures.first there) (self.counted, self.measured)
    c.take-2.ensures.frames c.take-2.ensures.octets in
    let control : Counted tally.frames tally.octets (left (waiting c.next.new.self.slots.entries) (drop 1 q.publish)) =
    subst (λ l. Counted tally.frames tally.octets (left l (drop 1 q.publish))) (sym c.next.ensures.rest) went in
    let counted : Counted tally.frames tally.octets (left (waiting c.next.new.self.slots.entries) (waiting c.next-2.new.self.slots.entries)) =
    subst (λ l. Counted tally.frames tally.octets (left (waiting c.next.new.self.slots.entries) l)) (sym c.next-2.ensures.rest) control in
    record { counted = counted.0; measured = counted.1 }
