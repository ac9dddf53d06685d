use Rattle.std.proofs.Common.{sym, subst}
use Rattle.amqp_outbox.specs.declared.item.Item.{Item}
use Rattle.amqp_outbox.specs.Items.{size_of, dropped_with}
use Rattle.amqp_outbox.specs.Parts.{HasControlPlaces}
use Rattle.amqp_unit_tests.proofs.outbox.counts.things_go_where_they_have_places_in.Goals as goal

pub push_control_reserved-requires : goal.push_control_reserved-requires
push_control_reserved-requires c =
    subst (λ (item : Item). HasControlPlaces (dropped_with item) 1 (size_of item) c.reserve_control.new.self) (sym c.plain.ensures)
    c.in_ok-reserve_control.ensures.places
