use Rattle.std.proofs.Common.{◌≡◌, ◌-◌, List, map, slice_get, Some, sym, subst, arith}
use Rattle.amqp_hub.specs.Marks.{cell_in}
use Rattle.amqp_hub.specs.declared.marks.Slot.{Slot}
use Rattle.amqp_hub.specs.declared.marks.Slot.TheVariants.{Kept}
use Rattle.amqp_hub.proofs.Standing.{stands-again, cell-again, cell-last}
use Rattle.amqp_hub.proofs.marks.Places.stand.Goals as goal

pub returns-in-Some-clause-stands : goal.returns-in-Some-clause-stands
returns-in-Some-clause-stands c = stands-again c.args.self.now.free c.args.place c.args.self.now.slots.items c.in-Some.ensures.within.0 c.in-Some.ensures.free

pub returns-in-Some-clause-cell : goal.returns-in-Some-clause-cell
returns-in-Some-clause-cell c =
    cell-again (c.args.self.now.free - 1) (Kept c.args.place) _ c.args.self.now.slots.items c.in-Some.ensures.free

pub returns-in-None-clause-cell : goal.returns-in-None-clause-cell
returns-in-None-clause-cell c =
    let P : List Slot → Type 0 = λ (l : List Slot). slice_get (map cell_in l) (c.len.result - 1) ≡ Some (cell_in (Kept c.args.place)) in
    subst P (sym c.push_reserved.ensures.items)
    (cell-last (c.len.result - 1) (Kept c.args.place) c.args.self.now.slots.items
    (omega (arith, c.len.ensures, c.push_reserved.ensures.len)))
