use Rattle.std.proofs.Common.{◌≡◌, ◌∙◌, ap, sym, None}
use Rattle.std.specs.Map.{values_of}
use Rattle.amqp_outbox.specs.Listed.{at}
use Rattle.amqp_types.proofs.Small.{none-from}
use Rattle.amqp_outbox.proofs.Sound.{waits-placed, sound-inserted}
use Rattle.amqp_outbox.proofs.lane.Lane.reserve_slot.Goals as goal

pub invariant_of-self : goal.invariant_of-self
invariant_of-self g c =
    let self = c.args.self.now in
    let none : at c.args.number self.slots.entries ≡ None = none-from (at c.args.number self.slots.entries) (sym c.contains_key.ensures ∙ c.if-contains_key.false) in
    record {
      sound =
          sound-inserted g.T.Keyed.key_of self.made self.slots.entries self.numbers.lists.entries self.sound c.insert.result c.args.number _ c.requires none c.insert.ensures.entries c.insert.ensures.err;
    }

pub returns-clause-same : goal.returns-clause-same
returns-clause-same g c =
    let self = c.args.self.now in
    let none : at c.args.number self.slots.entries ≡ None = none-from (at c.args.number self.slots.entries) (sym c.contains_key.ensures ∙ c.if-contains_key.false) in
    ap values_of (waits-placed g.T.Keyed.key_of self.made self.slots.entries self.numbers.lists.entries self.sound c.args.number _ none c.in_ok-insert.ensures.entries)
