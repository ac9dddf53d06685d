-- So many slots are there already, and nothing else has changed.
use Rattle.std.proofs.Common.{◌≡◌}
use Rattle.amqp_outbox.specs.Order.{waiting, HasSlots}
use Rattle.amqp_outbox.proofs.lane.Lane.reserve_slots.Given as goal

abbrev pub invariant-loop-i : goal.invariant-loop-i
invariant-loop-i g l = record {
  made : l.self.made ≡ l.initial.self.made;
  same : waiting l.self.slots.entries ≡ waiting l.initial.self.slots.entries;
  numbers : l.self.numbers ≡ l.initial.self.numbers;
  slots : HasSlots l.self.made l.i l.self.slots.entries;
}
