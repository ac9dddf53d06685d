-- The steps so far, as they will be told, and places for those that are left.
use Rattle.std.proofs.Common.{◌≡◌, ◌≤◌, ◌+◌, ◌-◌, length, map, take, deque_len, deque_capacity}
use Rattle.amqp_engine.specs.Making.{happening_of}
use Rattle.amqp_engine.proofs.memory_port.told_all.Given as goal

abbrev pub invariant-steps : goal.invariant-steps
invariant-steps l = record {
  told : l.coming.items ≡ map happening_of (take l.given-index l.steps);
  places : deque_len l.coming + (length l.steps - l.given-index) ≤ deque_capacity l.coming;
}
