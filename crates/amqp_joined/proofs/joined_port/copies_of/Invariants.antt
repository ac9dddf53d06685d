-- Copies of the commands so far, and places for those that are left.
use Rattle.std.proofs.Common.{◌≡◌, ◌≤◌, ◌+◌, ◌-◌, length, take, deque_len, deque_capacity}
use Rattle.amqp_joined.proofs.joined_port.copies_of.Given as goal

abbrev pub invariant-commands : goal.invariant-commands
invariant-commands l = record {
  copies : l.copies.items ≡ take l.command-index l.commands;
  places : deque_len l.copies + (length l.commands - l.command-index) ≤ deque_capacity l.copies;
}
