-- The copies, and what is still to be copied.
use Rattle.std.proofs.Common.{◌≡◌, ◌++◌}
use Rattle.std.specs.VecDeque.Iter.{deque_iter_rest}
use Rattle.amqp_maps.proofs.copies.queue.Given as goal

abbrev pub invariant-loop-value : goal.invariant-loop-value
invariant-loop-value g l = l.copy.items ++ deque_iter_rest l.value-iterator ≡ l.values.items
