-- The copies, and what is still to be copied.
use Rattle.std.proofs.Common.{◌≡◌, ◌++◌}
use Rattle.std.specs.VecDeque.Iter.{deque_iter_rest}
use Rattle.amqp_outbox.proofs.replies.Replies.try_clone.Given as goal

abbrev pub invariant-loop-awaited : goal.invariant-loop-awaited
invariant-loop-awaited l = l.list.items ++ deque_iter_rest l.awaited-iterator ≡ l.self.list.items
