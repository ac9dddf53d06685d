use Rattle.std.proofs.Common.{◌≡◌, ℕ, ◌+◌, ◌*◌, ◌≤◌, ◌++◌, length, map, option_map}
use Rattle.amqp_types.specs.Reading.{value_at, row_at, pair_with}
use Rattle.amqp_types.specs.View.{pair_of}
use Rattle.amqp_frame.proofs.read.values.+value.Given as goal

abbrev pub decreases-value : goal.decreases-value
decreases-value g l = 3 * l.depth + 2

abbrev pub decreases-array : goal.decreases-array
decreases-array g l = 3 * l.depth + 1

abbrev pub decreases-table : goal.decreases-table
decreases-table g l = 3 * l.depth + 1

abbrev pub decreases-values : goal.decreases-values
decreases-values g l = 3 * l.depth + 3

abbrev pub decreases-pairs : goal.decreases-pairs
decreases-pairs g l = 3 * l.depth + 3

abbrev pub invariant-values-loop-alloc : goal.invariant-values-loop-alloc
invariant-values-loop-alloc g l =
    (n : ℕ) × (length l.body ≤ n)
    × (option_map (λ vs. l.values ++ vs) (row_at (value_at l.depth) n l.body)
    ≡ row_at (value_at l.depth) (length l.fn.body) l.fn.body)

abbrev pub decreases-values-loop-alloc : goal.decreases-values-loop-alloc
decreases-values-loop-alloc g l = length l.body

abbrev pub invariant-pairs-loop-alloc : goal.invariant-pairs-loop-alloc
invariant-pairs-loop-alloc g l =
    (n : ℕ) × (length l.body ≤ n)
    × (option_map (λ ps. map pair_of l.entries.items ++ ps) (row_at (pair_with (value_at l.depth)) n l.body)
    ≡ row_at (pair_with (value_at l.depth)) (length l.fn.body) l.fn.body)

abbrev pub decreases-pairs-loop-alloc : goal.decreases-pairs-loop-alloc
decreases-pairs-loop-alloc g l = length l.body
