use Rattle.std.proofs.Common.{◌≡◌, ◌+◌, ◌*◌, ◌≤◌, length, map}
use Rattle.std.specs.Iterator.Adapters.{zip_first, zip_second}
use Rattle.std.specs.Slice.Iter.{iter_rest}
use Rattle.amqp_types.specs.View.{value_of, pair_of}
use Rattle.amqp_types.specs.TableSize.{value_size, values_size, pairs_size}
use Rattle.amqp_types.specs.Equality.{same_list, same_table}
use Rattle.amqp_types.proofs.equality.+same.Given as goal

abbrev pub decreases-same : goal.decreases-same
decreases-same l = 2 * value_size (value_of l.this.now)

abbrev pub decreases-same_values_of : goal.decreases-same_values_of
decreases-same_values_of l = 2 * values_size l.these.now + 1

abbrev pub decreases-same_entries : goal.decreases-same_entries
decreases-same_entries l = 2 * pairs_size l.these.now + 1

abbrev pub invariant-same_values_of-loop-this : goal.invariant-same_values_of-loop-this
invariant-same_values_of-loop-this l =
    let us = iter_rest (zip_first l.this-iterator) in
    let vs = iter_rest (zip_second l.this-iterator) in
    (length us ≡ length vs) × (same_list l.fn.these l.fn.those ≡ same_list (map value_of us) (map value_of vs)) ×
    (values_size (map value_of us) ≤ values_size l.fn.these)

abbrev pub invariant-same_entries-loop-this : goal.invariant-same_entries-loop-this
invariant-same_entries-loop-this l =
    let es = iter_rest (zip_first l.this-iterator) in
    let fs = iter_rest (zip_second l.this-iterator) in
    (length es ≡ length fs) × (same_table l.fn.these l.fn.those ≡ same_table (map pair_of es) (map pair_of fs)) ×
    (pairs_size (map pair_of es) ≤ pairs_size l.fn.these)
