use Rattle.std.proofs.Common.{◌+◌, ◌*◌, ◌++◌, length, drop, map}
use Rattle.amqp_types.specs.View.{value_of, pair_of}
use Rattle.amqp_types.specs.TableSize.{value_size, values_size, pairs_size}
use Rattle.amqp_frame.specs.Lengths.{spell_list, spell_pair_list}
use Rattle.amqp_frame.proofs.Texts.{Rest}
use Rattle.amqp_frame.proofs.write.values.+put.Given as goal

abbrev pub decreases-put_value : goal.decreases-put_value
decreases-put_value g l = 3 * value_size (value_of l.value.now)

abbrev pub decreases-put_entry : goal.decreases-put_entry
decreases-put_entry g l = 3 * value_size (value_of l.entry.now.value) + 1

abbrev pub decreases-put_array : goal.decreases-put_array
decreases-put_array g l = 3 * values_size l.values.now + 2

abbrev pub decreases-put_table : goal.decreases-put_table
decreases-put_table g l = 3 * pairs_size l.table.now + 2

abbrev pub invariant-put_array-loop-value : goal.invariant-put_array-loop-value
invariant-put_array-loop-value g l =
    Rest (spell_list (map value_of (drop l.value-index l.value-items))) (g.R.Room.put_so_far l.room)
    (g.R.Room.free l.room) (g.R.Room.put_so_far l.initial.room ++ spell_list l.fn.values)
    (g.R.Room.free l.initial.room) (length (spell_list l.fn.values))

abbrev pub invariant-put_table-loop-entry : goal.invariant-put_table-loop-entry
invariant-put_table-loop-entry g l =
    Rest (spell_pair_list (map pair_of (drop l.entry-index l.entry-items))) (g.R.Room.put_so_far l.room)
    (g.R.Room.free l.room) (g.R.Room.put_so_far l.initial.room ++ spell_pair_list l.fn.table)
    (g.R.Room.free l.initial.room) (length (spell_pair_list l.fn.table))
