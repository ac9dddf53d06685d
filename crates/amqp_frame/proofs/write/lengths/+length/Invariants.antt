use Rattle.std.proofs.Common.{◌≡◌, ◌+◌, ◌*◌, ◌^◌, ◌<◌, length, drop, map}
use Rattle.amqp_types.specs.View.{value_of, pair_of}
use Rattle.amqp_types.specs.TableSize.{value_size, values_size, pairs_size}
use Rattle.amqp_frame.specs.Lengths.{capped, spell_list, spell_pair_list}
use Rattle.amqp_frame.proofs.write.lengths.+length.Given as goal

abbrev pub decreases-value_len : goal.decreases-value_len
decreases-value_len l = 2 * value_size (value_of l.value.now)

abbrev pub decreases-values_len : goal.decreases-values_len
decreases-values_len l = 2 * values_size l.values.now + 1

abbrev pub decreases-pairs_len : goal.decreases-pairs_len
decreases-pairs_len l = 2 * pairs_size l.table.now + 1

abbrev pub invariant-values_len-loop-value : goal.invariant-values_len-loop-value
invariant-values_len-loop-value l =
    (l.total < 2 ^ 64) ×
    (capped (l.total + length (spell_list (map value_of (drop l.value-index l.value-items)))) ≡ capped
    (length (spell_list l.fn.values)))

abbrev pub invariant-pairs_len-loop-entry : goal.invariant-pairs_len-loop-entry
invariant-pairs_len-loop-entry l =
    (l.total < 2 ^ 64) ×
    (capped (l.total + length (spell_pair_list (map pair_of (drop l.entry-index l.entry-items)))) ≡ capped
    (length (spell_pair_list l.fn.table)))
