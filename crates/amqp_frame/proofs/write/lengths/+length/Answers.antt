use Rattle.std.proofs.Common.{◌≡◌, ◌*◌, ◌<◌, [], length, map, drop, ap, arith}
use Rattle.std.proofs.lemmas.List.{drop_all}
use Rattle.amqp_types.specs.View.{value_of, pair_of}
use Rattle.amqp_types.specs.TableSize.{value_size, values_size, pairs_size}
use Rattle.amqp_frame.specs.Lengths.{spell_list, spell_pair_list}
use Rattle.amqp_types.proofs.Sameness.{value_in, pair_in}
use Rattle.amqp_frame.proofs.Texts.{length-array, length-table}
use Rattle.amqp_frame.proofs.write.lengths.+length.Goals as goal

pub value_len-returns-in-FieldArray : goal.value_len-returns-in-FieldArray
value_len-returns-in-FieldArray t c = grind (arith, length-array)

pub value_len-returns-in-FieldTable : goal.value_len-returns-in-FieldTable
value_len-returns-in-FieldTable t c = grind (arith, length-table)

pub values_len-value_len-requires : goal.values_len-value_len-requires
values_len-value_len-requires t c =
    let inner =
    value_in c.as_slice-value-items.result.now c.loop-value.value-index c.value-item.result c.loop-value-test.true
    c.value-item.is in
    let smaller : 2 * value_size (value_of c.value-item.result) < t =
    omega (arith, inner, ap values_size c.as_slice-value-items.ensures, c.decreases) in
    (smaller, tt)

pub values_len-returns : goal.values_len-returns
values_len-returns t c =
    let none : drop c.loop-value.value-index c.as_slice-value-items.result.now ≡ [] =
    drop_all c.loop-value.value-index c.as_slice-value-items.result.now (omega arith) in
    omega (arith, c.loop-value.invariant, ap (λ vs. length (spell_list (map value_of vs))) none)

pub pairs_len-value_len-requires : goal.pairs_len-value_len-requires
pairs_len-value_len-requires t c =
    let inner =
    pair_in c.entries-entry-items.result.now c.loop-entry.entry-index c.entry-item.result c.loop-entry-test.true
    c.entry-item.is in
    let smaller : 2 * value_size (value_of c.entry-item.result.value) < t =
    omega (arith, inner, ap pairs_size c.entries-entry-items.ensures.entries, c.decreases) in
    (smaller, tt)

pub pairs_len-returns : goal.pairs_len-returns
pairs_len-returns t c =
    let none : drop c.loop-entry.entry-index c.entries-entry-items.result.now ≡ [] =
    drop_all c.loop-entry.entry-index c.entries-entry-items.result.now (omega arith) in
    omega (arith, c.loop-entry.invariant, ap (λ es. length (spell_pair_list (map pair_of es))) none)
