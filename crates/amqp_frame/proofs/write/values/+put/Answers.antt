use Rattle.std.proofs.Common.{◌≡◌, ◌+◌, ◌*◌, ◌<◌, length, map, drop, ap, ◌∙◌, arith}
use Rattle.std.proofs.lemmas.List.{length-append}
use Rattle.amqp_types.specs.View.{value_of, pair_of}
use Rattle.amqp_types.specs.Spelling.{spell}
use Rattle.amqp_types.specs.TableSize.{value_size, values_size, pairs_size}
use Rattle.amqp_frame.specs.Lengths.{spell_list, spell_pair_list, spell_pair}
use Rattle.amqp_types.proofs.Sameness.{value_in, pair_in}
use Rattle.amqp_frame.proofs.Texts.{length-array, length-table, length-spell_table, next_value, next_pair, tagged_text}
use Rattle.amqp_frame.proofs.write.values.+put.Goals as goal

pub put_value-returns-in-FieldArray-clause-bytes : goal.put_value-returns-in-FieldArray-clause-bytes
put_value-returns-in-FieldArray-clause-bytes g t c =
    rw c.in-FieldArray.is
    (tagged_text (g.R.Room.put_so_far c.args.room.now) (g.R.Room.put_so_far c.put_octet.new.room)
    (g.R.Room.put_so_far c.put_array.new.room) 65 (spell_list c.in-FieldArray.values) c.put_octet.ensures.bytes
    c.put_array.ensures.bytes)

pub put_value-returns-in-FieldArray-clause-space : goal.put_value-returns-in-FieldArray-clause-space
put_value-returns-in-FieldArray-clause-space g t c =
    rw c.in-FieldArray.is
    (omega (arith, length-array c.in-FieldArray.values, c.put_octet.ensures.space, c.put_array.ensures.space))

pub put_value-returns-in-FieldTable-clause-bytes : goal.put_value-returns-in-FieldTable-clause-bytes
put_value-returns-in-FieldTable-clause-bytes g t c =
    rw c.in-FieldTable.is
    (tagged_text (g.R.Room.put_so_far c.args.room.now) (g.R.Room.put_so_far c.put_octet-in-FieldTable.new.room)
    (g.R.Room.put_so_far c.put_table.new.room) 70 (spell_pair_list c.in-FieldTable.table)
    c.put_octet-in-FieldTable.ensures.bytes c.put_table.ensures.bytes)

pub put_value-returns-in-FieldTable-clause-space : goal.put_value-returns-in-FieldTable-clause-space
put_value-returns-in-FieldTable-clause-space g t c =
    rw c.in-FieldTable.is
    (omega (
      arith,
      length-table c.in-FieldTable.table,
      length-spell_table c.in-FieldTable.table,
      c.put_octet-in-FieldTable.ensures.space,
      c.put_table.ensures.space,
    ))

pub put_value-put_array-requires : goal.put_value-put_array-requires
put_value-put_array-requires g t c κs within =
    let len : length (spell (value_of c.args.value.now)) ≡ length (spell_list c.in-FieldArray.values) + 5 =
    rw c.in-FieldArray.is (length-array c.in-FieldArray.values) in
    let size : value_size (value_of c.args.value.now) ≡ values_size c.in-FieldArray.values + 1 =
    rw c.in-FieldArray.is (omega arith) in
    let smaller : 3 * values_size c.in-FieldArray.values + 2 < t = omega (arith, size, c.decreases) in (
      smaller,
      (within, (omega (arith, len, c.requires.small), omega (arith, len, c.requires.fits, c.put_octet.ensures.space))),
    )

pub put_value-put_table-requires : goal.put_value-put_table-requires
put_value-put_table-requires g t c κs within =
    let len : length (spell (value_of c.args.value.now)) ≡ length (spell_pair_list c.in-FieldTable.table) + 5 =
    rw c.in-FieldTable.is (length-table c.in-FieldTable.table) in
    let text = length-spell_table c.in-FieldTable.table in
    let size : value_size (value_of c.args.value.now) ≡ pairs_size c.in-FieldTable.table + 1 =
    rw c.in-FieldTable.is (omega arith) in
    let smaller : 3 * pairs_size c.in-FieldTable.table + 2 < t = omega (arith, size, c.decreases) in (
      smaller,
      (
        within,
        (
          omega (arith, len, text, c.requires.small),
          omega (arith, len, text, c.requires.fits, c.put_octet-in-FieldTable.ensures.space),
        ),
      ),
    )

pub put_array-put_value-requires : goal.put_array-put_value-requires
put_array-put_value-requires g t c κs within =
    let items = c.as_slice-value-items.result.now in
    let i = c.loop-value.value-index in
    let v = c.value-item.result in
    let inner =
    value_in c.as_slice-value-items.result.now c.loop-value.value-index c.value-item.result c.loop-value-test.true
    c.value-item.is in
    let smaller : 3 * value_size (value_of c.value-item.result) < t =
    omega (arith, inner, ap values_size c.as_slice-value-items.ensures, c.decreases) in
    let next =
    next_value c.as_slice-value-items.result.now c.loop-value.value-index c.value-item.result c.loop-value-test.true
    c.value-item.is in
    let others = spell_list (map value_of (drop (c.loop-value.value-index + 1) c.as_slice-value-items.result.now)) in
    let len = ap length next ∙ length-append (spell (value_of c.value-item.result)) others in (
      smaller,
      (within, (omega (arith, len, c.loop-value.invariant.small), omega (arith, len, c.loop-value.invariant.fits))),
    )

pub put_table-put_entry-requires : goal.put_table-put_entry-requires
put_table-put_entry-requires g t c κs within =
    let inner =
    pair_in c.entries-entry-items.result.now c.loop-entry.entry-index c.entry-item.result c.loop-entry-test.true
    c.entry-item.is in
    let smaller : 3 * value_size (value_of c.entry-item.result.value) + 1 < t =
    omega (arith, inner, ap pairs_size c.entries-entry-items.ensures.entries, c.decreases) in
    let next =
    next_pair c.entries-entry-items.result.now c.loop-entry.entry-index c.entry-item.result c.loop-entry-test.true
    c.entry-item.is in
    let others =
    spell_pair_list (map pair_of (drop (c.loop-entry.entry-index + 1) c.entries-entry-items.result.now)) in
    let len = ap length next ∙ length-append (spell_pair (pair_of c.entry-item.result)) others in (
      smaller,
      (within, (omega (arith, len, c.loop-entry.invariant.small), omega (arith, len, c.loop-entry.invariant.fits))),
    )
