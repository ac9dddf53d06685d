use Rattle.std.proofs.Common.{◌≡◌, ◌-◌, List, [], ◌∷◌, ◌++◌, length, map, Some, refl, sym, ap, ◌∙◌, arith}
use Rattle.std.proofs.lemmas.Grind.{common_steps}
use Rattle.std.proofs.lemmas.Result.{err_from_is_err_and}
use Rattle.std.proofs.lemmas.List.{append-nil}
use Rattle.amqp_types.specs.Value.{Pair}
use Rattle.amqp_types.specs.View.{value_of, pair_of}
use Rattle.amqp_types.specs.declared.value.Entry.{Entry}
use Rattle.amqp_types.specs.Reading.{value_at, array_at, table_at, row_at, pair_with, short_string_at, long_string_at}
use Rattle.amqp_types.proofs.FieldReaders.{value_at_is, array_at_zero, table_at_zero, array_at_is, table_at_is}
use Rattle.amqp_types.proofs.Shorter.{value_shorter, pair_shorter, row_step, row_fails, row_done}
use Rattle.amqp_frame.proofs.Rows.{fails_with, bind_none, bind_is, append_more, append_none, entries_more, pair_is, no_pair_name, no_pair_value}
use Rattle.amqp_frame.proofs.read.values.+value.Goals as goal

-- ---- a value
pub value-returns-in_err-tag : goal.value-returns-in_err-tag
value-returns-in_err-tag g t c = rw value_at_is (grind (arith, common_steps))

pub value-returns-in_err-array-in-65 : goal.value-returns-in_err-array-in-65
value-returns-in_err-array-in-65 g t c = rw value_at_is (grind (arith, common_steps))

pub value-returns-in_err-table-in-70 : goal.value-returns-in_err-table-in-70
value-returns-in_err-table-in-70 g t c = rw value_at_is (grind (arith, common_steps))

pub value-returns-in_ok-array-in-65 : goal.value-returns-in_ok-array-in-65
value-returns-in_ok-array-in-65 g t c = rw value_at_is (grind (arith, common_steps))

pub value-returns-in_ok-table-in-70 : goal.value-returns-in_ok-table-in-70
value-returns-in_ok-table-in-70 g t c = rw value_at_is (grind (arith, common_steps))

pub value-returns-in_default : goal.value-returns-in_default
value-returns-in_default g t c = rw value_at_is (grind (arith, common_steps))

-- ---- an array
pub array-returns-then-depth-eq0 : goal.array-returns-then-depth-eq0
array-returns-then-depth-eq0 g t c = array_at_zero c.args.depth c.args.cursor.now c.if-depth-eq0.true

pub array-returns-in_err-body : goal.array-returns-in_err-body
array-returns-in_err-body g t c =
    let p = err_from_is_err_and c.from_residual.result c.from_residual.ensures.1 in
    rw (p.1, p.2)
    (fails_with c.in_err-body.field-0.0 (long_string_at c.args.cursor.now) (array_at c.args.depth c.args.cursor.now)
    c.in_err-body.ensures
    (λ none. array_at_is c.args.depth (c.args.depth - 1) c.args.cursor.now (omega arith) ∙ bind_none _ _ none))

pub array-returns-in_err-found : goal.array-returns-in_err-found
array-returns-in_err-found g t c =
    let p = err_from_is_err_and c.from_residual-in_err-found.result c.from_residual-in_err-found.ensures.1 in
    rw (p.1, p.2)
    (fails_with c.in_err-found.field-0.0
    (row_at (value_at (c.args.depth - 1)) (length c.in_ok-body.body) c.in_ok-body.body)
    (array_at c.args.depth c.args.cursor.now) c.in_err-found.ensures
    (λ none.
    array_at_is c.args.depth (c.args.depth - 1) c.args.cursor.now (omega arith)
    ∙ bind_is _ _ (c.in_ok-body.body, c.long_split.new.self) _ c.in_ok-body.ensures (bind_none _ _ none)))

pub array-returns : goal.array-returns
array-returns g t c =
    array_at_is c.args.depth (c.args.depth - 1) c.args.cursor.now (omega arith)
    ∙ bind_is _ _ (c.in_ok-body.body, c.long_split.new.self) _ c.in_ok-body.ensures
    (bind_is _ _ c.in_ok-found.found _ c.in_ok-found.ensures refl)

-- ---- a table
pub table-returns-then-depth-eq0 : goal.table-returns-then-depth-eq0
table-returns-then-depth-eq0 g t c = table_at_zero c.args.depth c.args.cursor.now c.if-depth-eq0.true

pub table-returns-in_err-body : goal.table-returns-in_err-body
table-returns-in_err-body g t c =
    let p = err_from_is_err_and c.from_residual.result c.from_residual.ensures.1 in
    rw (p.1, p.2)
    (fails_with c.in_err-body.field-0.0 (long_string_at c.args.cursor.now) (table_at c.args.depth c.args.cursor.now)
    c.in_err-body.ensures
    (λ none. table_at_is c.args.depth (c.args.depth - 1) c.args.cursor.now (omega arith) ∙ bind_none _ _ none))

pub table-returns-in_err-found : goal.table-returns-in_err-found
table-returns-in_err-found g t c =
    let p = err_from_is_err_and c.from_residual-in_err-found.result c.from_residual-in_err-found.ensures.1 in
    rw (p.1, p.2)
    (fails_with c.in_err-found.field-0.0
    (row_at (pair_with (value_at (c.args.depth - 1))) (length c.in_ok-body.body) c.in_ok-body.body)
    (table_at c.args.depth c.args.cursor.now) c.in_err-found.ensures
    (λ none.
    table_at_is c.args.depth (c.args.depth - 1) c.args.cursor.now (omega arith)
    ∙ bind_is _ _ (c.in_ok-body.body, c.long_split.new.self) _ c.in_ok-body.ensures (bind_none _ _ none)))

pub table-returns : goal.table-returns
table-returns g t c =
    table_at_is c.args.depth (c.args.depth - 1) c.args.cursor.now (omega arith)
    ∙ bind_is _ _ (c.in_ok-body.body, c.long_split.new.self) _ c.in_ok-body.ensures
    (bind_is _ _ (map pair_of c.in_ok-found.found.items) _ c.in_ok-found.ensures
    (ap (λ (ps : List Pair). Some (ps, c.long_split.new.self)) (sym c.in_ok-from_entries.ensures.last_counts)))

-- ---- the values of an array
pub values-loop-alloc-init : goal.values-loop-alloc-init
values-loop-alloc-init g t c = (
  length c.args.body.now,
  omega arith,
  rw c.new-values.ensures (append_none (row_at (value_at c.args.depth) (length c.args.body.now) c.args.body.now)),
)

pub values-returns-in_err-value : goal.values-returns-in_err-value
values-returns-in_err-value g t c =
    let p = err_from_is_err_and c.from_residual.result c.from_residual.ensures.1 in
    let l = c.loop-alloc in
    let some_left : l.body ≡ [] → ⊥ = grind arith in
    rw (p.1, p.2)
    (fails_with c.in_err-value.field-0.0 (value_at c.args.depth l.body) _ c.in_err-value.ensures
    (row_fails (value_at c.args.depth) (λ vs. l.values ++ vs) l.invariant.0 l.body _ l.invariant.2 some_left
    l.invariant.1))

pub values-loop-alloc-smaller : goal.values-loop-alloc-smaller
values-loop-alloc-smaller g t c =
    value_shorter c.args.depth c.loop-alloc.body (value_of c.in_ok-value.field-0) c.value.new.cursor
    c.in_ok-value.ensures

pub values-loop-alloc-preserved : goal.values-loop-alloc-preserved
values-loop-alloc-preserved g t c =
    let l = c.loop-alloc in
    let some_left : l.body ≡ [] → ⊥ = grind arith in
    let shorter =
    value_shorter c.args.depth l.body (value_of c.in_ok-value.field-0) c.value.new.cursor c.in_ok-value.ensures in
    let step =
    row_step (value_at c.args.depth) (λ vs. l.values ++ vs) l.invariant.0 l.body _ l.invariant.2 some_left
    l.invariant.1 (λ vs. (l.values ++ value_of c.in_ok-value.field-0 ∷ []) ++ vs) (value_of c.in_ok-value.field-0)
    c.value.new.cursor (append_more l.values (value_of c.in_ok-value.field-0)) c.in_ok-value.ensures in
    (l.invariant.0 - 1, omega (arith, shorter, l.invariant.1), rw c.in_ok-push.ensures.ok step)

pub values-returns : goal.values-returns
values-returns g t c =
    let l = c.loop-alloc in
    let none_left : l.body ≡ [] = grind arith in
    row_done (value_at c.args.depth) (λ vs. l.values ++ vs) l.invariant.0 l.body _ l.invariant.2 none_left
    ∙ ap Some (append-nil l.values)

-- ---- the pairs of a table
pub pairs-loop-alloc-init : goal.pairs-loop-alloc-init
pairs-loop-alloc-init g t c = (
  length c.args.body.now,
  omega arith,
  rw c.new-entries.ensures.items
      (append_none (row_at (pair_with (value_at c.args.depth)) (length c.args.body.now) c.args.body.now)),
)

pub pairs-returns-in_err-name : goal.pairs-returns-in_err-name
pairs-returns-in_err-name g t c =
    let p = err_from_is_err_and c.from_residual.result c.from_residual.ensures.1 in
    let l = c.loop-alloc in
    let some_left : l.body ≡ [] → ⊥ = grind arith in
    rw (p.1, p.2)
    (fails_with c.in_err-name.field-0.0 (short_string_at l.body) _ c.in_err-name.ensures
    (λ none.
    row_fails (pair_with (value_at c.args.depth)) (λ ps. map pair_of l.entries.items ++ ps) l.invariant.0 l.body _
    l.invariant.2 some_left l.invariant.1 (no_pair_name c.args.depth l.body none)))

pub pairs-returns-in_err-value : goal.pairs-returns-in_err-value
pairs-returns-in_err-value g t c =
    let p = err_from_is_err_and c.from_residual-in_err-value.result c.from_residual-in_err-value.ensures.1 in
    let l = c.loop-alloc in
    let some_left : l.body ≡ [] → ⊥ = grind arith in
    let middle = c.short_string.new.self in
    rw (p.1, p.2)
    (fails_with c.in_err-value.field-0.0 (value_at c.args.depth middle) _ c.in_err-value.ensures
    (λ none.
    row_fails (pair_with (value_at c.args.depth)) (λ ps. map pair_of l.entries.items ++ ps) l.invariant.0 l.body _
    l.invariant.2 some_left l.invariant.1
    (no_pair_value c.args.depth l.body middle c.in_ok-name.name c.in_ok-name.ensures none)))

pub pairs-loop-alloc-smaller : goal.pairs-loop-alloc-smaller
pairs-loop-alloc-smaller g t c =
    let read =
    pair_is c.args.depth c.loop-alloc.body c.short_string.new.self c.value.new.cursor c.in_ok-name.name
    (value_of c.in_ok-value.value) c.in_ok-name.ensures c.in_ok-value.ensures in
    pair_shorter c.args.depth c.loop-alloc.body (c.in_ok-name.name, value_of c.in_ok-value.value) c.value.new.cursor
    read

pub pairs-loop-alloc-preserved : goal.pairs-loop-alloc-preserved
pairs-loop-alloc-preserved g t c =
    let l = c.loop-alloc in
    let some_left : l.body ≡ [] → ⊥ = grind arith in
    let entry : Entry = record { name = c.in_ok-name.name; value = c.in_ok-value.value } in
    let read =
    pair_is c.args.depth l.body c.short_string.new.self c.value.new.cursor c.in_ok-name.name
    (value_of c.in_ok-value.value) c.in_ok-name.ensures c.in_ok-value.ensures in
    let shorter = pair_shorter c.args.depth l.body (pair_of entry) c.value.new.cursor read in
    let step =
    row_step (pair_with (value_at c.args.depth)) (λ ps. map pair_of l.entries.items ++ ps) l.invariant.0 l.body _
    l.invariant.2 some_left l.invariant.1 (λ ps. map pair_of (l.entries.items ++ entry ∷ []) ++ ps) (pair_of entry)
    c.value.new.cursor (entries_more l.entries.items entry) read in
    (l.invariant.0 - 1, omega (arith, shorter, l.invariant.1), rw c.in_ok-push.ensures.items step)

pub pairs-returns : goal.pairs-returns
pairs-returns g t c =
    let l = c.loop-alloc in
    let none_left : l.body ≡ [] = grind arith in
    row_done (pair_with (value_at c.args.depth)) (λ ps. map pair_of l.entries.items ++ ps) l.invariant.0 l.body _
    l.invariant.2 none_left
    ∙ ap Some (append-nil (map pair_of l.entries.items))
