use Rattle.std.proofs.Common.{◌*◌, ◌<◌, true, false, length, map, refl, sym, ap, ap₂, ◌∙◌, arith}
use Rattle.std.proofs.lemmas.Bool.{not-true, not-false}
use Rattle.std.proofs.lemmas.Iterator.{empty_from_Zip}
use Rattle.std.proofs.lemmas.Slice.Zip.{Zip-more}
use Rattle.amqp_types.specs.View.{value_of, pair_of}
use Rattle.amqp_types.specs.TableSize.{value_size, values_size, pairs_size}
use Rattle.amqp_types.specs.Equality.{same_list, same_table}
use Rattle.amqp_types.proofs.Sameness.{lists_unlike, tables_unlike, values_told, entries_told}
use Rattle.amqp_types.proofs.equality.+same.Goals as goal

pub same_values_of-returns-then-left-right : goal.same_values_of-returns-then-left-right
same_values_of-returns-then-left-right t c = rw (← c.as_slice-left.ensures, ← c.as_slice-right.ensures) (lists_unlike c.as_slice-left.result.now c.as_slice-right.result.now c.if-left-right.true)

pub same_entries-returns-then-left-right : goal.same_entries-returns-then-left-right
same_entries-returns-then-left-right t c = rw (← c.entries-left.ensures.entries, ← c.entries-right.ensures.entries) (tables_unlike c.entries-left.result.now c.entries-right.result.now c.if-left-right.true)

pub same_values_of-same-requires : goal.same_values_of-same-requires
same_values_of-same-requires t c =
    let next = Zip-more c.loop-this.this-iterator c.next.new.self c.next.result (c.in-Some.this, c.in-Some.that) c.in-Some.is c.next.ensures.steps in
    let smaller : 2 * value_size (value_of c.in-Some.this.now) < t = omega (arith, ap (λ us. values_size (map value_of us)) next.0, c.loop-this.invariant.2, c.decreases) in
    (smaller, tt)

pub same_entries-same-requires : goal.same_entries-same-requires
same_entries-same-requires t c =
    let next = Zip-more c.loop-this.this-iterator c.next.new.self c.next.result (c.in-Some.this, c.in-Some.that) c.in-Some.is c.next.ensures.steps in
    let smaller : 2 * value_size (value_of c.in-Some.this.now.value) < t = omega (arith, ap (λ es. pairs_size (map pair_of es)) next.0, c.loop-this.invariant.2, c.decreases) in
    (smaller, tt)

pub same_values_of-loop-this-preserved : goal.same_values_of-loop-this-preserved
same_values_of-loop-this-preserved t c =
    let next = Zip-more c.loop-this.this-iterator c.next.new.self c.next.result (c.in-Some.this, c.in-Some.that) c.in-Some.is c.next.ensures.steps in
    let told = values_told _ _ _ _ c.in-Some.this.now c.in-Some.that.now true next.0 next.1 (sym c.same.ensures ∙ c.if-not-same.false) in (
      omega (arith, c.loop-this.invariant.0, ap length next.0, ap length next.1),
      c.loop-this.invariant.1 ∙ told,
      omega (arith, ap (λ us. values_size (map value_of us)) next.0, c.loop-this.invariant.2),
    )

pub same_values_of-returns-then-not-same : goal.same_values_of-returns-then-not-same
same_values_of-returns-then-not-same t c =
    let next = Zip-more c.loop-this.this-iterator c.next.new.self c.next.result (c.in-Some.this, c.in-Some.that) c.in-Some.is c.next.ensures.steps in
    sym (c.loop-this.invariant.1 ∙ values_told _ _ _ _ c.in-Some.this.now c.in-Some.that.now false next.0 next.1 (sym c.same.ensures ∙ c.if-not-same.true))

pub same_values_of-returns : goal.same_values_of-returns
same_values_of-returns t c =
    let spent = empty_from_Zip _ c.next.new.self _ c.in-None.is c.next.ensures.steps c.loop-this.invariant.0 in
    sym (c.loop-this.invariant.1 ∙ ap₂ (λ us vs. same_list (map value_of us) (map value_of vs)) spent.0 spent.1)

pub same_entries-loop-this-preserved : goal.same_entries-loop-this-preserved
same_entries-loop-this-preserved t c =
    let next = Zip-more c.loop-this.this-iterator c.next.new.self c.next.result (c.in-Some.this, c.in-Some.that) c.in-Some.is c.next.ensures.steps in
    let told = entries_told _ _ _ _ c.in-Some.this.now c.in-Some.that.now true true next.0 next.1 (not-false _ (sym c.ne.ensures ∙ c.if-ne.false)) (sym c.same.ensures ∙ c.if-not-same.false) in (
      omega (arith, c.loop-this.invariant.0, ap length next.0, ap length next.1),
      c.loop-this.invariant.1 ∙ told,
      omega (arith, ap (λ es. pairs_size (map pair_of es)) next.0, c.loop-this.invariant.2),
    )

pub same_entries-returns-then-ne : goal.same_entries-returns-then-ne
same_entries-returns-then-ne t c =
    let next = Zip-more c.loop-this.this-iterator c.next.new.self c.next.result (c.in-Some.this, c.in-Some.that) c.in-Some.is c.next.ensures.steps in
    sym (c.loop-this.invariant.1 ∙ entries_told _ _ _ _ c.in-Some.this.now c.in-Some.that.now false _ next.0 next.1 (not-true _ (sym c.ne.ensures ∙ c.if-ne.true)) refl)

pub same_entries-returns-then-not-same : goal.same_entries-returns-then-not-same
same_entries-returns-then-not-same t c =
    let next = Zip-more c.loop-this.this-iterator c.next.new.self c.next.result (c.in-Some.this, c.in-Some.that) c.in-Some.is c.next.ensures.steps in
    sym (c.loop-this.invariant.1 ∙ entries_told _ _ _ _ c.in-Some.this.now c.in-Some.that.now true false next.0 next.1 (not-false _ (sym c.ne.ensures ∙ c.if-ne.false)) (sym c.same.ensures ∙ c.if-not-same.true))

pub same_entries-returns : goal.same_entries-returns
same_entries-returns t c =
    let spent = empty_from_Zip _ c.next.new.self _ c.in-None.is c.next.ensures.steps c.loop-this.invariant.0 in
    sym (c.loop-this.invariant.1 ∙ ap₂ (λ es fs. same_table (map pair_of es) (map pair_of fs)) spent.0 spent.1)
