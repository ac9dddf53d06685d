use Rattle.std.proofs.Common.{◌≡◌, ◌∙◌, ◌<◌, ◌≤◌, length, ap, sym, arith, rules}
use Rattle.std.proofs.lemmas.List.Filters.{FiltersInPlace-more_no, FiltersInPlace-more_set}
use Rattle.amqp_pool.proofs.looking.sweep.Goals as goal
use Rattle.amqp_pool.proofs.looking.sweep.Goals.{then-stays_idle, else-stays_idle}

pub idle-preserved : goal.idle-preserved
idle-preserved c =
    let under : c.idle.place < length c.idle.idle.items = omega (arith, c.idle-test.true, c.len-place-end.ensures, c.idle.invariant.long, c.args.idle.now.ok) in
    elim c.if-stays_idle.branch [
      | then-stays_idle w ↦
          rw (w.idle-is, w.kept-is)
          (FiltersInPlace-more_set c.idle.invariant under (sym c.stays_idle.ensures ∙ w.if-stays_idle.true) c.index-channel.ensures)
      | else-stays_idle w ↦
          rw (w.idle-is, w.kept-is)
          (FiltersInPlace-more_no c.idle.invariant under (sym c.stays_idle.ensures ∙ w.if-stays_idle.false) c.index-channel.ensures)
    ]
