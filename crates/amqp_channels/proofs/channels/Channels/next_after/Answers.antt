use Rattle.std.proofs.Common.{◌≡◌, ◌∙◌, ap, sym, subst, ℕ, Some, ◌∷◌}
use Rattle.std.specs.Ordering.{nat_cmp}
use Rattle.std.specs.declared.ops.Bound.{Bound}
use Rattle.std.specs.declared.ops.Bound.TheVariants.{Unbounded}
use Rattle.std.specs.BTreeMap.Range.{entries_between}
use Rattle.amqp_channels.specs.declared.channels.Channel.{Channel}
use Rattle.amqp_channels.specs.Channels.{Listing}
use Rattle.amqp_channels.specs.InOrder.{listed_after}
use Rattle.amqp_channels.proofs.Walking.{from_bound, range-after, after-first}
use Rattle.amqp_channels.proofs.channels.Channels.next_after.Goals as goal
use Rattle.amqp_channels.proofs.channels.Channels.next_after.Goals.{in-Some, in-None}

pub returns-clause-next : goal.returns-clause-next
returns-clause-next c =
    let last = c.args.last in
    let es = c.self.inside.listed.entries in
    let e : ℕ × Channel = (c.in_ok-id.id.now, c.in_ok-id.channel.now) in
    let from : c.match-last.from ≡ from_bound last =
    elim c.match-last.branch [
      | in-Some w ↦ w.from-is ∙ sym (ap from_bound w.in-Some.is)
      | in-None w ↦ w.from-is ∙ sym (ap from_bound w.in-None.is)
    ] in
    let left : listed_after last es ≡ e ∷ c.next.new.self =
    sym (range-after last es) ∙ sym (ap (λ (b : Bound ℕ). entries_between nat_cmp b Unbounded es) from) ∙ sym (c.range.ensures.between tt) ∙ c.in_ok-id.ensures.steps in
    let more : listed_after last es ≡ e ∷ listed_after (Some e.0) es =
    left ∙ ap (λ xs. e ∷ xs) (sym (after-first last e c.next.new.self es c.range.ensures.ordered left)) in
    let P : Listing → Type 0 = λ l. listed_after last l.listed ≡ e ∷ listed_after (Some e.0) l.listed in
    subst P c.self.view_is more
