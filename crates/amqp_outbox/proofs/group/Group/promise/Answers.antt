use Rattle.std.proofs.Common.{◌∙◌, ap, sym, refl, subst, ◌-◌, ◌<◌, length, slice_index_or}
use Rattle.amqp_outbox.specs.declared.item.Item.{Item}
use Rattle.amqp_outbox.specs.Items.{promise_of_group}
use Rattle.amqp_outbox.proofs.Groups.{promise-at}
use Rattle.amqp_outbox.proofs.group.Group.promise.Goals as goal

pub returns-in-Some : goal.returns-in-Some
returns-in-Some c =
    let rest = c.self.inside.rest in
    let last = c.in-Some.last.now in
    let some : 0 < length rest.items = subst (λ n. 0 < n) rest.ok.0 (c.in-Some.ensures.variant.0 refl) in
    c.promise.ensures ∙ ap (λ (i : Item). i.promise) (c.in-Some.ensures.lookup ∙ ap (λ n. slice_index_or rest.items (n - 1) last) rest.ok.0)
    ∙ sym (promise-at c.self.inside.first rest.items last some)
    ∙ ap promise_of_group c.self.view_is
