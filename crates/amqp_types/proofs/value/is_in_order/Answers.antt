use Rattle.std.proofs.Common.{rules}
use Rattle.std.specs.Ordering.{is_lt}
use Rattle.std.proofs.lemmas.List.Sorted.{answers_always}
use Rattle.amqp_types.specs.Table.{name_cmp}
use Rattle.amqp_types.proofs.TableOrder.{tested_order}
use Rattle.amqp_types.proofs.value.is_in_order.Goals as goal

pub returns : goal.returns
returns c =
    tested_order c.args.entries.now c.is_sorted_by.result (c.is_sorted_by.ensures.cases (λ x y. is_lt (name_cmp x.name y.name)) (answers_always _ _ _ (λ f a r g called. search rules)))
