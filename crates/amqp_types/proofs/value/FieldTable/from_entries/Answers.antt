use Rattle.std.proofs.Common.{map, sym, ◌∙◌, subst, rules}
use Rattle.amqp_types.specs.View.{pair_of}
use Rattle.amqp_types.specs.Table.{IsInOrder}
use Rattle.amqp_types.proofs.TableLaws.{map_of_ordered, names_stand_once}
use Rattle.amqp_types.proofs.value.FieldTable.from_entries.Goals as goal

pub returns-then-is_in_order-clause-last_counts : goal.returns-then-is_in_order-clause-last_counts
returns-then-is_in_order-clause-last_counts c =
    let in_order : IsInOrder (map pair_of c.args.entries.items) = search rules in
    sym (map_of_ordered (map pair_of c.args.entries.items) in_order)

pub invariant_of-result-2 : goal.invariant_of-result-2
invariant_of-result-2 c = subst IsInOrder (sym (c.in_ok-listed.ensures ∙ c.in_ok-last.ensures)) (names_stand_once (map pair_of c.args.entries.items))
