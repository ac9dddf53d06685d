use Rattle.std.proofs.Common.{◌≡◌, ◌∙◌, ap, false, None, is_some, rules}
use Rattle.amqp_types.proofs.Small.{none-from}
use Rattle.amqp_joining.specs.Plans.{turns_of}
use Rattle.amqp_doubled.specs.Numbers.{doubled_plan, double_numbers}
use Rattle.amqp_doubled.specs.Doubling.{doubled_talk}
use Rattle.amqp_doubled.proofs.Endings.{new-ends, enough-turns, answered-ok, is-doubled, if-ok}
use Rattle.amqp_doubled.proofs.doubling.print_run.Goals as goal

pub returns : goal.returns
returns g c =
    let before = c.args.port.now in
    let after = c.run.new.self in
    let ran = c.run.new.engine in
    let turns = c.turns-turns.result in
    let all : turns ≡ turns_of before.join.plan = c.turns-turns.ensures ∙ ap turns_of c.plan.ensures in
    let none : is_some ran.starved ≡ false = search rules in
    let fed : ran.starved ≡ None = none-from ran.starved none in
    if-ok _ _ c.print_end.result
    (λ p printed count few port engine says.
    (let new = new-ends count c.args.engine.now before engine port in
    let enough = enough-turns count turns before few port all in
    let closed = c.run.ensures.both_ends_close doubled_talk double_numbers (doubled_plan count) new enough says (answered-ok c.run.result ran.starved fed (c.run.ensures.both_ends doubled_talk double_numbers (doubled_plan count) new enough says)) in
    is-doubled count turns c.taken.result ran before after p port all closed c.run.ensures.kept c.taken.ensures printed))
    c.print_end.ensures
