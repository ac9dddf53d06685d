use Rattle.std.proofs.lemmas.Grind.{common_steps}
use Rattle.std.proofs.Common.{arith}
use Rattle.std.specs.Option.{option_copied}
use Rattle.amqp_replay.specs.Grammar.{rest_of, published_in}
use Rattle.amqp_replay.proofs.FreeLines.{limited-publishes_data}
use Rattle.amqp_replay.proofs.grammar.publish.Goals as goal

pub returns-in_ok-publishes-in-Some-Some-Some : goal.returns-in_ok-publishes-in-Some-Some-Some
returns-in_ok-publishes-in-Some-Some-Some c =
    let found = published_in (rest_of (rest_of (rest_of (option_copied c.args.rest)))) in
    let free = limited-publishes_data c.args.left c.in-Some-Some-Some.id c.in-Some-Some-Some.class c.in-Some-Some-Some.method found in
    grind (arith, common_steps)
