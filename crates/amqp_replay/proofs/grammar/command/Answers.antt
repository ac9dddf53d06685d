use Rattle.std.proofs.lemmas.Grind.{common_steps}
use Rattle.std.proofs.Common.{arith}
use Rattle.std.specs.Option.{option_copied}
use Rattle.amqp_replay.proofs.FreeLines.{limited-close_line, limited-flow_line, limited-shut_line}
use Rattle.amqp_replay.proofs.grammar.command.Goals as goal

pub returns-then-is-2 : goal.returns-then-is-2
returns-then-is-2 c =
    let free = limited-close_line c.args.left (option_copied c.args.rest) in
    grind (arith, common_steps)

pub returns-then-is-5 : goal.returns-then-is-5
returns-then-is-5 c =
    let free = limited-flow_line c.args.left (option_copied c.args.rest) in
    grind (arith, common_steps)

pub returns-then-is-7 : goal.returns-then-is-7
returns-then-is-7 c =
    let free = limited-shut_line c.args.left (option_copied c.args.rest) in
    grind (arith, common_steps)
