use Rattle.std.proofs.Common.{◌≡◌, ◌∙◌, ℕ, List, false, Result, ap, subst}
use Rattle.amqp_replay.specs.Generator.{generated}
use Rattle.amqp_replay.specs.Grammar.{Scenario, parsed}
use Rattle.amqp_replay.specs.Scripts.{script_read}
use Rattle.amqp_replay.specs.Top.{own_state}
use Rattle.amqp_replay.specs.Runs.{IsMade, made_of_generated}
use Rattle.amqp_replay.proofs.answering.print_number.Goals as goal

pub returns : goal.returns
returns g c =
    let log = g.P.Port.log c.args.port.now in
    let log' = g.P.Port.log c.print_generated.new.port in
    let p = c.in_ok-print_generated.field-0 in
    let text : c.as_bytes.result.now ≡ generated c.args.count = c.as_bytes.ensures.value ∙ c.in_ok-script.ensures in
    let read : script_read c.in_ok-read.read ≡ parsed false (generated c.args.count) = c.in_ok-read.ensures.script ∙ ap (parsed false) text in
    let P : List ℕ → Type 0 = λ x. IsMade own_state (script_read c.in_ok-read.read) (made_of_generated x) log log' p in
    let Q : Result Scenario ℕ → Type 0 = λ r. IsMade own_state r (made_of_generated (generated c.args.count)) log log' p in
    subst Q read (subst P c.in_ok-script.ensures c.in_ok-print_generated.ensures)
