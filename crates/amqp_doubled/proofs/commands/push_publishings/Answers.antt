use Rattle.std.proofs.Common.{◌≡◌, ◌∙◌, ◌+◌, ◌-◌, ◌++◌, [], ◌∷◌, ℕ, suc, List, ap, sym, append_assoc, append-nil, map, arith}
use Rattle.std.specs.List.{range_with_len}
use Rattle.amqp_commands.specs.declared.command.Cmd.{Cmd}
use Rattle.amqp_doubled.specs.Numbers.{hello_command}
use Rattle.amqp_doubled.proofs.commands.push_publishings.Goals as goal

pub channels-init : goal.channels-init
channels-init c =
    let all : c.args.count + 1 - 1 ≡ c.args.count = omega arith in
    ap (λ (k : ℕ). c.args.commands.now.items ++ map hello_command (range_with_len 1 k)) all

pub channels-preserved : goal.channels-preserved
channels-preserved c =
    let before = c.channels.commands.items in
    let id = c.channels.id in
    let rest : List Cmd = map hello_command (range_with_len (id + 1) (c.args.count + 1 - (id + 1))) in
    let more : c.args.count + 1 - id ≡ suc (c.args.count + 1 - (id + 1)) = omega arith in
    ap (λ (x : List Cmd). x ++ rest) (c.in_ok-push.ensures.items ∙ ap (λ (x : Cmd). before ++ x ∷ []) c.in_ok-command.ensures)
    ∙ append_assoc before (hello_command id ∷ []) rest
    ∙ ap (λ (k : ℕ). before ++ map hello_command (range_with_len id k)) (sym more)
    ∙ c.channels.invariant

pub returns : goal.returns
returns c =
    let before = c.channels.commands.items in
    let id = c.channels.id in
    let none : c.args.count + 1 - id ≡ 0 = omega arith in
    sym (ap (λ (k : ℕ). before ++ map hello_command (range_with_len id k)) none ∙ append-nil before) ∙ c.channels.invariant
