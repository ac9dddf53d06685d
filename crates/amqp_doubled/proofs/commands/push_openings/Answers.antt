use Rattle.std.proofs.Common.{◌≡◌, ◌∙◌, ◌+◌, ◌-◌, ◌++◌, [], ◌∷◌, ℕ, suc, List, ap, sym, append_assoc, append-nil, replicate, arith}
use Rattle.amqp_commands.specs.declared.command.Cmd.{Cmd}
use Rattle.amqp_commands.specs.declared.command.Cmd.TheVariants.{OpenChannel}
use Rattle.amqp_doubled.proofs.commands.push_openings.Goals as goal

pub channels-init : goal.channels-init
channels-init c =
    let all : c.args.count + 1 - 1 ≡ c.args.count = omega arith in
    ap (λ (k : ℕ). c.args.commands.now.items ++ replicate k OpenChannel) all

pub channels-preserved : goal.channels-preserved
channels-preserved c =
    let before = c.channels.commands.items in
    let id = c.channels.id in
    let rest : List Cmd = replicate (c.args.count + 1 - (id + 1)) OpenChannel in
    let more : c.args.count + 1 - id ≡ suc (c.args.count + 1 - (id + 1)) = omega arith in
    ap (λ (x : List Cmd). x ++ rest) c.in_ok-push.ensures.items
    ∙ append_assoc before (OpenChannel ∷ []) rest
    ∙ ap (λ (k : ℕ). before ++ replicate k OpenChannel) (sym more)
    ∙ c.channels.invariant

pub returns : goal.returns
returns c =
    let before = c.channels.commands.items in
    let id = c.channels.id in
    let none : c.args.count + 1 - id ≡ 0 = omega arith in
    sym (ap (λ (k : ℕ). before ++ replicate k OpenChannel) none ∙ append-nil before) ∙ c.channels.invariant
