use Rattle.std.proofs.Common.{◌≡◌, ◌∙◌, ◌+◌, ◌-◌, ◌++◌, ℕ, List, ap, sym, append_assoc, append-nil, arith}
use Rattle.std.specs.String.{string_bytes}
use Rattle.amqp_replay.specs.Generator.{opening_lines}
use Rattle.amqp_replay.proofs.Reports.{lines_from, lines_from-step}
use Rattle.amqp_replay.proofs.generator.put_openings.Goals as goal

pub channels-init : goal.channels-init
channels-init c =
    let all : c.args.count + 1 - 1 ≡ c.args.count = omega arith in
    ap (λ (k : ℕ). string_bytes c.args.out.now ++ lines_from opening_lines 1 k) all

pub channels-preserved : goal.channels-preserved
channels-preserved c =
    let out = string_bytes c.channels.out in
    let id = c.channels.id in
    let rest = lines_from opening_lines (id + 1) (c.args.count + 1 - (id + 1)) in
    ap (λ (x : List ℕ). x ++ rest) c.in_ok-put_opening.ensures
    ∙ append_assoc out (opening_lines id) rest
    ∙ ap (λ (x : List ℕ). out ++ x) (sym (lines_from-step opening_lines id (c.args.count + 1) (omega arith)))
    ∙ c.channels.invariant

pub returns : goal.returns
returns c =
    let out = string_bytes c.channels.out in
    let id = c.channels.id in
    let none : c.args.count + 1 - id ≡ 0 = omega arith in
    sym (ap (λ (k : ℕ). out ++ lines_from opening_lines id k) none ∙ append-nil out) ∙ c.channels.invariant
