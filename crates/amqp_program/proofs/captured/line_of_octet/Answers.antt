use Rattle.std.proofs.Common.{◌≡◌, ◌≤◌, ◌∙◌, ◌-◌, ℕ, nat_lt, Bool, false, List, slice_get, Some, ap, sym, arith}
use Rattle.std.proofs.lemmas.Bool.Decides.{nat_tests}
use Rattle.amqp_replay.specs.Lines.{Line}
use Rattle.amqp_program.specs.declared.captured.CaptureLine.{CaptureLine}
use Rattle.amqp_program.specs.Captures.{line_captured, octets_on, zeros_captured, line_with}
use Rattle.amqp_program.proofs.CapturedLines.{line-past}
use Rattle.amqp_program.proofs.captured.line_of_octet.Goals as goal

later : (m n : ℕ) → n ≤ m → nat_lt m n ≡ false
later m n h = grind (arith, nat_tests, h)

pub lines-preserved : goal.lines-preserved
lines-preserved c =
    let side = c.args.side in
    let place : ℕ = c.lines.before in
    let left : ℕ = c.lines.left in
    let line : Line = c.in-Some.line in
    let said : CaptureLine = c.in_ok-line_captured.field-0 in
    let rest : List Line = c.take_line.new.self in
    let first : slice_get c.lines.lines 0 ≡ Some line = sym c.take_line.ensures.first ∙ c.in-Some.is in
    let less : nat_lt place (octets_on side said) ≡ false =
    ap (λ (n : ℕ). nat_lt place n) (sym c.counts-octets.ensures.octets) ∙ later place c.counts-octets.result.0 c.if-before-octets.false in
    ap (λ (n : ℕ). line_with side (place - n) (left - c.counts-octets.result.1) rest) c.counts-octets.ensures.octets
    ∙ ap (λ (n : ℕ). line_with side (place - octets_on side said) (left - n) rest) c.counts-octets.ensures.zeros
    ∙ ap (line_with side (place - octets_on side said) (left - zeros_captured said)) c.take_line.ensures.rest
    ∙ sym (line-past side place left line said c.lines.lines first (sym c.in_ok-line_captured.ensures) less)
    ∙ c.lines.invariant
