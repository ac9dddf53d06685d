-- Of a script, the line that holds the first byte beyond the limit is refused, so that what follows that byte says
-- nothing.
use Rattle.std.proofs.Common.{◌≡◌, ◌<◌, ◌-◌, ◌&&◌, nat_le, if◌then◌else◌, ℕ, Bool, true, false, List, ◌∷◌, take, Result, Err, refl, ap, arith}
use Rattle.std.proofs.lemmas.Bool.Decides.{nat_tests}
use Rattle.amqp_replay.specs.declared.grammar.Said.{Said}
use Rattle.amqp_replay.specs.declared.grammar.Said.TheVariants.{Refused}
use Rattle.amqp_replay.specs.declared.limits.TheConstants.{MOST_READ, SCRIPT_BYTES, SCRIPT_LINES, ZERO_BYTES}
use Rattle.amqp_replay.specs.Lines.{Line}
use Rattle.amqp_replay.specs.Setup.{SetupSoFar, no_lines}
use Rattle.amqp_replay.specs.Grammar.{Scenario, placed, progress_after, content_says, says, limited, moment_after, zeros_in, before as before_rest, scenario_of, parsed}
use Rattle.amqp_replay.proofs.MostRead.{IsReading, most-read}
use Rattle.amqp_replay.proofs.Steps.{scenario_of-refused}

-- how far the lines have come, the moment of the last step, and the zeros that are left
abbrev SoFar : Type 0
SoFar = SetupSoFar × ℕ × ℕ

abbrev reading : SoFar → List Line → Result Scenario ℕ
reading (p, at, left) xs = scenario_of p at left xs

beyond : (a b : Bool) (said : Said) → b ≡ false → (if a && b then said else Refused) ≡ Refused
beyond true b said h = ap (λ (x : Bool). if x then said else Refused) h
beyond false b said h = refl

refused_beyond : (s : SoFar) (line : Line) (more : List Line) → SCRIPT_BYTES < line.end → reading s (line ∷ more) ≡ Err line.number
refused_beyond (p, at, left) line more h =
    let over : nat_le line.end SCRIPT_BYTES ≡ false = grind (arith, nat_tests) in
    scenario_of-refused p at left line more
    (ap (limited left) (beyond (nat_le line.number SCRIPT_LINES) (nat_le line.end SCRIPT_BYTES) (content_says line.content) over))

-- what a line says where the lines before it have come so far
abbrev said_by : SetupSoFar → ℕ → Line → Said
said_by p left line = placed p (limited left (says line))

by_says : (s : SoFar) (line : Line) (xs ys : List Line) → ((t : SoFar) → reading t xs ≡ reading t ys)
    → reading s (line ∷ xs) ≡ reading s (line ∷ ys)
by_says (p, at, left) line xs ys same =
    let said = said_by p left line in
    let now = moment_after at said line.content in
    ap (before_rest now said line.number) (same (progress_after p said, now, left - zeros_in said))

is_reading : IsReading reading Err
is_reading = record { beyond = refused_beyond; behind = by_says }

-- the most that is read of a text says what all of it does
pub parsed-most : (is_handed : Bool) (text : List ℕ) → parsed is_handed (take MOST_READ text) ≡ parsed is_handed text
parsed-most is_handed text = most-read reading Err is_reading (no_lines is_handed, 0, ZERO_BYTES) text
