-- Of a capture too, the line that holds the first byte beyond the limit is refused, so that what follows that byte says
-- nothing.
use Rattle.std.proofs.Common.{◌≡◌, ◌<◌, ◌-◌, ◌&&◌, nat_le, if◌then◌else◌, ℕ, Bool, true, false, List, ◌∷◌, take, Result, Err, refl, ap, arith}
use Rattle.std.proofs.lemmas.Bool.Decides.{nat_tests}
use Rattle.amqp_replay.specs.declared.limits.TheConstants.{MOST_READ, SCRIPT_BYTES, SCRIPT_LINES, ZERO_BYTES}
use Rattle.amqp_replay.specs.Lines.{Line}
use Rattle.amqp_replay.proofs.MostRead.{IsReading, most-read}
use Rattle.amqp_program.specs.declared.captured.CaptureLine.{CaptureLine}
use Rattle.amqp_program.specs.declared.captured.CaptureLine.TheVariants.{Nothing, Refused, Piece}
use Rattle.amqp_program.specs.Captures.{Captured, nothing_captured, content_captured, line_captured, with_piece, then_line, captured_from, captured}

-- what was said, and the zeros that are left
abbrev SoFar : Type 0
SoFar = Captured × ℕ

abbrev reading : SoFar → List Line → Result Captured ℕ
reading (c, left) xs = captured_from xs c left

beyond : (a b : Bool) (said : CaptureLine) → b ≡ false → (if a && b then said else Refused) ≡ Refused
beyond true b said h = ap (λ (x : Bool). if x then said else Refused) h
beyond false b said h = refl

refused_beyond : (s : SoFar) (line : Line) (more : List Line) → SCRIPT_BYTES < line.end → reading s (line ∷ more) ≡ Err line.number
refused_beyond (c, left) line more h =
    let over : nat_le line.end SCRIPT_BYTES ≡ false = grind (arith, nat_tests) in
    ap (then_line c left line.number (captured_from more))
    (beyond (nat_le line.number SCRIPT_LINES) (nat_le line.end SCRIPT_BYTES) (content_captured left line.content) over)

by_line : (c : Captured) (left : ℕ) (line : Line) (xs ys : List Line) → ((t : SoFar) → reading t xs ≡ reading t ys) → (said : CaptureLine)
    → then_line c left line.number (captured_from xs) said ≡ then_line c left line.number (captured_from ys) said
by_line c left line xs ys same Nothing = same (c, left)
by_line c left line xs ys same Refused = refl
by_line c left line xs ys same (Piece side bytes zeros) = same (with_piece side bytes c, left - zeros)

by_says : (s : SoFar) (line : Line) (xs ys : List Line) → ((t : SoFar) → reading t xs ≡ reading t ys)
    → reading s (line ∷ xs) ≡ reading s (line ∷ ys)
by_says (c, left) line xs ys same = by_line c left line xs ys same (line_captured left line)

is_reading : IsReading reading Err
is_reading = record { beyond = refused_beyond; behind = by_says }

-- the most that is read of a text says what all of it does
pub captured-most : (text : List ℕ) → captured (take MOST_READ text) ≡ captured text
captured-most text = most-read reading Err is_reading (nothing_captured, ZERO_BYTES) text
