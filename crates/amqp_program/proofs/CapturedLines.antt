-- Lines of a capture: none spells more zeros by numbers than are left, and one that has not the octet is passed.
use Rattle.std.proofs.Common.{◌≡◌, ◌≤◌, ◌∙◌, ◌-◌, ◌&&◌, ℕ, nat_le, nat_lt, not, if◌then◌else◌, Bool, true, false, List, [], ◌∷◌, length, slice_get, drop, Option, Some, None, refl, ap, arith}
use Rattle.std.proofs.lemmas.Bool.Decides.{nat_tests}
use Rattle.std.specs.List.{list_all}
use Rattle.amqp_replay.specs.Lines.{Line, is_ignored, is_printable, is_within_limits}
use Rattle.amqp_replay.specs.Words.{first_word, after_word}
use Rattle.amqp_replay.specs.Data.{SpelledBytes}
use Rattle.amqp_program.specs.declared.captured.CaptureLine.{CaptureLine}
use Rattle.amqp_program.specs.declared.captured.CaptureLine.TheVariants.{Nothing, Refused, Piece}
use Rattle.amqp_program.specs.declared.captured.Side.{Side}
use Rattle.amqp_program.specs.Captures.{side_of, piece_captured, octets_spelled, side_line, content_captured, line_captured, octets_on, zeros_captured, line_with}

either : (c : Bool) (one other : CaptureLine) (left : ℕ) → zeros_captured one ≤ left → zeros_captured other ≤ left
    → zeros_captured (if c then one else other) ≤ left
either true one other left within otherwise = within
either false one other left within otherwise = otherwise

affordable : (a b : Bool) (side : Side) (bytes : List ℕ) (zeros left : ℕ) → nat_le zeros left ≡ a
    → zeros_captured (if a && b then Piece side bytes zeros else Refused) ≤ left
affordable true true side bytes zeros left h = grind (arith, nat_tests, h)
affordable true false side bytes zeros left h = omega arith
affordable false b side bytes zeros left h = omega arith

of_piece : (side : Side) (left : ℕ) (found : Option SpelledBytes) → zeros_captured (piece_captured side left found) ≤ left
of_piece side left None = omega arith
of_piece side left (Some found) =
    affordable (nat_le found.zeros left) (nat_le 1 (length found.bytes)) side found.bytes found.zeros left refl

of_side : (left : ℕ) (side : Option Side) (rest : Option (List ℕ)) → zeros_captured (side_line left side rest) ≤ left
of_side left None rest = omega arith
of_side left (Some side) rest = of_piece side left (octets_spelled rest)

of_content : (left : ℕ) (content : List ℕ) → zeros_captured (content_captured left content) ≤ left
of_content left content =
    either (not (list_all is_printable content)) Refused _ left (omega arith)
    (either (is_ignored content) Nothing _ left (omega arith) (of_side left (side_of (first_word content)) (after_word content)))

pub zeros_within : (left : ℕ) (line : Line) → zeros_captured (line_captured left line) ≤ left
zeros_within left line = either (is_within_limits line) (content_captured left line.content) Refused left (of_content left line.content) (omega arith)

-- a first line that has not the octet is passed
pub line-past : (side : Side) (place left : ℕ) (line : Line) (said : CaptureLine) (ls : List Line) → slice_get ls 0 ≡ Some line → line_captured left line ≡ said
    → nat_lt place (octets_on side said) ≡ false
    → line_with side place left ls ≡ line_with side (place - octets_on side said) (left - zeros_captured said) (drop 1 ls)
line-past side place left line said [] first says less = absurd cc
line-past side place left line said (l ∷ ls) first says less =
    let same : l ≡ line = cc in
    let told : line_captured left l ≡ said = ap (line_captured left) same ∙ says in
    let by_line : CaptureLine → Option ℕ = λ x.
    if nat_lt place (octets_on side x) then Some l.number else line_with side (place - octets_on side x) (left - zeros_captured x) ls in
    ap by_line told
    ∙ ap (λ (b : Bool). if b then Some l.number else line_with side (place - octets_on side said) (left - zeros_captured said) ls) less
