-- A capture of a link: the octets that each line adds to what a side said, and which line is refused.
use Rattle.std.specs.Prelude.{ℕ, ◌-◌, ◌&&◌, not, nat_le, nat_lt, if◌then◌else◌, List, [], ◌∷◌, ◌++◌, length, Option, Some, None, Result, Ok, Err, codes}
use Rattle.std.specs.List.{list_all}
use Rattle.std.specs.Str.{bytes_eq}
use Rattle.amqp_replay.specs.declared.limits.TheConstants.{ZERO_BYTES}
use Rattle.amqp_replay.specs.Lines.{Line, lines, is_ignored, is_printable, is_within_limits}
use Rattle.amqp_replay.specs.Words.{first_word, after_word}
use Rattle.amqp_replay.specs.Data.{SpelledBytes, spelled}
use Rattle.amqp_program.specs.declared.captured.CaptureLine.{CaptureLine}
use Rattle.amqp_program.specs.declared.captured.CaptureLine.TheVariants.{Nothing, Refused, Piece}
use Rattle.amqp_program.specs.declared.captured.Side.{Side}
use Rattle.amqp_program.specs.declared.captured.Side.TheVariants.{Client, Server}

-- ---- lines

-- which side a word names
abbrev pub side_of : List ℕ → Option Side
side_of word =
    if bytes_eq word (codes "client") then Some Client
    else if bytes_eq word (codes "server") then Some Server
    else None

-- at least one octet of a side, where so many zeros may still be spelled by numbers
abbrev pub piece_captured : Side → ℕ → Option SpelledBytes → CaptureLine
piece_captured side left None = Refused
piece_captured side left (Some found) =
    if nat_le found.zeros left && nat_le 1 (length found.bytes) then Piece side found.bytes found.zeros else Refused

-- the octets that the words after the first spell, where there are any
abbrev pub octets_spelled : Option (List ℕ) → Option SpelledBytes
octets_spelled None = None
octets_spelled (Some text) = spelled text

-- `client DATA`, `server DATA`
abbrev pub side_line : ℕ → Option Side → Option (List ℕ) → CaptureLine
side_line left None rest = Refused
side_line left (Some side) rest = piece_captured side left (octets_spelled rest)

-- what the bytes of a line say
abbrev pub content_captured : ℕ → List ℕ → CaptureLine
content_captured left content =
    if not (list_all is_printable content) then Refused
    else if is_ignored content then Nothing
    else side_line left (side_of (first_word content)) (after_word content)

-- what a line says, within the limits of a script
abbrev pub line_captured : ℕ → Line → CaptureLine
line_captured left line = if is_within_limits line then content_captured left line.content else Refused

-- ---- captures

-- what was captured of both sides
pub record Captured : Type 0 where
  pub client : List ℕ
  pub server : List ℕ

-- nothing was captured
abbrev pub nothing_captured : Captured
nothing_captured = record { client = []; server = [] }

-- more octets of a side
abbrev pub with_piece : Side → List ℕ → Captured → Captured
with_piece Client bytes c = record c { client = c.client ++ bytes }
with_piece Server bytes c = record c { server = c.server ++ bytes }

-- a line that says this, before what the lines behind it say, by what was said and the zeros that are left
abbrev pub then_line : Captured → ℕ → ℕ → (Captured → ℕ → Result Captured ℕ) → CaptureLine → Result Captured ℕ
then_line c left number rest Nothing = rest c left
then_line c left number rest Refused = Err number
then_line c left number rest (Piece side bytes zeros) = rest (with_piece side bytes c) (left - zeros)

-- what these lines say behind what was said before, where so many zeros may still be spelled by numbers; or the number
-- of the first that is refused
abbrev pub captured_from : List Line → Captured → ℕ → Result Captured ℕ
captured_from [] c left = Ok c
captured_from (line ∷ lines) c left = then_line c left line.number (captured_from lines) (line_captured left line)

-- what a text says
abbrev pub captured : List ℕ → Result Captured ℕ
captured text = captured_from (lines text) nothing_captured ZERO_BYTES

-- ---- how many octets a line has

-- how many of so many octets of one side are those of another
abbrev pub len_on : Side → Side → ℕ → ℕ
len_on Client Client len = len
len_on Server Server len = len
len_on side whose len = 0

-- how many octets of a side a line has
abbrev pub octets_on : Side → CaptureLine → ℕ
octets_on side (Piece whose bytes zeros) = len_on side whose (length bytes)
octets_on side said = 0

-- how many zeros of a line are spelled by numbers
abbrev pub zeros_captured : CaptureLine → ℕ
zeros_captured (Piece side bytes zeros) = zeros
zeros_captured said = 0

-- ---- which line has an octet

-- the number of the line that has the octet of a side at this place, the places being counted from 0 on these lines,
-- where so many zeros may still be spelled by numbers
abbrev pub line_with : Side → ℕ → ℕ → List Line → Option ℕ
line_with side place left [] = None
line_with side place left (line ∷ lines) =
    let said = line_captured left line in
    if nat_lt place (octets_on side said) then Some line.number
    else line_with side (place - octets_on side said) (left - zeros_captured said) lines
