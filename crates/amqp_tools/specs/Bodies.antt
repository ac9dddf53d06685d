-- How bodies stand one after another in a stream of octets.
use Rattle.std.specs.Prelude.{ℕ, ◌+◌, ◌==◌, nat_le, nat_lt, Bool, false, List, length, take, drop, Option, Some, None, position, if◌then◌else◌}
use Rattle.std.specs.Int.{w32, from_be_bytes}
use Rattle.amqp_tools.specs.declared.framing.Framing.{Framing}
use Rattle.amqp_tools.specs.declared.framing.Framing.TheVariants.{Lines, Zeros, Lengths}
use Rattle.amqp_tools.specs.declared.framing.Part.{Part}
use Rattle.amqp_tools.specs.declared.framing.Part.TheVariants.{Body, More, End, TooLarge, Torn}

-- what is left of a stream: how bodies stand in it, how many octets one may have, those that came and were not given,
-- and whether no more come
pub record Stream : Type 0 where
  pub framing : Framing
  pub most : ℕ
  pub rest : List ℕ
  pub ended : Bool

-- an octet ends a body
abbrev pub is_delimiter : Framing → ℕ → Bool
is_delimiter Lines octet = octet == 10
is_delimiter Zeros octet = octet == 0
is_delimiter Lengths octet = false

-- what comes next, and how many octets it takes
abbrev pub NextPart : Type 0
NextPart = Part × ℕ

-- a body of so many octets behind so many others, with so many to its end, where it is not too large
abbrev pub body_at : Stream → ℕ → ℕ → ℕ → NextPart
body_at s before size all =
    if nat_le size s.most then (Body (take size (drop before s.rest)), all) else (TooLarge s.most, 0)

-- the octets that are left are the last body, where no more come
abbrev pub last_body : Stream → NextPart
last_body s =
    if nat_lt s.most (length s.rest) then (TooLarge s.most, 0)
    else if s.ended then
    (if nat_lt 0 (length s.rest) then (Body s.rest, length s.rest) else (End, 0))
    else (More, 0)

-- the body that the first such octet ends
abbrev pub up_to : Option ℕ → Stream → NextPart
up_to (Some place) s = body_at s 0 place (0 + place + 1)
up_to None s = last_body s

-- octets that are cut off
abbrev pub cut_off : Stream → NextPart
cut_off s = if s.ended then (Torn, 0) else (More, 0)

-- the body of this length behind four octets, where all of it came
abbrev pub of_length : ℕ → Stream → NextPart
of_length size s =
    if nat_lt s.most size then (TooLarge s.most, 0)
    else if nat_le (size + 4) (length s.rest) then (Body (take size (drop 4 s.rest)), 4 + size + 0)
    else cut_off s

-- the body that stands behind its length
abbrev pub behind_length : Stream → NextPart
behind_length s =
    if nat_le 4 (length s.rest) then of_length (from_be_bytes w32 (take 4 s.rest)) s
    else if nat_lt 0 (length s.rest) then cut_off s
    else if s.ended then (End, 0)
    else (More, 0)

-- the body that the first octet ends by which bodies end
abbrev pub delimited_part : Stream → NextPart
delimited_part s = up_to (position (is_delimiter s.framing) s.rest) s

-- what comes next, by how bodies stand
abbrev pub next_part_as : Framing → Stream → NextPart
next_part_as Lengths s = behind_length s
next_part_as framing s = delimited_part s

-- what comes next of a stream
abbrev pub next_part : Stream → NextPart
next_part s = next_part_as s.framing s

-- the stream without that
abbrev pub without_next_part : Stream → Stream
without_next_part s = record s { rest = drop (next_part s).1 s.rest }
