-- The headers of a message, which are a table (AMQP 0-9-1, 4.2.5.5, with the tags that RabbitMQ reads): a name, the tag
-- of its value, and that value, one after another.
use Rattle.std.specs.Prelude.{ℕ, zero, suc, ◌==◌, ◌||◌, List, [], ◌∷◌, length, Option, Some, None, if◌then◌else◌}
use Rattle.std.specs.Str.{bytes_eq}
use Rattle.amqp_types.specs.Reading.{Reader, ◌>>=◌, octet_at, octets_at, short_string_at, long_string_at, ◌⊗◌}

-- how many octets a value has behind its tag, where no length says it: V; t b B; s u U; I i f; D; l L d T
abbrev pub width_of : ℕ → Option ℕ
width_of tag =
    if tag == 86 then Some 0
    else if (tag == 116) || (tag == 98) || (tag == 66) then Some 1
    else if (tag == 115) || (tag == 117) || (tag == 85) then Some 2
    else if (tag == 73) || (tag == 105) || (tag == 102) then Some 4
    else if tag == 68 then Some 5
    else if (tag == 108) || (tag == 76) || (tag == 100) || (tag == 84) then Some 8
    else None

-- the octets of a value whose length stands before it, where its tag is S, x, A or F
abbrev pub measured_at : ℕ → Reader (List ℕ)
measured_at tag bytes =
    if (tag == 83) || (tag == 120) || (tag == 65) || (tag == 70) then long_string_at bytes else None

-- the octets of a value whose width is known, or stands before it
abbrev pub sized_at : Option ℕ → ℕ → Reader (List ℕ)
sized_at (Some width) tag bytes = octets_at width bytes
sized_at None tag bytes = measured_at tag bytes

-- the octets of a value with a tag, without those of a length
abbrev pub tag_value_at : ℕ → Reader (List ℕ)
tag_value_at tag = sized_at (width_of tag) tag

-- a tag, and the octets of a value with it
abbrev pub tagged_at : Reader (ℕ × List ℕ)
tagged_at bytes = do
  t ← octet_at bytes
  v ← tag_value_at t.0 t.1
  Some ((t.0, v.0), v.1)

-- a name, and the value behind it
abbrev pub pair_at : Reader (List ℕ × (ℕ × List ℕ))
pair_at = short_string_at ⊗ tagged_at

-- the value of a name in at most so many pairs, where the last before them that has the name is found
abbrev pub last_of_name : ℕ → List ℕ → Option (ℕ × List ℕ) → List ℕ → Option (ℕ × List ℕ)
last_of_name zero name found octets = found
last_of_name (suc most) name found [] = found
last_of_name (suc most) name found (o ∷ os) = do
  p ← pair_at (o ∷ os)
  last_of_name most name (if bytes_eq p.0.0 name then Some p.0.1 else found) p.1

-- the value of a name in headers: that of the last pair that has it
abbrev pub header_in : List ℕ → List ℕ → Option (ℕ × List ℕ)
header_in name octets = last_of_name (length octets) name None octets
