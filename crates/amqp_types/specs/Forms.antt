-- The forms of octets of which all spellings are made (AMQP 0-9-1, 4.2.5): numbers, strings, one after another.
use Rattle.std.specs.Prelude.{◌≡◌, ℕ, ◌<◌, ◌^◌, ℤ, List, [], ◌∷◌, ◌++◌, length, slice_index}
use Rattle.std.specs.Int.{Width, w8, w32, byte_len, to_be_bytes, cast_signed}

-- a form: the set of its texts, each a list of numbers. Most forms have texts of octets alone; one that holds a
-- content as it stands (`OctetsOf`) asks nothing of its numbers, and where they must be octets `IsOctets` says so
abbrev pub Form : Type 1
Form = List ℕ → Type 0

-- each number is an octet
abbrev pub IsOctets : List ℕ → Type 0
IsOctets bytes = (i : ℕ) → slice_index bytes i < 256

-- the empty text alone
abbrev pub Nothing : Form
Nothing bytes = bytes ≡ []

-- a text of one form, followed by a text of the other
infixr 20 ◌▸◌
abbrev pub ◌▸◌ : Form → Form → Form
(F ▸ G) bytes = (front : List ℕ) × (rest : List ℕ) × (bytes ≡ front ++ rest) × F front × G rest

-- one octet, which is the number
abbrev pub OctetOf : ℕ → Form
OctetOf n bytes = (n < 256) × (bytes ≡ n ∷ [])

-- a number in the octets of a width, the highest first (4.2.5.1)
abbrev pub NumberOf : Width → ℕ → Form
NumberOf w n bytes = (n < 256 ^ byte_len w) × (bytes ≡ to_be_bytes w n)

-- a signed number in one octet, in two's complement
abbrev pub SignedOctetOf : ℤ → Form
SignedOctetOf z bytes = (n : ℕ) × (z ≡ cast_signed w8 n) × OctetOf n bytes

-- a signed number in the octets of a width, in two's complement
abbrev pub SignedOf : Width → ℤ → Form
SignedOf w z bytes = (n : ℕ) × (z ≡ cast_signed w n) × NumberOf w n bytes

-- this content, of which there is so much
abbrev pub OctetsOf : ℕ → List ℕ → Form
OctetsOf n content bytes = (length content ≡ n) × (bytes ≡ content)

-- a short string: an octet of length, and so many octets (4.2.5.3)
abbrev pub ShortStringOf : List ℕ → Form
ShortStringOf content = OctetOf (length content) ▸ OctetsOf (length content) content

-- a long string: four octets of length, and so many octets (4.2.5.3)
abbrev pub LongStringOf : List ℕ → Form
LongStringOf content = NumberOf w32 (length content) ▸ OctetsOf (length content) content

-- for each item a text of its form, one after another and nothing else
abbrev pub Row : {A : Type 0} → (A → Form) → List A → Form
Row F [] bytes = bytes ≡ []
Row F (x ∷ xs) bytes = (F x ▸ Row F xs) bytes

-- ---- the written texts
-- the one text of a short string
abbrev pub spell_short_string : List ℕ → List ℕ
spell_short_string content = length content ∷ content

-- the one text of a long string
abbrev pub spell_long_string : List ℕ → List ℕ
spell_long_string content = to_be_bytes w32 (length content) ++ content
