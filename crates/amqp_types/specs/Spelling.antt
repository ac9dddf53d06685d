-- How field values and tables are spelled (AMQP 0-9-1, 4.2.5.5, with the tags that RabbitMQ uses): every spelling,
-- as a relation, and the one that is written.
use Rattle.std.specs.Prelude.{◌≡◌, ℕ, zero, suc, ◌-◌, Bool, not, List, [], ◌∷◌, ◌++◌, ◌==◌, if◌then◌else◌}
use Rattle.std.specs.Int.{w8, w16, w32, w64, to_be_bytes, cast_unsigned}
use Rattle.amqp_types.specs.Value.{Scalar, boolean, short_short_int, short_short_uint, short_int, short_uint, long_int, long_uint, long_long_int, float, double, decimal, long_string, byte_array, timestamp, void, FieldValue, scalar, array, table, FieldValues, no_values, value, FieldPairs, no_pairs, pair, Pair, list_of, pairs_of, pairs_from}
use Rattle.amqp_types.specs.Forms.{Form, Nothing, ◌▸◌, OctetOf, NumberOf, SignedOctetOf, SignedOf, OctetsOf, ShortStringOf, Row, spell_short_string, spell_long_string}
use Rattle.amqp_types.specs.Forms as form
use Rattle.amqp_types.specs.Table.{map_of}

-- how many tables and arrays may stand in one another, the outermost table included; a limit of our own
abbrev pub max_depth : ℕ
max_depth = 128

-- the octet that stands before a value and names its kind
abbrev pub tag_of : Scalar → ℕ
tag_of (boolean b) = 116  -- t
tag_of (short_short_int z) = 98  -- b
tag_of (short_short_uint n) = 66  -- B
tag_of (short_int z) = 115  -- s
tag_of (short_uint n) = 117  -- u
tag_of (long_int z) = 73  -- I
tag_of (long_uint n) = 105  -- i
tag_of (long_long_int z) = 108  -- l
tag_of (float bytes) = 102  -- f
tag_of (double bytes) = 100  -- d
tag_of (decimal scale n) = 68  -- D
tag_of (long_string bytes) = 83  -- S
tag_of (byte_array bytes) = 120  -- x
tag_of (timestamp n) = 84  -- T
tag_of void = 86  -- V

-- any octet spells a Boolean; it is true where the octet isn't 0
abbrev pub BooleanOf : Bool → Form
BooleanOf b bytes = (n : ℕ) × (b ≡ not (n == 0)) × OctetOf n bytes

-- the text behind the tag of a value that holds no other
abbrev pub ScalarOf : Scalar → Form
ScalarOf (boolean b) = BooleanOf b
ScalarOf (short_short_int z) = SignedOctetOf z
ScalarOf (short_short_uint n) = OctetOf n
ScalarOf (short_int z) = SignedOf w16 z
ScalarOf (short_uint n) = NumberOf w16 n
ScalarOf (long_int z) = SignedOf w32 z
ScalarOf (long_uint n) = NumberOf w32 n
ScalarOf (long_long_int z) = SignedOf w64 z
ScalarOf (float bytes) = OctetsOf 4 bytes
ScalarOf (double bytes) = OctetsOf 8 bytes
ScalarOf (decimal scale n) = OctetOf scale ▸ NumberOf w32 n
ScalarOf (long_string bytes) = form.LongStringOf bytes
ScalarOf (byte_array bytes) = form.LongStringOf bytes
ScalarOf (timestamp n) = NumberOf w64 n
ScalarOf void = Nothing

-- an array: four octets of length, and values that use that length exactly
abbrev pub ArrayOf : (FieldValue → Form) → List FieldValue → Form
ArrayOf F values bytes = (body : List ℕ) × Row F values body × form.LongStringOf body bytes

-- a name as a short string, and a tagged value
abbrev pub PairOf : (FieldValue → Form) → Pair → Form
PairOf F p = ShortStringOf p.0 ▸ F p.1

-- a table: four octets of length, and pairs that use that length exactly;
-- each name has the value of its last pair
abbrev pub TableOf : (FieldValue → Form) → List Pair → Form
TableOf F entries bytes =
    (body : List ℕ) × (pairs : List Pair) × (entries ≡ map_of pairs) ×
    Row (PairOf F) pairs body × form.LongStringOf body bytes

-- a tagged value: its tag, and what stands behind it
abbrev pub Tagged : (List FieldValue → Form) → (List Pair → Form) → FieldValue → Form
Tagged Array Table (scalar s) = OctetOf (tag_of s) ▸ ScalarOf s
Tagged Array Table (array vs) = OctetOf 65 ▸ Array (list_of vs)  -- A
Tagged Array Table (table ps) = OctetOf 70 ▸ Table (pairs_of ps)  -- F

-- a tagged value, in which tables and arrays stand no deeper than the number
abbrev pub Spells : ℕ → FieldValue → Form
Spells zero = Tagged (λ vs bytes. ⊥) (λ ps bytes. ⊥)
Spells (suc depth) = Tagged (ArrayOf (Spells depth)) (TableOf (Spells depth))

-- a table that stands alone, as an argument of a method: it is the first of those that stand in one another
abbrev pub SpellsTable : List Pair → Form
SpellsTable = TableOf (Spells (max_depth - 1))

-- ---- the written spelling: Booleans 0 or 1, names once each and in byte order

-- the written text behind the tag of a value that holds no other
abbrev pub spell_scalar : Scalar → List ℕ
spell_scalar (boolean b) = (if b then 1 else 0) ∷ []
spell_scalar (short_short_int z) = cast_unsigned w8 z ∷ []
spell_scalar (short_short_uint n) = n ∷ []
spell_scalar (short_int z) = to_be_bytes w16 (cast_unsigned w16 z)
spell_scalar (short_uint n) = to_be_bytes w16 n
spell_scalar (long_int z) = to_be_bytes w32 (cast_unsigned w32 z)
spell_scalar (long_uint n) = to_be_bytes w32 n
spell_scalar (long_long_int z) = to_be_bytes w64 (cast_unsigned w64 z)
spell_scalar (float bytes) = bytes
spell_scalar (double bytes) = bytes
spell_scalar (decimal scale n) = scale ∷ to_be_bytes w32 n
spell_scalar (long_string bytes) = spell_long_string bytes
spell_scalar (byte_array bytes) = spell_long_string bytes
spell_scalar (timestamp n) = to_be_bytes w64 n
spell_scalar void = []

abbrev mutual
  -- the written text of a tagged value
  pub spell : FieldValue → List ℕ
  spell (scalar s) = tag_of s ∷ spell_scalar s
  spell (array vs) = 65 ∷ spell_long_string (spell_values vs)
  spell (table ps) = 70 ∷ spell_long_string (spell_pairs ps)

  -- the written text of an array's values, one after another
  pub spell_values : FieldValues → List ℕ
  spell_values no_values = []
  spell_values (value v vs) = spell v ++ spell_values vs

  -- the written text of a table's pairs, one after another
  pub spell_pairs : FieldPairs → List ℕ
  spell_pairs no_pairs = []
  spell_pairs (pair name v ps) = spell_short_string name ++ spell v ++ spell_pairs ps

-- the written text of a table that stands alone
abbrev pub spell_table : List Pair → List ℕ
spell_table pairs = spell_long_string (spell_pairs (pairs_from pairs))
