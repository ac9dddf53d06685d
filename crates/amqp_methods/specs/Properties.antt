-- The properties of class basic (AMQP 0-9-1, 4.2.6.1 and the class reference of basic): how they are spelled, and how
-- they are read.
use Rattle.std.specs.Prelude.{◌≡◌, ◌<◌, ◌^◌, ◌*◌, ◌/◌, ◌%◌, ◌==◌, ◌&&◌, ℕ, zero, suc, nat_le, Bool, true, List, [], ◌∷◌, ◌++◌, length, Option, Some, None, is_some, option_map, IfSome, if◌then◌else◌}
use Rattle.std.specs.Int.{w16, w64, to_be_bytes}
use Rattle.amqp_types.specs.Forms.{spell_short_string, spell_long_string}
use Rattle.amqp_types.specs.Reading.{Reader, ◌>>=◌, octet_at, number_at, short_string_at, long_string_at, ◌⊗◌, read_map}
use Rattle.amqp_frame.specs.FrameReading.{exactly}
use Rattle.amqp_methods.specs.Said.{bits}
use Rattle.amqp_methods.specs.declared.properties.BasicProperties.{BasicProperties}

-- ---- the fourteen

-- a text that may be there
abbrev pub Text : Type 0
Text = Option (List ℕ)

-- content type, content encoding, the octets of the headers, delivery mode, priority, correlation id, reply to
abbrev pub First : Type 0
First = Text × (Text × (Text × (Option ℕ × (Option ℕ × (Text × Text)))))

-- expiration, message id, timestamp, type, user id, app id, cluster id
abbrev pub Second : Type 0
Second = Text × (Text × (Option ℕ × (Text × (Text × (Text × Text)))))

-- the fourteen in the order of the reference
abbrev pub Fields : Type 0
Fields = First × Second

-- none of them
abbrev pub no_fields : Fields
no_fields =
    ((None, (None, (None, (None, (None, (None, None)))))), (None, (None, (None, (None, (None, (None, None)))))))

-- those of a message
abbrev pub fields_of : BasicProperties → Fields
fields_of p = (
  (
    option_map (λ s. s.now) p.content_type,
    (
      option_map (λ s. s.now) p.content_encoding,
      (
        option_map (λ s. s.now) p.headers,
        (
          p.delivery_mode,
          (p.priority, (option_map (λ s. s.now) p.correlation_id, option_map (λ s. s.now) p.reply_to)),
        ),
      ),
    ),
  ),
  (
    option_map (λ s. s.now) p.expiration,
    (
      option_map (λ s. s.now) p.message_id,
      (
        p.timestamp,
        (
          option_map (λ s. s.now) p.kind,
          (
            option_map (λ s. s.now) p.user_id,
            (option_map (λ s. s.now) p.app_id, option_map (λ s. s.now) p.cluster_id),
          ),
        ),
      ),
    ),
  ),
)

-- ---- spelling

-- which are there, the last first
abbrev pub present : Fields → List Bool
present f =
    is_some f.1.1.1.1.1.1.1 ∷ is_some f.1.1.1.1.1.1.0 ∷ is_some f.1.1.1.1.1.0 ∷ is_some f.1.1.1.1.0
    ∷ is_some f.1.1.1.0 ∷ is_some f.1.1.0 ∷ is_some f.1.0 ∷ is_some f.0.1.1.1.1.1.1 ∷ is_some f.0.1.1.1.1.1.0
    ∷ is_some f.0.1.1.1.1.0 ∷ is_some f.0.1.1.1.0 ∷ is_some f.0.1.1.0 ∷ is_some f.0.1.0 ∷ is_some f.0.0 ∷ []

-- a bit for each, the highest of 16 for the first; the two lowest are 0
abbrev pub flags_of : Fields → ℕ
flags_of f = 4 * bits (present f)

-- what is there is spelled, and of what is not there nothing
abbrev pub spell_present : {A : Type 0} → (A → List ℕ) → Option A → List ℕ
spell_present spell (Some x) = spell x
spell_present spell None = []

-- an octet
abbrev pub spell_octet : ℕ → List ℕ
spell_octet n = n ∷ []

-- a number of 64 bits
abbrev pub spell_number : ℕ → List ℕ
spell_number n = to_be_bytes w64 n

-- the first seven, one after another
abbrev pub spell_first : First → List ℕ
spell_first f =
    spell_present spell_short_string f.0 ++ (spell_present spell_short_string f.1.0
    ++ (spell_present spell_long_string f.1.1.0 ++ (spell_present spell_octet f.1.1.1.0
    ++ (spell_present spell_octet f.1.1.1.1.0 ++ (spell_present spell_short_string f.1.1.1.1.1.0
    ++ spell_present spell_short_string f.1.1.1.1.1.1)))))

-- the last seven, one after another
abbrev pub spell_second : Second → List ℕ
spell_second f =
    spell_present spell_short_string f.0 ++ (spell_present spell_short_string f.1.0
    ++ (spell_present spell_number f.1.1.0 ++ (spell_present spell_short_string f.1.1.1.0
    ++ (spell_present spell_short_string f.1.1.1.1.0 ++ (spell_present spell_short_string f.1.1.1.1.1.0
    ++ spell_present spell_short_string f.1.1.1.1.1.1)))))

-- the flags, and what is there
abbrev pub spell_fields : Fields → List ℕ
spell_fields f = to_be_bytes w16 (flags_of f) ++ (spell_first f.0 ++ spell_second f.1)

-- a text has at most so many octets, where it is there
abbrev pub is_short_enough : ℕ → Text → Bool
is_short_enough most (Some text) = nat_le (length text) most
is_short_enough most None = true

-- the texts among the first seven can be spelled
abbrev pub first_fit : First → Bool
first_fit f =
    is_short_enough 255 f.0 && (is_short_enough 255 f.1.0 && (is_short_enough 4294967295 f.1.1.0
    && (is_short_enough 255 f.1.1.1.1.1.0 && is_short_enough 255 f.1.1.1.1.1.1)))

-- those among the last seven
abbrev pub second_fit : Second → Bool
second_fit f =
    is_short_enough 255 f.0 && (is_short_enough 255 f.1.0 && (is_short_enough 255 f.1.1.1.0
    && (is_short_enough 255 f.1.1.1.1.0 && (is_short_enough 255 f.1.1.1.1.1.0
    && is_short_enough 255 f.1.1.1.1.1.1))))

-- the octets of properties, where their texts can be spelled
abbrev pub spelled_properties : Fields → Option (List ℕ)
spelled_properties f = if first_fit f.0 && second_fit f.1 then Some (spell_fields f) else None

-- ---- reading

-- the bit of a number at a place, the lowest at 0
abbrev pub bit : ℕ → ℕ → Bool
bit zero n = n % 2 == 1
bit (suc place) n = bit place (n / 2)

-- what is there is read, and of what is not there nothing
abbrev pub field_at : {A : Type 0} → Bool → Reader A → Reader (Option A)
field_at is_there read bytes = if is_there then read_map Some read bytes else Some (None, bytes)

-- the first seven, by the flags
abbrev pub first_at : ℕ → Reader First
first_at flags =
    field_at (bit 15 flags) short_string_at ⊗ (field_at (bit 14 flags) short_string_at
    ⊗ (field_at (bit 13 flags) long_string_at ⊗ (field_at (bit 12 flags) octet_at
    ⊗ (field_at (bit 11 flags) octet_at ⊗ (field_at (bit 10 flags) short_string_at
    ⊗ field_at (bit 9 flags) short_string_at)))))

-- the last seven
abbrev pub second_at : ℕ → Reader Second
second_at flags =
    field_at (bit 8 flags) short_string_at ⊗ (field_at (bit 7 flags) short_string_at
    ⊗ (field_at (bit 6 flags) (number_at w64) ⊗ (field_at (bit 5 flags) short_string_at
    ⊗ (field_at (bit 4 flags) short_string_at ⊗ (field_at (bit 3 flags) short_string_at
    ⊗ field_at (bit 2 flags) short_string_at)))))

-- the properties that octets are: flags of which the two lowest are 0, what is there by them, and no octet more
abbrev pub properties_in : List ℕ → Option Fields
properties_in octets =
    number_at w16 octets
    >>= λ flags. if flags.0 % 4 == 0 then exactly (first_at flags.0 ⊗ second_at flags.0) flags.1 else None

-- ---- what may be spelled

-- each text is short enough, and each number is an octet or has 64 bits
abbrev pub Fit : Fields → Type 0
Fit f =
    (first_fit f.0 ≡ true) × (second_fit f.1 ≡ true) × IfSome f.0.1.1.1.0 (λ n. n < 256)
    × IfSome f.0.1.1.1.1.0 (λ n. n < 256) × IfSome f.1.1.1.0 (λ n. n < 2 ^ 64)
