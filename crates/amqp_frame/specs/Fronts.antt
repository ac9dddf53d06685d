-- What stands at the front of octets (AMQP 0-9-1, 4.2.3), given the limit, the greatest length that a frame may have:
-- exactly one of five answers.
use Rattle.std.specs.Prelude.{◌≡◌, ◌≢◌, ◌⊎◌, ℕ, ◌+◌, ◌<◌, ◌≤◌, List, [], ◌∷◌, ◌++◌, length, ⊤}
use Rattle.std.specs.Int.{w16, w32}
use Rattle.amqp_types.specs.Forms.{Form, ◌▸◌, OctetOf, NumberOf}
use Rattle.amqp_types.specs.declared.version.ProtocolVersion.{ProtocolVersion}
use Rattle.amqp_frame.specs.declared.frame.Frame.{Frame}
use Rattle.amqp_frame.specs.declared.frame.Frame.TheVariants.{ProtocolHeader}
use Rattle.amqp_frame.specs.declared.frame.Read.{Read}
use Rattle.amqp_frame.specs.declared.frame.Read.TheVariants.{Whole, More, TooLarge, BadHeartbeat, Bad, NoMemory}
use Rattle.amqp_frame.specs.Frames.{end_octet, Framed, Anything, FrameOf}

-- a method, a content header, a content body, or a heartbeat
abbrev pub IsTypeOctet : ℕ → Type 0
IsTypeOctet n = (n ≡ 1) ⊎ ((n ≡ 2) ⊎ ((n ≡ 3) ⊎ (n ≡ 8)))

-- the octets begin with a type, a channel and a size
abbrev pub NamesSize : ℕ → ℕ → Form
NamesSize type size = OctetOf type ▸ (λ channel. length channel ≡ 2) ▸ NumberOf w32 size ▸ Anything

-- a protocol header is not held to the limit
abbrev pub IsWithinLimit : ℕ → ℕ → Frame → Type 0
IsWithinLimit limit n (ProtocolHeader v) = ⊤
IsWithinLimit limit n _ = n ≤ limit

-- the first n octets spell the frame
abbrev pub IsWhole : List ℕ → ℕ → Frame → ℕ → Type 0
IsWhole bytes limit f n =
    (text : List ℕ) × (rest : List ℕ) × (bytes ≡ text ++ rest) × (length text ≡ n)
    × FrameOf f text × IsWithinLimit limit n f

-- a heartbeat on another channel than 0
abbrev pub IsBadHeartbeat : List ℕ → ℕ → ℕ → Type 0
IsBadHeartbeat bytes limit channel =
    (OctetOf 8 ▸ NumberOf w16 channel ▸ NumberOf w32 0 ▸ OctetOf end_octet ▸ Anything) bytes
    × (channel ≢ 0) × (8 ≤ limit)

-- the size is that of a frame above the limit
abbrev pub IsTooLarge : List ℕ → ℕ → ℕ → Type 0
IsTooLarge bytes limit size = (type : ℕ) × IsTypeOctet type × NamesSize type size bytes × (limit < size + 8)

-- the beginning of a protocol header, and not the whole of it
abbrev pub BeginsHeader : List ℕ → Type 0
BeginsHeader bytes =
    (more : List ℕ) × (v : ProtocolVersion) × (bytes ≢ []) × (more ≢ []) × FrameOf (ProtocolHeader v) (bytes ++ more)

-- a type octet, and less than a channel and a size behind it
abbrev pub LacksSize : List ℕ → Type 0
LacksSize bytes =
    (type : ℕ) × (rest : List ℕ) × (bytes ≡ type ∷ rest) × IsTypeOctet type × (length bytes < 7)

-- less than a frame of the size that they name, which is within the limit, and 0 for a heartbeat
abbrev pub IsUnfinished : List ℕ → ℕ → Type 0
IsUnfinished bytes limit =
    (type : ℕ) × (size : ℕ) × IsTypeOctet type × NamesSize type size bytes
    × (size + 8 ≤ limit) × (length bytes < size + 8) × (type ≡ 8 → size ≡ 0)

-- nothing can be said before more octets come
abbrev pub IsMore : List ℕ → ℕ → Type 0
IsMore bytes limit = (bytes ≡ []) ⊎ (BeginsHeader bytes ⊎ (LacksSize bytes ⊎ IsUnfinished bytes limit))

-- none of the other answers
pub record IsBad (bytes : List ℕ) (limit : ℕ) : Type 0 where
  pub not_whole : (f : Frame) (n : ℕ) → IsWhole bytes limit f n → ⊥
  pub not_heartbeat : (channel : ℕ) → IsBadHeartbeat bytes limit channel → ⊥
  pub not_large : (size : ℕ) → IsTooLarge bytes limit size → ⊥
  pub not_more : IsMore bytes limit → ⊥

-- the answer holds at the front
abbrev pub IsFront : List ℕ → ℕ → Read → Type 0
IsFront bytes limit (Whole f n) = IsWhole bytes limit f n
IsFront bytes limit More = IsMore bytes limit
IsFront bytes limit (TooLarge size) = IsTooLarge bytes limit size
IsFront bytes limit (BadHeartbeat channel) = IsBadHeartbeat bytes limit channel
IsFront bytes limit Bad = IsBad bytes limit
IsFront bytes limit NoMemory = ⊥

-- ---- where memory was refused

-- a payload for which memory may be asked: a class, a method and what follows; a content header; a content body
abbrev pub IsCopied : ℕ → List ℕ → Type 0
IsCopied type payload =
    ((type ≡ 1) × (4 ≤ length payload)) ⊎ (((type ≡ 2) × (14 ≤ length payload)) ⊎ (type ≡ 3))

-- a frame with such a payload is all there, its end octet too, and within the limit
abbrev pub HoldsPayload : List ℕ → ℕ → Type 0
HoldsPayload bytes limit =
    (type : ℕ) × (channel : ℕ) × (payload : List ℕ) × IsCopied type payload
    × (length payload + 8 ≤ limit) × (Framed type channel payload ▸ Anything) bytes
