-- How frames are spelled (AMQP 0-9-1, 4.2.2, 4.2.3, 4.2.6 and 4.2.7): every spelling, and the one that is written.
use Rattle.std.specs.Prelude.{◌≡◌, ◌≢◌, ℕ, ◌≤◌, List, [], ◌∷◌, ◌++◌, length, ⊤}
use Rattle.std.specs.Int.{w16, w32, to_be_bytes}
use Rattle.amqp_types.specs.Forms.{Form, ◌▸◌, OctetOf, NumberOf, LongStringOf}
use Rattle.amqp_frame.specs.declared.frame.Frame.{Frame}
use Rattle.amqp_frame.specs.declared.frame.Frame.TheVariants.{ProtocolHeader, Method, Raw, Heartbeat}
use Rattle.amqp_frame.specs.declared.frame.RawKind.{RawKind}
use Rattle.amqp_frame.specs.declared.frame.RawKind.TheVariants.{RawMethod, Header, Body}
use Rattle.amqp_frame.specs.Methods.{AnyOctet, MethodOf, spell_method}

-- the letters AMQP
abbrev pub signature : List ℕ
signature = 65 ∷ 77 ∷ 81 ∷ 80 ∷ []

-- the octet CE, which ends a frame
abbrev pub end_octet : ℕ
end_octet = 206

-- a heartbeat stands on channel 0 and has no payload
abbrev pub spell_heartbeat : List ℕ
spell_heartbeat = 8 ∷ 0 ∷ 0 ∷ 0 ∷ 0 ∷ 0 ∷ 0 ∷ end_octet ∷ []

-- the type octet of a frame that is passed through
abbrev pub type_of : RawKind → ℕ
type_of RawMethod = 1
type_of Header = 2
type_of Body = 3

-- a type octet, a channel, a size, a payload of that size, and the end octet
abbrev pub Framed : ℕ → ℕ → List ℕ → Form
Framed type channel payload = OctetOf type ▸ NumberOf w16 channel ▸ LongStringOf payload ▸ OctetOf end_octet

-- any octets, none of them too
abbrev pub Anything : Form
Anything rest = ⊤

-- the payload of a method that is passed through: a class other than connection (10) and channel (20), a method, and
-- anything
abbrev pub IsOtherMethod : Form
IsOtherMethod payload =
    (class : ℕ) × (method : ℕ) × (class ≢ 10) × (class ≢ 20)
    × (NumberOf w16 class ▸ NumberOf w16 method ▸ Anything) payload

-- what the payload of a frame that is passed through can be
abbrev pub RawPayload : RawKind → Form
RawPayload RawMethod payload = IsOtherMethod payload
RawPayload Header payload = 14 ≤ length payload
RawPayload Body payload = ⊤

-- the octets spell the frame
abbrev pub FrameOf : Frame → Form
FrameOf (ProtocolHeader v) =
    (λ front. front ≡ signature) ▸ AnyOctet ▸ OctetOf v.major ▸ OctetOf v.minor ▸ OctetOf v.revision
FrameOf (Method channel m) = λ bytes. (payload : List ℕ) × MethodOf m payload × Framed 1 channel payload bytes
FrameOf (Raw channel kind payload) = λ bytes. RawPayload kind payload × Framed (type_of kind) channel payload bytes
FrameOf Heartbeat = λ bytes. bytes ≡ spell_heartbeat

-- ---- the written spelling: the fifth octet of a protocol header is 0

-- a type octet, a channel and a size
abbrev pub spell_header : ℕ → ℕ → ℕ → List ℕ
spell_header type channel size = type ∷ (to_be_bytes w16 channel ++ to_be_bytes w32 size)

-- a frame of a type, with its payload
abbrev pub spell_framed : ℕ → ℕ → List ℕ → List ℕ
spell_framed type channel payload = spell_header type channel (length payload) ++ (payload ++ (end_octet ∷ []))

-- the one written spelling of a frame
abbrev pub encoding : Frame → List ℕ
encoding (ProtocolHeader v) = signature ++ (0 ∷ v.major ∷ v.minor ∷ v.revision ∷ [])
encoding (Method channel m) = spell_framed 1 channel (spell_method m)
encoding (Raw channel kind payload) = spell_framed (type_of kind) channel payload
encoding Heartbeat = spell_heartbeat

-- the frame has a written spelling, whose length four octets can hold: each frame has that keeps the rules (`Rules`)
abbrev pub Writable : Frame → Type 0
Writable f = FrameOf f (encoding f) × (length (encoding f) ≤ 4294967295)
