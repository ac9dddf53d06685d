-- How the methods of the connection class (10) and the channel class (20) are spelled (AMQP 0-9-1, 4.2.4 and the class
-- reference).
use Rattle.std.specs.Prelude.{◌≡◌, ℕ, ◌%◌, Bool, true, false, List, [], ◌∷◌, ◌++◌, ◌==◌, if◌then◌else◌, codes, Option, Some, None}
use Rattle.std.specs.Int.{w16, w32, to_be_bytes}
use Rattle.amqp_types.specs.Forms.{Form, Nothing, ◌▸◌, OctetOf, NumberOf, ShortStringOf, LongStringOf, spell_short_string, spell_long_string}
use Rattle.amqp_types.specs.Spelling.{SpellsTable, spell_table}
use Rattle.amqp_frame.specs.declared.method.Method.{Method}
use Rattle.amqp_frame.specs.declared.method.Method.TheVariants.{Start, StartOk, Secure, SecureOk, Tune, TuneOk, Open, OpenOk, Close, CloseOk, Blocked, Unblocked, UpdateSecret, UpdateSecretOk, ChannelOpen, ChannelOpenOk, ChannelFlow, ChannelFlowOk, ChannelClose, ChannelCloseOk}

-- what `Debug` shows of a method that carries a response or a secret; of all others nothing is said
abbrev pub debug_of : Method → Option (List ℕ)
debug_of (StartOk properties mechanism response locale) = Some (codes "StartOk(..)")
debug_of (SecureOk response) = Some (codes "SecureOk(..)")
debug_of (UpdateSecret secret reason) = Some (codes "UpdateSecret(..)")
debug_of _ = None

-- the methods of the channel class; all others are of the connection class
abbrev pub is_of_a_channel : Method → Bool
is_of_a_channel ChannelOpen = true
is_of_a_channel ChannelOpenOk = true
is_of_a_channel (ChannelFlow active) = true
is_of_a_channel (ChannelFlowOk active) = true
is_of_a_channel (ChannelClose code text class method) = true
is_of_a_channel ChannelCloseOk = true
is_of_a_channel _ = false

-- the number of a method's class
abbrev pub class_of : Method → ℕ
class_of m = if is_of_a_channel m then 20 else 10

-- the number of a method in its class
abbrev pub number_of : Method → ℕ
number_of (Start major minor properties mechanisms locales) = 10
number_of (StartOk properties mechanism response locale) = 11
number_of (Secure challenge) = 20
number_of (SecureOk response) = 21
number_of (Tune channel_max frame_max heartbeat) = 30
number_of (TuneOk channel_max frame_max heartbeat) = 31
number_of (Open vhost) = 40
number_of OpenOk = 41
number_of (Close code text class method) = 50
number_of CloseOk = 51
number_of (Blocked reason) = 60
number_of Unblocked = 61
number_of (UpdateSecret secret reason) = 70
number_of UpdateSecretOk = 71
number_of ChannelOpen = 10
number_of ChannelOpenOk = 11
number_of (ChannelFlow active) = 20
number_of (ChannelFlowOk active) = 21
number_of (ChannelClose code text class method) = 40
number_of ChannelCloseOk = 41

-- ---- reserved arguments, whose value is forgotten

-- a reserved short string
abbrev pub AnyShortString : Form
AnyShortString bytes = (content : List ℕ) × ShortStringOf content bytes

-- a reserved long string
abbrev pub AnyLongString : Form
AnyLongString bytes = (content : List ℕ) × LongStringOf content bytes

-- a reserved octet
abbrev pub AnyOctet : Form
AnyOctet bytes = (n : ℕ) × OctetOf n bytes

-- an octet of which the lowest bit counts
abbrev pub BitOf : Bool → Form
BitOf b bytes = (n : ℕ) × (b ≡ (n % 2 == 1)) × OctetOf n bytes

-- the octets spell the arguments of the method, in the order of the class reference
abbrev pub ArgumentsOf : Method → Form
ArgumentsOf (Start major minor properties mechanisms locales) =
    OctetOf major ▸ OctetOf minor ▸ SpellsTable properties ▸ LongStringOf mechanisms ▸ LongStringOf locales
ArgumentsOf (StartOk properties mechanism response locale) =
    SpellsTable properties ▸ ShortStringOf mechanism ▸ LongStringOf response ▸ ShortStringOf locale
ArgumentsOf (Secure challenge) = LongStringOf challenge
ArgumentsOf (SecureOk response) = LongStringOf response
ArgumentsOf (Tune channel_max frame_max heartbeat) =
    NumberOf w16 channel_max ▸ NumberOf w32 frame_max ▸ NumberOf w16 heartbeat
ArgumentsOf (TuneOk channel_max frame_max heartbeat) =
    NumberOf w16 channel_max ▸ NumberOf w32 frame_max ▸ NumberOf w16 heartbeat
ArgumentsOf (Open vhost) = ShortStringOf vhost ▸ AnyShortString ▸ AnyOctet
ArgumentsOf OpenOk = AnyShortString
ArgumentsOf (Close code text class method) =
    NumberOf w16 code ▸ ShortStringOf text ▸ NumberOf w16 class ▸ NumberOf w16 method
ArgumentsOf CloseOk = Nothing
ArgumentsOf (Blocked reason) = ShortStringOf reason
ArgumentsOf Unblocked = Nothing
ArgumentsOf (UpdateSecret secret reason) = LongStringOf secret ▸ ShortStringOf reason
ArgumentsOf UpdateSecretOk = Nothing
ArgumentsOf ChannelOpen = AnyShortString
ArgumentsOf ChannelOpenOk = AnyLongString
ArgumentsOf (ChannelFlow active) = BitOf active
ArgumentsOf (ChannelFlowOk active) = BitOf active
ArgumentsOf (ChannelClose code text class method) =
    NumberOf w16 code ▸ ShortStringOf text ▸ NumberOf w16 class ▸ NumberOf w16 method
ArgumentsOf ChannelCloseOk = Nothing

-- the payload of a method frame: its class, its number in the class, and its arguments
abbrev pub MethodOf : Method → Form
MethodOf m = NumberOf w16 (class_of m) ▸ NumberOf w16 (number_of m) ▸ ArgumentsOf m

-- ---- the written payload: reserved arguments empty or 0, other bits 0

-- why something is closed: a code, a text, and the class and the method that it is about
abbrev pub spell_close : ℕ → List ℕ → ℕ → ℕ → List ℕ
spell_close code text class method =
    to_be_bytes w16 code ++ (spell_short_string text ++ (to_be_bytes w16 class ++ to_be_bytes w16 method))

-- the three numbers that are tuned
abbrev pub spell_tune : ℕ → ℕ → ℕ → List ℕ
spell_tune channel_max frame_max heartbeat =
    to_be_bytes w16 channel_max ++ (to_be_bytes w32 frame_max ++ to_be_bytes w16 heartbeat)

-- the one written spelling of a method's arguments
abbrev pub spell_arguments : Method → List ℕ
spell_arguments (Start major minor properties mechanisms locales) =
    (major ∷ minor ∷ []) ++ (spell_table properties ++ (spell_long_string mechanisms ++ spell_long_string locales))
spell_arguments (StartOk properties mechanism response locale) =
    spell_table properties ++ (spell_short_string mechanism ++ (spell_long_string response
    ++ spell_short_string locale))
spell_arguments (Secure challenge) = spell_long_string challenge
spell_arguments (SecureOk response) = spell_long_string response
spell_arguments (Tune channel_max frame_max heartbeat) = spell_tune channel_max frame_max heartbeat
spell_arguments (TuneOk channel_max frame_max heartbeat) = spell_tune channel_max frame_max heartbeat
spell_arguments (Open vhost) = spell_short_string vhost ++ (0 ∷ 0 ∷ [])
spell_arguments OpenOk = 0 ∷ []
spell_arguments (Close code text class method) = spell_close code text class method
spell_arguments CloseOk = []
spell_arguments (Blocked reason) = spell_short_string reason
spell_arguments Unblocked = []
spell_arguments (UpdateSecret secret reason) = spell_long_string secret ++ spell_short_string reason
spell_arguments UpdateSecretOk = []
spell_arguments ChannelOpen = 0 ∷ []
spell_arguments ChannelOpenOk = 0 ∷ 0 ∷ 0 ∷ 0 ∷ []
spell_arguments (ChannelFlow active) = (if active then 1 else 0) ∷ []
spell_arguments (ChannelFlowOk active) = (if active then 1 else 0) ∷ []
spell_arguments (ChannelClose code text class method) = spell_close code text class method
spell_arguments ChannelCloseOk = []

-- the one written payload: the class, the number in the class, and the arguments
abbrev pub spell_method : Method → List ℕ
spell_method m = to_be_bytes w16 (class_of m) ++ (to_be_bytes w16 (number_of m) ++ spell_arguments m)
