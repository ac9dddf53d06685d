-- What an address wishes behind its `?`: pairs of a name and a value, of which four names are known.
use Rattle.std.specs.Prelude.{ℕ, ◌^◌, nat_lt, ◌&&◌, List, [], ◌∷◌, map, length, codes, bytes_eq, Option, Some, None, is_some, unwrap_or, option_map, Result, Ok, Err, if◌then◌else◌}
use Rattle.std.specs.Option.{option_or}
use Rattle.std.specs.Str.{all_ascii_digits}
use Rattle.std.specs.Str.Parse.{digits_value}
use Rattle.form_urlencoded.specs.Form.{raw_pairs}
use Rattle.amqp_types.specs.declared.word.Word.TheVariants.{FrameMax, ChannelMax, Heartbeat}
use Rattle.amqp_uri.specs.declared.fault.UriFault.{UriFault}
use Rattle.amqp_uri.specs.declared.fault.UriFault.TheVariants.{BadNumber, BadMechanism}
use Rattle.amqp_uri.specs.declared.mechanism.SASLMechanism.{SASLMechanism}
use Rattle.amqp_uri.specs.declared.query.AMQPQuery.{AMQPQuery}
use Rattle.amqp_uri.specs.Decoding.{decoded}
use Rattle.amqp_uri.specs.Mechanisms.{mechanism_named}

-- a name and a value, decoded
abbrev pub QueryPair : Type 0
QueryPair = List ℕ × List ℕ

-- both sides of an encoded pair, decoded
abbrev pub decoded_pair : List ℕ × List ℕ → QueryPair
decoded_pair pair = (decoded pair.0, decoded pair.1)

-- the pairs of a query, which stand between its `&`, each parted at its first `=`; a `+` stands for itself
abbrev pub query_pairs : Option (List ℕ) → List QueryPair
query_pairs query = map decoded_pair (raw_pairs (unwrap_or query []))

-- ---- one pair

-- the number that a value writes in decimal digits, one at least and no sign, if so many bits hold it
abbrev pub number : ℕ → List ℕ → Option ℕ
number bits value =
    if all_ascii_digits value && nat_lt 0 (length value) && nat_lt (digits_value 10 value) (2 ^ bits)
    then Some (digits_value 10 value) else None

-- the greatest frame that is wished: 1 to 4095 octets are fewer than every peer takes (AMQP 0-9-1, frame-min-size), and
-- count as 4096; 0 is no wish
abbrev pub kept_frame_max : ℕ → ℕ
kept_frame_max n = if nat_lt 0 n && nat_lt n 4096 then 4096 else n

-- what a reading says of a pair's value, if the pair has this name
abbrev pub under : {A : Type 0} → List ℕ → (List ℕ → Option A) → QueryPair → Option A
under name reading pair = if bytes_eq pair.0 name then reading pair.1 else None

-- what a pair wishes of each kind
abbrev pub pair_frame_max : QueryPair → Option ℕ
pair_frame_max = under (codes "frame_max") (λ value. option_map kept_frame_max (number 32 value))

-- the same of channels
abbrev pub pair_channel_max : QueryPair → Option ℕ
pair_channel_max = under (codes "channel_max") (number 16)

-- the same of heartbeats
abbrev pub pair_heartbeat : QueryPair → Option ℕ
pair_heartbeat = under (codes "heartbeat") (number 16)

-- the same of the mechanism
abbrev pub pair_mechanism : QueryPair → Option SASLMechanism
pair_mechanism = under (codes "auth_mechanism") mechanism_named

-- the fault, unless there is a value
abbrev pub missing : {A : Type 0} → UriFault → Option A → Option UriFault
missing fault value = if is_some value then None else Some fault

-- why a pair is refused: its name is known, and its value is none for it
abbrev pub refusal_of : QueryPair → Option UriFault
refusal_of pair =
    if bytes_eq pair.0 (codes "frame_max") then missing (BadNumber FrameMax) (number 32 pair.1)
    else (if bytes_eq pair.0 (codes "channel_max") then missing (BadNumber ChannelMax) (number 16 pair.1)
    else (if bytes_eq pair.0 (codes "heartbeat") then missing (BadNumber Heartbeat) (number 16 pair.1)
    else (if bytes_eq pair.0 (codes "auth_mechanism") then missing BadMechanism (mechanism_named pair.1)
    else None)))

-- ---- all pairs

-- what the first pair says that says something
abbrev pub first_of : {A : Type 0} → (QueryPair → Option A) → List QueryPair → Option A
first_of says [] = None
first_of says (pair ∷ pairs) = option_or (says pair) (first_of says pairs)

-- what the last pair says that says something
abbrev pub last_of : {A : Type 0} → (QueryPair → Option A) → List QueryPair → Option A
last_of says [] = None
last_of says (pair ∷ pairs) = option_or (last_of says pairs) (says pair)

-- what all pairs wish: of equal names the last counts
abbrev pub wishes_of : List QueryPair → AMQPQuery
wishes_of pairs = record {
  frame_max = last_of pair_frame_max pairs;
  channel_max = last_of pair_channel_max pairs;
  heartbeat = last_of pair_heartbeat pairs;
  auth_mechanism = last_of pair_mechanism pairs;
}

-- a value, unless there is a fault
abbrev pub unless : {A : Type 0} → Option UriFault → A → Result A UriFault
unless None value = Ok value
unless (Some fault) value = Err fault

-- what a query wishes, unless one of its pairs is refused: the first such one decides
abbrev pub query_of : Option (List ℕ) → Result AMQPQuery UriFault
query_of query = unless (first_of refusal_of (query_pairs query)) (wishes_of (query_pairs query))
