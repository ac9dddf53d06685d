-- What is enough for the written spelling of a frame to be one of its spellings, but for its length: numbers in their
-- range, short strings in their length, tables in order and not too deep, and a payload of its kind.
use Rattle.std.specs.Prelude.{◌≡◌, ℕ, suc, ◌<◌, ◌^◌, max, List, length, ⊤, FitsSigned}
use Rattle.std.specs.Int.{w8, w16, w32, w64}
use Rattle.amqp_types.specs.Value.{Scalar, boolean, short_short_int, short_short_uint, short_int, short_uint, long_int, long_uint, long_long_int, float, double, decimal, long_string, byte_array, timestamp, void, FieldValue, scalar, array, table, FieldValues, no_values, value, FieldPairs, no_pairs, pair, Pair, pairs_of, pairs_from}
use Rattle.amqp_types.specs.Table.{IsInOrder}
use Rattle.amqp_types.specs.Spelling.{max_depth}
use Rattle.amqp_frame.specs.declared.method.Method.{Method as AnyMethod}
use Rattle.amqp_frame.specs.declared.method.Method.TheVariants.{Start, StartOk, Secure, SecureOk, Tune, TuneOk, Open, OpenOk, Close, CloseOk, Blocked, Unblocked, UpdateSecret, UpdateSecretOk, ChannelOpen, ChannelOpenOk, ChannelFlow, ChannelFlowOk, ChannelClose, ChannelCloseOk}
use Rattle.amqp_frame.specs.declared.frame.Frame.{Frame}
use Rattle.amqp_frame.specs.declared.frame.Frame.TheVariants.{ProtocolHeader, Method, Raw, Heartbeat}
use Rattle.amqp_frame.specs.Frames.{RawPayload}

-- the number of a value that holds no other is in its type's range; a float and a double have their octets
abbrev pub IsInRange : Scalar → Type 0
IsInRange (boolean b) = ⊤
IsInRange (short_short_int z) = FitsSigned w8 z
IsInRange (short_short_uint n) = n < 2 ^ 8
IsInRange (short_int z) = FitsSigned w16 z
IsInRange (short_uint n) = n < 2 ^ 16
IsInRange (long_int z) = FitsSigned w32 z
IsInRange (long_uint n) = n < 2 ^ 32
IsInRange (long_long_int z) = FitsSigned w64 z
IsInRange (float bytes) = length bytes ≡ 4
IsInRange (double bytes) = length bytes ≡ 8
IsInRange (decimal scale n) = (scale < 2 ^ 8) × (n < 2 ^ 32)
IsInRange (long_string bytes) = ⊤
IsInRange (byte_array bytes) = ⊤
IsInRange (timestamp n) = n < 2 ^ 64
IsInRange void = ⊤

-- the same of all that stands in a value, with names that are short strings and tables in the order of their names
abbrev mutual
  -- of a value
  pub KeepsValue : FieldValue → Type 0
  KeepsValue (scalar s) = IsInRange s
  KeepsValue (array vs) = KeepsValues vs
  KeepsValue (table ps) = IsInOrder (pairs_of ps) × KeepsPairs ps

  -- of the values of an array
  pub KeepsValues : FieldValues → Type 0
  KeepsValues no_values = ⊤
  KeepsValues (value v vs) = KeepsValue v × KeepsValues vs

  -- of the pairs of a table
  pub KeepsPairs : FieldPairs → Type 0
  KeepsPairs no_pairs = ⊤
  KeepsPairs (pair name v ps) = (length name < 2 ^ 8) × KeepsValue v × KeepsPairs ps

-- how many tables and arrays stand in one another at most
abbrev mutual
  -- in a value, itself included
  pub value_depth : FieldValue → ℕ
  value_depth (scalar s) = 0
  value_depth (array vs) = suc (values_depth vs)
  value_depth (table ps) = suc (pairs_depth ps)

  -- in the values of an array
  pub values_depth : FieldValues → ℕ
  values_depth no_values = 0
  values_depth (value v vs) = max (value_depth v) (values_depth vs)

  -- in the pairs of a table
  pub pairs_depth : FieldPairs → ℕ
  pairs_depth no_pairs = 0
  pairs_depth (pair name v ps) = max (value_depth v) (pairs_depth ps)

-- a table that stands alone is in order, as are those in it, and with it no more stand in one another than may
abbrev pub KeepsTable : List Pair → Type 0
KeepsTable pairs = IsInOrder pairs × KeepsPairs (pairs_from pairs) × (pairs_depth (pairs_from pairs) < max_depth)

-- the arguments of a method are numbers in their range, short strings in their length, and such tables
abbrev pub KeepsArguments : AnyMethod → Type 0
KeepsArguments (Start major minor properties mechanisms locales) =
    (major < 2 ^ 8) × (minor < 2 ^ 8) × KeepsTable properties
KeepsArguments (StartOk properties mechanism response locale) =
    KeepsTable properties × (length mechanism < 2 ^ 8) × (length locale < 2 ^ 8)
KeepsArguments (Secure challenge) = ⊤
KeepsArguments (SecureOk response) = ⊤
KeepsArguments (Tune channel_max frame_max heartbeat) =
    (channel_max < 2 ^ 16) × (frame_max < 2 ^ 32) × (heartbeat < 2 ^ 16)
KeepsArguments (TuneOk channel_max frame_max heartbeat) =
    (channel_max < 2 ^ 16) × (frame_max < 2 ^ 32) × (heartbeat < 2 ^ 16)
KeepsArguments (Open vhost) = length vhost < 2 ^ 8
KeepsArguments OpenOk = ⊤
KeepsArguments (Close code text class method) =
    (code < 2 ^ 16) × (length text < 2 ^ 8) × (class < 2 ^ 16) × (method < 2 ^ 16)
KeepsArguments CloseOk = ⊤
KeepsArguments (Blocked reason) = length reason < 2 ^ 8
KeepsArguments Unblocked = ⊤
KeepsArguments (UpdateSecret secret reason) = length reason < 2 ^ 8
KeepsArguments UpdateSecretOk = ⊤
KeepsArguments ChannelOpen = ⊤
KeepsArguments ChannelOpenOk = ⊤
KeepsArguments (ChannelFlow active) = ⊤
KeepsArguments (ChannelFlowOk active) = ⊤
KeepsArguments (ChannelClose code text class method) =
    (code < 2 ^ 16) × (length text < 2 ^ 8) × (class < 2 ^ 16) × (method < 2 ^ 16)
KeepsArguments ChannelCloseOk = ⊤

-- the frame keeps the rules of numbers, strings, tables and payloads
abbrev pub KeepsRules : Frame → Type 0
KeepsRules (ProtocolHeader v) = (v.major < 2 ^ 8) × (v.minor < 2 ^ 8) × (v.revision < 2 ^ 8)
KeepsRules (Method channel m) = (channel < 2 ^ 16) × KeepsArguments m
KeepsRules (Raw channel kind payload) = (channel < 2 ^ 16) × RawPayload kind payload
KeepsRules Heartbeat = ⊤
