-- What is written of a frame that keeps the rules is a spelling of it.
use Rattle.std.proofs.Common.{ℕ, ℤ, zero, suc, ◌<◌, ◌≤◌, ◌^◌, true, false, List, [], ◌∷◌, ◌++◌, length, refl, sym, subst, append_assoc, arith}
use Rattle.std.proofs.lemmas.List.{length-append}
use Rattle.std.specs.Int.{Width, w8, w16, w32, w64, w128, to_be_bytes, cast_unsigned}
use Rattle.std.specs.Prelude.{FitsSigned}
use mir.Facts.{to_z-of_z}
use mir.ValLaws.{of_z_fits}
use Rattle.amqp_types.specs.Value.{Scalar, boolean, short_short_int, short_short_uint, short_int, short_uint, long_int, long_uint, long_long_int, float, double, decimal, long_string, byte_array, timestamp, void, FieldValue, scalar, array, table, FieldValues, no_values, value, FieldPairs, no_pairs, pair, Pair, list_of, pairs_of, pairs_from}
use Rattle.amqp_types.specs.Forms.{OctetOf, SignedOf, ShortStringOf, LongStringOf, Row, spell_short_string, spell_long_string}
use Rattle.amqp_types.specs.Spelling.{tag_of, ScalarOf, PairOf, Spells, SpellsTable, spell_scalar, spell, spell_values, spell_pairs, spell_table}
use Rattle.amqp_types.proofs.TableLaws.{map_of_ordered}
use Rattle.amqp_types.proofs.FieldReaders.{pairs_of-pairs_from}
use Rattle.amqp_frame.specs.declared.method.Method.{Method}
use Rattle.amqp_frame.specs.declared.method.Method.TheVariants as m
use Rattle.amqp_frame.specs.declared.frame.Frame.{Frame}
use Rattle.amqp_frame.specs.declared.frame.Frame.TheVariants as f
use Rattle.amqp_frame.specs.declared.frame.RawKind.{RawKind}
use Rattle.amqp_frame.specs.declared.frame.RawKind.TheVariants.{RawMethod, Header, Body}
use Rattle.amqp_frame.specs.Methods.{class_of, number_of, ArgumentsOf, MethodOf, spell_tune, spell_close, spell_arguments, spell_method}
use Rattle.amqp_frame.specs.Frames.{type_of, Framed, FrameOf, spell_header, spell_framed, encoding}
use Rattle.amqp_frame.specs.Rules.{IsInRange, KeepsValue, KeepsValues, KeepsPairs, value_depth, values_depth, pairs_depth, KeepsTable, KeepsArguments, KeepsRules}

-- a text that is short enough has short parts
first_part : (a b : List ℕ) → length (a ++ b) < 2 ^ 32 → length a < 2 ^ 32
first_part a b lt = omega (arith, length-append a b)

second_part : (a b : List ℕ) → length (a ++ b) < 2 ^ 32 → length b < 2 ^ 32
second_part a b lt = omega (arith, length-append a b)

-- ---- strings
short_written : (content : List ℕ) → length content < 2 ^ 8 → ShortStringOf content (spell_short_string content)
short_written content lt = (length content ∷ [], content, refl, (lt, refl), (refl, refl))

long_written :
    (content : List ℕ) → length (spell_long_string content) < 2 ^ 32 →
    LongStringOf content (spell_long_string content)
long_written content lt = (
  to_be_bytes w32 (length content),
  content,
  refl,
  (second_part (to_be_bytes w32 (length content)) content lt, refl),
  (refl, refl),
)

-- ---- values that hold no other
signed_written : (w : Width) (z : ℤ) → FitsSigned w z → SignedOf w z (to_be_bytes w (cast_unsigned w z))
signed_written w8 z fits = (cast_unsigned w8 z, sym (to_z-of_z fits), ((of_z_fits w8 z fits).fits, refl))
signed_written w16 z fits = (cast_unsigned w16 z, sym (to_z-of_z fits), ((of_z_fits w16 z fits).fits, refl))
signed_written w32 z fits = (cast_unsigned w32 z, sym (to_z-of_z fits), ((of_z_fits w32 z fits).fits, refl))
signed_written w64 z fits = (cast_unsigned w64 z, sym (to_z-of_z fits), ((of_z_fits w64 z fits).fits, refl))
signed_written w128 z fits = (cast_unsigned w128 z, sym (to_z-of_z fits), ((of_z_fits w128 z fits).fits, refl))

scalar_written : (s : Scalar) → IsInRange s → length (spell_scalar s) < 2 ^ 32 → ScalarOf s (spell_scalar s)
scalar_written (boolean true) r lt = (1, refl, (omega arith, refl))
scalar_written (boolean false) r lt = (0, refl, (omega arith, refl))
scalar_written (short_short_int z) r lt = (cast_unsigned w8 z, sym (to_z-of_z r), ((of_z_fits w8 z r).fits, refl))
scalar_written (short_short_uint n) r lt = (r, refl)
scalar_written (short_int z) r lt = signed_written w16 z r
scalar_written (short_uint n) r lt = (r, refl)
scalar_written (long_int z) r lt = signed_written w32 z r
scalar_written (long_uint n) r lt = (r, refl)
scalar_written (long_long_int z) r lt = signed_written w64 z r
scalar_written (float bytes) r lt = (r, refl)
scalar_written (double bytes) r lt = (r, refl)
scalar_written (decimal scale n) r lt = (scale ∷ [], to_be_bytes w32 n, refl, (r.0, refl), (r.1, refl))
scalar_written (long_string bytes) r lt = long_written bytes lt
scalar_written (byte_array bytes) r lt = long_written bytes lt
scalar_written (timestamp n) r lt = (r, refl)
scalar_written void r lt = refl

tag_written : (s : Scalar) → OctetOf (tag_of s) (tag_of s ∷ [])
tag_written (boolean b) = (omega arith, refl)
tag_written (short_short_int z) = (omega arith, refl)
tag_written (short_short_uint n) = (omega arith, refl)
tag_written (short_int z) = (omega arith, refl)
tag_written (short_uint n) = (omega arith, refl)
tag_written (long_int z) = (omega arith, refl)
tag_written (long_uint n) = (omega arith, refl)
tag_written (long_long_int z) = (omega arith, refl)
tag_written (float bytes) = (omega arith, refl)
tag_written (double bytes) = (omega arith, refl)
tag_written (decimal scale n) = (omega arith, refl)
tag_written (long_string bytes) = (omega arith, refl)
tag_written (byte_array bytes) = (omega arith, refl)
tag_written (timestamp n) = (omega arith, refl)
tag_written void = (omega arith, refl)

-- ---- values, arrays and tables
mutual
  value_written :
      (depth : ℕ) (v : FieldValue) → KeepsValue v → value_depth v ≤ depth → length (spell v) < 2 ^ 32 →
      Spells depth v (spell v)
  value_written zero (scalar s) k deep lt = (
    tag_of s ∷ [],
    spell_scalar s,
    refl,
    tag_written s,
    scalar_written s k (second_part (tag_of s ∷ []) (spell_scalar s) lt),
  )
  value_written zero (array vs) k deep lt = absurd (omega arith)
  value_written zero (table ps) k deep lt = absurd (omega arith)
  value_written (suc depth) (scalar s) k deep lt = (
    tag_of s ∷ [],
    spell_scalar s,
    refl,
    tag_written s,
    scalar_written s k (second_part (tag_of s ∷ []) (spell_scalar s) lt),
  )
  value_written (suc depth) (array vs) k deep lt =
      let long : length (spell_long_string (spell_values vs)) < 2 ^ 32 =
      second_part (65 ∷ []) (spell_long_string (spell_values vs)) lt in
      let body : length (spell_values vs) < 2 ^ 32 =
      second_part (to_be_bytes w32 (length (spell_values vs))) (spell_values vs) long in (
        65 ∷ [],
        spell_long_string (spell_values vs),
        refl,
        (omega arith, refl),
        (spell_values vs, values_written depth vs k (omega arith) body, long_written (spell_values vs) long),
      )
  value_written (suc depth) (table ps) k deep lt =
      let long : length (spell_long_string (spell_pairs ps)) < 2 ^ 32 =
      second_part (70 ∷ []) (spell_long_string (spell_pairs ps)) lt in
      let body : length (spell_pairs ps) < 2 ^ 32 =
      second_part (to_be_bytes w32 (length (spell_pairs ps))) (spell_pairs ps) long in (
        70 ∷ [],
        spell_long_string (spell_pairs ps),
        refl,
        (omega arith, refl),
        (
          spell_pairs ps,
          pairs_of ps,
          sym (map_of_ordered (pairs_of ps) k.0),
          pairs_written depth ps k.1 (omega arith) body,
          long_written (spell_pairs ps) long,
        ),
      )

  values_written :
      (depth : ℕ) (vs : FieldValues) → KeepsValues vs → values_depth vs ≤ depth → length (spell_values vs) < 2 ^ 32 →
      Row (Spells depth) (list_of vs) (spell_values vs)
  values_written depth no_values k deep lt = refl
  values_written depth (value v vs) k deep lt = (
    spell v,
    spell_values vs,
    refl,
    value_written depth v k.0 (omega arith) (first_part (spell v) (spell_values vs) lt),
    values_written depth vs k.1 (omega arith) (second_part (spell v) (spell_values vs) lt),
  )

  pairs_written :
      (depth : ℕ) (ps : FieldPairs) → KeepsPairs ps → pairs_depth ps ≤ depth → length (spell_pairs ps) < 2 ^ 32 →
      Row (PairOf (Spells depth)) (pairs_of ps) (spell_pairs ps)
  pairs_written depth no_pairs k deep lt = refl
  pairs_written depth (pair name v ps) k deep lt =
      let front : List ℕ = spell_short_string name ++ spell v in
      let short : length front < 2 ^ 32 = first_part front (spell_pairs ps) lt in (
        front,
        spell_pairs ps,
        refl,
        (
          spell_short_string name,
          spell v,
          refl,
          short_written name k.0,
          value_written depth v k.1 (omega arith) (second_part (spell_short_string name) (spell v) short),
        ),
        pairs_written depth ps k.2 (omega arith) (second_part front (spell_pairs ps) lt),
      )

table_written : (ps : List Pair) → KeepsTable ps → length (spell_table ps) < 2 ^ 32 → SpellsTable ps (spell_table ps)
table_written ps k lt =
    let body : length (spell_pairs (pairs_from ps)) < 2 ^ 32 =
    second_part (to_be_bytes w32 (length (spell_pairs (pairs_from ps)))) (spell_pairs (pairs_from ps)) lt in
    let row = pairs_written 127 (pairs_from ps) k.1 (omega arith) body in (
      spell_pairs (pairs_from ps),
      ps,
      sym (map_of_ordered ps k.0),
      subst (λ qs. Row (PairOf (Spells 127)) qs (spell_pairs (pairs_from ps))) (pairs_of-pairs_from ps) row,
      long_written (spell_pairs (pairs_from ps)) lt,
    )

-- ---- methods
tune_written : (a b c : ℕ) → a < 2 ^ 16 → b < 2 ^ 32 → c < 2 ^ 16 → ArgumentsOf (m.Tune a b c) (spell_tune a b c)
tune_written a b c ra rb rc = (
  to_be_bytes w16 a,
  to_be_bytes w32 b ++ to_be_bytes w16 c,
  refl,
  (ra, refl),
  (to_be_bytes w32 b, to_be_bytes w16 c, refl, (rb, refl), (rc, refl)),
)

close_written :
    (code : ℕ) (text : List ℕ) (class method : ℕ) → code < 2 ^ 16 → length text < 2 ^ 8 → class < 2 ^ 16 →
    method < 2 ^ 16 → ArgumentsOf (m.Close code text class method) (spell_close code text class method)
close_written code text class method a b c d = (
  to_be_bytes w16 code,
  spell_short_string text ++ (to_be_bytes w16 class ++ to_be_bytes w16 method),
  refl,
  (a, refl),
  (
    spell_short_string text,
    to_be_bytes w16 class ++ to_be_bytes w16 method,
    refl,
    short_written text b,
    (to_be_bytes w16 class, to_be_bytes w16 method, refl, (c, refl), (d, refl)),
  ),
)

start_written :
    (major minor : ℕ) (properties : List Pair) (mechanisms locales : List ℕ) → major < 2 ^ 8 → minor < 2 ^ 8 →
    KeepsTable properties
    → length (spell_arguments (m.Start major minor properties mechanisms locales)) < 2 ^ 32 → ArgumentsOf
    (m.Start major minor properties mechanisms locales)
    (spell_arguments (m.Start major minor properties mechanisms locales))
start_written major minor properties mechanisms locales a b k lt =
    let strings = spell_long_string mechanisms ++ spell_long_string locales in
    let tables : length (spell_table properties ++ strings) < 2 ^ 32 =
    second_part (major ∷ minor ∷ []) (spell_table properties ++ strings) lt in
    let behind : length strings < 2 ^ 32 = second_part (spell_table properties) strings tables in (
      major ∷ [],
      minor ∷ (spell_table properties ++ strings),
      refl,
      (a, refl),
      (
        minor ∷ [],
        spell_table properties ++ strings,
        refl,
        (b, refl),
        (
          spell_table properties,
          strings,
          refl,
          table_written properties k (first_part (spell_table properties) strings tables),
          (
            spell_long_string mechanisms,
            spell_long_string locales,
            refl,
            long_written mechanisms (first_part (spell_long_string mechanisms) (spell_long_string locales) behind),
            long_written locales (second_part (spell_long_string mechanisms) (spell_long_string locales) behind),
          ),
        ),
      ),
    )

start_ok_written :
    (properties : List Pair) (mechanism response locale : List ℕ) → KeepsTable properties → length mechanism < 2 ^ 8 →
    length locale < 2 ^ 8
    → length (spell_arguments (m.StartOk properties mechanism response locale)) < 2 ^ 32 → ArgumentsOf
    (m.StartOk properties mechanism response locale)
    (spell_arguments (m.StartOk properties mechanism response locale))
start_ok_written properties mechanism response locale k a b lt =
    let answer = spell_long_string response ++ spell_short_string locale in
    let strings = spell_short_string mechanism ++ answer in
    let behind : length strings < 2 ^ 32 = second_part (spell_table properties) strings lt in
    let last : length answer < 2 ^ 32 = second_part (spell_short_string mechanism) answer behind in (
      spell_table properties,
      strings,
      refl,
      table_written properties k (first_part (spell_table properties) strings lt),
      (
        spell_short_string mechanism,
        answer,
        refl,
        short_written mechanism a,
        (
          spell_long_string response,
          spell_short_string locale,
          refl,
          long_written response (first_part (spell_long_string response) (spell_short_string locale) last),
          short_written locale b,
        ),
      ),
    )

-- an empty short string and an empty long string
no_short : ShortStringOf [] (0 ∷ [])
no_short = short_written [] (omega arith)

no_long : LongStringOf [] (0 ∷ 0 ∷ 0 ∷ 0 ∷ [])
no_long = long_written [] (omega arith)

arguments_written :
    (method : Method) → KeepsArguments method → length (spell_arguments method) < 2 ^ 32 →
    ArgumentsOf method (spell_arguments method)
arguments_written (m.Start major minor properties mechanisms locales) k lt =
    start_written major minor properties mechanisms locales k.0 k.1 k.2 lt
arguments_written (m.StartOk properties mechanism response locale) k lt =
    start_ok_written properties mechanism response locale k.0 k.1 k.2 lt
arguments_written (m.Secure challenge) k lt = long_written challenge lt
arguments_written (m.SecureOk response) k lt = long_written response lt
arguments_written (m.Tune a b c) k lt = tune_written a b c k.0 k.1 k.2
arguments_written (m.TuneOk a b c) k lt = tune_written a b c k.0 k.1 k.2
arguments_written (m.Open vhost) k lt = (
  spell_short_string vhost,
  0 ∷ 0 ∷ [],
  refl,
  short_written vhost k,
  (0 ∷ [], 0 ∷ [], refl, ([], no_short), (0, (omega arith, refl))),
)
arguments_written m.OpenOk k lt = ([], no_short)
arguments_written (m.Close code text class method) k lt = close_written code text class method k.0 k.1 k.2 k.3
arguments_written m.CloseOk k lt = refl
arguments_written (m.Blocked reason) k lt = short_written reason k
arguments_written m.Unblocked k lt = refl
arguments_written (m.UpdateSecret secret reason) k lt = (
  spell_long_string secret,
  spell_short_string reason,
  refl,
  long_written secret (first_part (spell_long_string secret) (spell_short_string reason) lt),
  short_written reason k,
)
arguments_written m.UpdateSecretOk k lt = refl
arguments_written m.ChannelOpen k lt = ([], no_short)
arguments_written m.ChannelOpenOk k lt = ([], no_long)
arguments_written (m.ChannelFlow true) k lt = (1, refl, (omega arith, refl))
arguments_written (m.ChannelFlow false) k lt = (0, refl, (omega arith, refl))
arguments_written (m.ChannelFlowOk true) k lt = (1, refl, (omega arith, refl))
arguments_written (m.ChannelFlowOk false) k lt = (0, refl, (omega arith, refl))
arguments_written (m.ChannelClose code text class method) k lt = close_written code text class method k.0 k.1 k.2 k.3
arguments_written m.ChannelCloseOk k lt = refl

-- the class and the number of each method are numbers of 16 bits
ids_fit : (method : Method) → (class_of method < 2 ^ 16) × (number_of method < 2 ^ 16)
ids_fit (m.Start major minor properties mechanisms locales) = (omega arith, omega arith)
ids_fit (m.StartOk properties mechanism response locale) = (omega arith, omega arith)
ids_fit (m.Secure challenge) = (omega arith, omega arith)
ids_fit (m.SecureOk response) = (omega arith, omega arith)
ids_fit (m.Tune a b c) = (omega arith, omega arith)
ids_fit (m.TuneOk a b c) = (omega arith, omega arith)
ids_fit (m.Open vhost) = (omega arith, omega arith)
ids_fit m.OpenOk = (omega arith, omega arith)
ids_fit (m.Close code text class method) = (omega arith, omega arith)
ids_fit m.CloseOk = (omega arith, omega arith)
ids_fit (m.Blocked reason) = (omega arith, omega arith)
ids_fit m.Unblocked = (omega arith, omega arith)
ids_fit (m.UpdateSecret secret reason) = (omega arith, omega arith)
ids_fit m.UpdateSecretOk = (omega arith, omega arith)
ids_fit m.ChannelOpen = (omega arith, omega arith)
ids_fit m.ChannelOpenOk = (omega arith, omega arith)
ids_fit (m.ChannelFlow active) = (omega arith, omega arith)
ids_fit (m.ChannelFlowOk active) = (omega arith, omega arith)
ids_fit (m.ChannelClose code text class method) = (omega arith, omega arith)
ids_fit m.ChannelCloseOk = (omega arith, omega arith)

method_written :
    (method : Method) → KeepsArguments method → length (spell_method method) < 2 ^ 32 →
    MethodOf method (spell_method method)
method_written method k lt =
    let class = to_be_bytes w16 (class_of method) in
    let number = to_be_bytes w16 (number_of method) in
    let behind : length (number ++ spell_arguments method) < 2 ^ 32 =
    second_part class (number ++ spell_arguments method) lt in
    let ids = ids_fit method in (
      class,
      number ++ spell_arguments method,
      refl,
      (ids.0, refl),
      (
        number,
        spell_arguments method,
        refl,
        (ids.1, refl),
        arguments_written method k (second_part number (spell_arguments method) behind),
      ),
    )

-- ---- frames
framed_written :
    (type channel : ℕ) (payload : List ℕ) → type < 2 ^ 8 → channel < 2 ^ 16 → length payload < 2 ^ 32 →
    Framed type channel payload (spell_framed type channel payload)
framed_written type channel payload a b c =
    let number = to_be_bytes w16 channel in
    let size = to_be_bytes w32 (length payload) in
    let end : List ℕ = 206 ∷ [] in
    let last : 206 < 256 = omega arith in (
      type ∷ [],
      (number ++ size) ++ (payload ++ end),
      refl,
      (a, refl),
      (
        number,
        size ++ (payload ++ end),
        append_assoc number size (payload ++ end),
        (b, refl),
        (
          size ++ payload,
          end,
          sym (append_assoc size payload end),
          (size, payload, refl, (c, refl), (refl, refl)),
          (last, refl),
        ),
      ),
    )

framed_payload :
    (type channel : ℕ) (payload : List ℕ) → length (spell_framed type channel payload) < 2 ^ 32 →
    length payload < 2 ^ 32
framed_payload type channel payload lt =
    first_part payload (206 ∷ []) (second_part (spell_header type channel (length payload)) (payload ++ 206 ∷ []) lt)

type_fits : (kind : RawKind) → type_of kind < 2 ^ 8
type_fits RawMethod = omega arith
type_fits Header = omega arith
type_fits Body = omega arith

pub frame_written :
    (frame : Frame) → KeepsRules frame → length (encoding frame) < 2 ^ 32 → FrameOf frame (encoding frame)
frame_written (f.ProtocolHeader v) k lt = (
  65 ∷ 77 ∷ 81 ∷ 80 ∷ [],
  0 ∷ v.major ∷ v.minor ∷ v.revision ∷ [],
  refl,
  refl,
  (
    0 ∷ [],
    v.major ∷ v.minor ∷ v.revision ∷ [],
    refl,
    (0, (omega arith, refl)),
    (
      v.major ∷ [],
      v.minor ∷ v.revision ∷ [],
      refl,
      (k.0, refl),
      (v.minor ∷ [], v.revision ∷ [], refl, (k.1, refl), (k.2, refl)),
    ),
  ),
)
frame_written (f.Method channel method) k lt =
    let payload = framed_payload 1 channel (spell_method method) lt in (
      spell_method method,
      method_written method k.1 payload,
      framed_written 1 channel (spell_method method) (omega arith) k.0 payload,
    )
frame_written (f.Raw channel kind payload) k lt = (
  k.1,
  framed_written (type_of kind) channel payload (type_fits kind) k.0
      (framed_payload (type_of kind) channel payload lt),
)
frame_written f.Heartbeat k lt = refl
