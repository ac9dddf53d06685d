-- The readers of methods and of what frames hold: what is spelled is read, and what is read is spelled.
use Rattle.std.proofs.Common.{◌≡◌, ℕ, ◌-◌, ◌%◌, Bool, cond, eqb, List, ◌++◌, Some, sym, ap, ◌∙◌}
use Rattle.std.specs.Int.{w16, w32}
use Rattle.amqp_types.specs.Forms.{◌▸◌, OctetOf, NumberOf, ShortStringOf, LongStringOf}
use Rattle.amqp_types.specs.Spelling.{max_depth, SpellsTable}
use Rattle.amqp_types.specs.Reading.{Reader, octet_at, short_string_at, long_string_at, table_at, ◌⊗◌}
use Rattle.amqp_types.proofs.Readers.{IsReader, octet_reader, number16_reader, number32_reader, both_reader, map_again, short_string_reader, long_string_reader}
use Rattle.amqp_types.proofs.FieldReaders.{table_at_reader}
use Rattle.amqp_frame.specs.declared.method.Method.{Method}
use Rattle.amqp_frame.specs.declared.method.Method.TheVariants as m
use Rattle.amqp_frame.specs.Methods.{class_of, number_of, ArgumentsOf}
use Rattle.amqp_frame.specs.FrameReading.{start_at, start_ok_at, numbers_at, tune_at, tune_ok_at, open_at, reasons_at, close_at, channel_close_at, update_secret_at, connection_arguments_at, channel_arguments_at}

tables : IsReader SpellsTable (table_at max_depth)
tables = table_at_reader (max_depth - 1)

pub start_args :
    IsReader
    (λ a. OctetOf a.0 ▸ OctetOf a.1.0 ▸ SpellsTable a.1.1.0 ▸ LongStringOf a.1.1.1.0 ▸ LongStringOf a.1.1.1.1)
    (octet_at ⊗ octet_at ⊗ table_at max_depth ⊗ long_string_at ⊗ long_string_at)
start_args =
    both_reader octet_reader
    (both_reader octet_reader (both_reader tables (both_reader long_string_reader long_string_reader)))

pub start_ok_args :
    IsReader
    (λ a. SpellsTable a.0 ▸ ShortStringOf a.1.0 ▸ LongStringOf a.1.1.0 ▸ ShortStringOf a.1.1.1)
    (table_at max_depth ⊗ short_string_at ⊗ long_string_at ⊗ short_string_at)
start_ok_args =
    both_reader tables (both_reader short_string_reader (both_reader long_string_reader short_string_reader))

pub numbers : IsReader (λ a. NumberOf w16 a.0 ▸ NumberOf w32 a.1.0 ▸ NumberOf w16 a.1.1) numbers_at
numbers = both_reader number16_reader (both_reader number32_reader number16_reader)

pub open_args :
    IsReader (λ a. ShortStringOf a.0 ▸ ShortStringOf a.1.0 ▸ OctetOf a.1.1)
    (short_string_at ⊗ short_string_at ⊗ octet_at)
open_args = both_reader short_string_reader (both_reader short_string_reader octet_reader)

pub reasons :
    IsReader (λ a. NumberOf w16 a.0 ▸ ShortStringOf a.1.0 ▸ NumberOf w16 a.1.1.0 ▸ NumberOf w16 a.1.1.1)
    reasons_at
reasons = both_reader number16_reader (both_reader short_string_reader (both_reader number16_reader number16_reader))

pub secret_args : IsReader (λ a. LongStringOf a.0 ▸ ShortStringOf a.1) (long_string_at ⊗ short_string_at)
secret_args = both_reader long_string_reader short_string_reader

-- the arguments by class and number
abbrev pub arguments_at : ℕ → ℕ → Reader Method
arguments_at class number bytes =
    cond (eqb class 10) (connection_arguments_at number bytes) (channel_arguments_at number bytes)

-- what is spelled is read
pub arguments_again :
    (method : Method) (text rest : List ℕ) → ArgumentsOf method text →
    arguments_at (class_of method) (number_of method) (text ++ rest) ≡ Some (method, rest)
unfolding connection_arguments_at channel_arguments_at start_at start_ok_at tune_at tune_ok_at open_at close_at channel_close_at update_secret_at
arguments_again (m.Start major minor properties mechanisms locales) text rest f =
    map_again start_args (λ a. m.Start a.0 a.1.0 a.1.1.0 a.1.1.1.0 a.1.1.1.1)
    (major, (minor, (properties, (mechanisms, locales)))) text rest f
arguments_again (m.StartOk properties mechanism response locale) text rest f =
    map_again start_ok_args (λ a. m.StartOk a.0 a.1.0 a.1.1.0 a.1.1.1) (properties, (mechanism, (response, locale)))
    text rest f
arguments_again (m.Secure challenge) text rest f = map_again long_string_reader m.Secure challenge text rest f
arguments_again (m.SecureOk response) text rest f = map_again long_string_reader m.SecureOk response text rest f
arguments_again (m.Tune channel_max frame_max heartbeat) text rest f =
    map_again numbers (λ a. m.Tune a.0 a.1.0 a.1.1) (channel_max, (frame_max, heartbeat)) text rest f
arguments_again (m.TuneOk channel_max frame_max heartbeat) text rest f =
    map_again numbers (λ a. m.TuneOk a.0 a.1.0 a.1.1) (channel_max, (frame_max, heartbeat)) text rest f
arguments_again (m.Open vhost) text rest f =
    map_again open_args (λ a. m.Open a.0) (vhost, (f.4.3.0, f.4.4.0)) text rest
    (f.0, f.1, f.2, f.3, (f.4.0, f.4.1, f.4.2, f.4.3.1, f.4.4.1))
arguments_again m.OpenOk text rest f = map_again short_string_reader (λ a. m.OpenOk) f.0 text rest f.1
arguments_again (m.Close code reply class method) text rest f =
    map_again reasons (λ a. m.Close a.0 a.1.0 a.1.1.0 a.1.1.1) (code, (reply, (class, method))) text rest f
arguments_again m.CloseOk text rest f = ap (λ (t : List ℕ). Some (m.CloseOk, t ++ rest)) f
arguments_again (m.Blocked reason) text rest f = map_again short_string_reader m.Blocked reason text rest f
arguments_again m.Unblocked text rest f = ap (λ (t : List ℕ). Some (m.Unblocked, t ++ rest)) f
arguments_again (m.UpdateSecret secret reason) text rest f =
    map_again secret_args (λ a. m.UpdateSecret a.0 a.1) (secret, reason) text rest f
arguments_again m.UpdateSecretOk text rest f = ap (λ (t : List ℕ). Some (m.UpdateSecretOk, t ++ rest)) f
arguments_again m.ChannelOpen text rest f = map_again short_string_reader (λ a. m.ChannelOpen) f.0 text rest f.1
arguments_again m.ChannelOpenOk text rest f = map_again long_string_reader (λ a. m.ChannelOpenOk) f.0 text rest f.1
arguments_again (m.ChannelFlow active) text rest f =
    map_again octet_reader (λ n. m.ChannelFlow (eqb (n % 2) 1)) f.0 text rest f.2
    ∙ ap (λ (b : Bool). Some (m.ChannelFlow b, rest)) (sym f.1)
arguments_again (m.ChannelFlowOk active) text rest f =
    map_again octet_reader (λ n. m.ChannelFlowOk (eqb (n % 2) 1)) f.0 text rest f.2
    ∙ ap (λ (b : Bool). Some (m.ChannelFlowOk b, rest)) (sym f.1)
arguments_again (m.ChannelClose code reply class method) text rest f =
    map_again reasons (λ a. m.ChannelClose a.0 a.1.0 a.1.1.0 a.1.1.1) (code, (reply, (class, method))) text rest f
arguments_again m.ChannelCloseOk text rest f = ap (λ (t : List ℕ). Some (m.ChannelCloseOk, t ++ rest)) f
