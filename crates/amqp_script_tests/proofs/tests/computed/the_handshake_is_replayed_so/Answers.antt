use Rattle.std.proofs.Common.{refl}
use Rattle.std.specs.Fmt.{digits}
use Rattle.hex.specs.Hex.{encode_with, decode_pairs}
use Rattle.amqp_types.specs.Reading.{short_string_at, long_string_at, scalar_at, row_at, pair_with, table_with, value_at, table_at}
use Rattle.amqp_frame.specs.FrameReading.{front, framed, sized, ended, content, method_payload, connection_arguments_at, channel_arguments_at, start_at, tune_at}
use Rattle.amqp_script_tests.proofs.tests.computed.the_handshake_is_replayed_so.Goals as goal

pub returns : goal.returns
unfolding digits encode_with decode_pairs front framed sized ended content method_payload connection_arguments_at channel_arguments_at start_at tune_at short_string_at long_string_at scalar_at row_at pair_with table_with value_at table_at
returns c = refl
