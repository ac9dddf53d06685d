use Rattle.std.proofs.Common.{refl}
use Rattle.amqp_types.specs.Reading.{short_string_at, long_string_at, scalar_at, row_at, pair_with, table_with, value_at, table_at}
use Rattle.amqp_frame.specs.FrameReading.{front, framed, sized, ended, content, method_payload, connection_arguments_at, channel_arguments_at, start_at, tune_at, close_at, channel_close_at}
use Rattle.amqp_engine_tests.proofs.scripts.sessions_end_so.Goals as goal

pub returns : goal.returns
unfolding front framed sized ended content method_payload connection_arguments_at channel_arguments_at start_at tune_at close_at channel_close_at short_string_at long_string_at scalar_at row_at pair_with table_with value_at table_at
returns c =
    record {
      closed_by_us = refl;
      listens = refl;
      in_pieces = refl;
      closed_by_them = refl;
      blocked_a_while = refl;
      heard_in_time = refl;
      messages_pass = refl;
      token_renewed = refl;
      tunes_at_once = refl;
      closes_cross = refl;
      missed = refl;
    }
