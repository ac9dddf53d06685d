use Rattle.std.proofs.Common.{refl, arith}
use Rattle.amqp_frame.specs.FrameReading.{front, header, version, framed, sized, ended, content, method_payload, connection_arguments_at}
use Rattle.amqp_frame_tests.proofs.wire.sequences.are_sequences.Goals as goal

pub returns : goal.returns
unfolding front header version framed sized ended content method_payload connection_arguments_at
returns c =
    record {
      nothing = (refl, refl);
      complete = ((8, refl, (8, refl, (12, refl, refl))), refl);
      cut = ((8, refl, refl), (omega arith, refl));
      on_a_channel = ((8, refl, refl), tt);
      above_the_limit = ((12, refl, refl), tt);
    }
