use Rattle.std.proofs.Common.{arith}
use Rattle.amqp_frame.specs.FrameReading.{front, framed, sized, ended, content, method_payload, connection_arguments_at}
use Rattle.amqp_frame_tests.proofs.wire.sequences.are_no_sequences.Goals as goal

pub returns : goal.returns
unfolding front framed sized ended content method_payload connection_arguments_at
returns c =
    record {
      left_out = λ h. omega (arith, h.1);
      not_cut = λ h. cc;
      not_broken = λ h. h.1;
      skipped = λ h. cc;
    }
