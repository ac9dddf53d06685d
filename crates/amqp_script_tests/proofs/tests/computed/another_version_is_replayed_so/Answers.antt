use Rattle.std.proofs.Common.{refl}
use Rattle.std.specs.Fmt.{digits}
use Rattle.hex.specs.Hex.{encode_with, decode_pairs}
use Rattle.amqp_frame.specs.FrameReading.{front, header, version}
use Rattle.amqp_script_tests.proofs.tests.computed.another_version_is_replayed_so.Goals as goal

pub returns : goal.returns
unfolding digits encode_with decode_pairs front header version
returns c = refl
