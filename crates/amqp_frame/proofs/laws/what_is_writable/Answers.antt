use Rattle.std.proofs.Common.{arith}
use Rattle.amqp_frame.proofs.Written.{frame_written}
use Rattle.amqp_frame.proofs.laws.what_is_writable.Goals as goal

pub returns : goal.returns
returns c frame keeps short = (frame_written frame keeps (omega arith), short)
