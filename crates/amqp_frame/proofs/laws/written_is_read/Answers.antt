use Rattle.std.proofs.Common.{arith}
use Rattle.amqp_frame.specs.Frames.{encoding}
use Rattle.amqp_frame.proofs.FrontLaws.{front_again}
use Rattle.amqp_frame.proofs.Written.{frame_written}
use Rattle.amqp_frame.proofs.laws.written_is_read.Goals as goal

pub returns-clause-writable : goal.returns-clause-writable
returns-clause-writable c frame rest limit writable within =
    front_again frame (encoding frame) rest limit writable.0 within

pub returns-clause-rules : goal.returns-clause-rules
returns-clause-rules c frame rest limit keeps short within =
    front_again frame (encoding frame) rest limit (frame_written frame keeps (omega arith)) within
