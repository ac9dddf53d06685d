use Rattle.amqp_rules.proofs.FrameEnds.{waits-frame}
use Rattle.amqp_rules.proofs.FrameErrors.{frame-errors, frame-lost}
use Rattle.amqp_rules.proofs.laws.a_frame_ends_with_its_errors.Goals as goal

pub returns : goal.returns
returns c = record { ends = frame-errors; lost = frame-lost; recovered = λ f answers t on other after. waits-frame f answers t other after }
