-- A frame that waits, as it is seen.
use Rattle.std.specs.Prelude.{ℕ, Option}
use Rattle.amqp_frame.specs.declared.frame.Frame.{Frame}

-- a frame on a channel, and the promise that it answers once it was sent whole, where there is one
pub record QueuedFrame : Type 0 where
  pub channel : ℕ
  pub frame : Frame
  pub promise : Option ℕ
