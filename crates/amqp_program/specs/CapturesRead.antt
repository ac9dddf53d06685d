-- What was read of a capture.
use Rattle.std.specs.Prelude.{ℕ, Result, Ok, Err}
use Rattle.amqp_program.specs.declared.captured.Capture.{Capture}
use Rattle.amqp_program.specs.declared.captured.Capture.TheVariants.{Sides, Refused}
use Rattle.amqp_program.specs.Captures.{Captured}

-- what the capture says, or the number of the line that was refused
abbrev pub capture_read : Capture → Result Captured ℕ
capture_read (Sides c) = Ok c
capture_read (Refused number) = Err number
