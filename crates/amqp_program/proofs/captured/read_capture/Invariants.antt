-- What the lines that are left say behind what was said, is what the text says.
use Rattle.std.proofs.Common.{◌≡◌, length}
use Rattle.amqp_program.specs.Captures.{captured, captured_from}
use Rattle.amqp_program.proofs.captured.read_capture.Given as goal

abbrev pub invariant-lines : goal.invariant-lines
invariant-lines l = captured_from l.lines l.sides l.left ≡ captured l.text

abbrev pub decreases-lines : goal.decreases-lines
decreases-lines l = length l.lines
