-- Of the lines that are left the line is found that has the octet, as of all lines.
use Rattle.std.proofs.Common.{◌≡◌, length}
use Rattle.amqp_replay.specs.Lines.{lines}
use Rattle.amqp_replay.specs.declared.limits.TheConstants.{ZERO_BYTES}
use Rattle.amqp_program.specs.Captures.{line_with}
use Rattle.amqp_program.proofs.captured.line_of_octet.Given as goal

abbrev pub invariant-lines : goal.invariant-lines
invariant-lines l = line_with l.side l.before l.left l.lines ≡ line_with l.side l.place ZERO_BYTES (lines l.text)

abbrev pub decreases-lines : goal.decreases-lines
decreases-lines l = length l.lines
