-- The step that is looked for among the lines that are left is the one that was asked for.
use Rattle.std.proofs.Common.{◌≡◌, length}
use Rattle.amqp_replay.specs.Lines.{lines}
use Rattle.amqp_replay.specs.Scripts.{line_of_step}
use Rattle.amqp_replay.proofs.script.line_of_step.Given as goal

abbrev pub invariant-lines : goal.invariant-lines
invariant-lines l = line_of_step l.left l.lines ≡ line_of_step l.step (lines l.text)

abbrev pub decreases-lines : goal.decreases-lines
decreases-lines l = length l.lines
