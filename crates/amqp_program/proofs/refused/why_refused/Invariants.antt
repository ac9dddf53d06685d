use Rattle.std.proofs.Common.{length}
use Rattle.amqp_program.proofs.refused.why_refused.Given as goal

abbrev pub decreases-lines : goal.decreases-lines
decreases-lines l = length l.lines
