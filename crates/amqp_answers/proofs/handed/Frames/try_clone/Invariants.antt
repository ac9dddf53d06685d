-- The copies so far.
use Rattle.std.proofs.Common.{◌≡◌, take}
use Rattle.amqp_answers.proofs.handed.Frames.try_clone.Given as goal

abbrev pub invariant-loop-frame : goal.invariant-loop-frame
invariant-loop-frame l = l.items.items ≡ take l.frame-index l.self
