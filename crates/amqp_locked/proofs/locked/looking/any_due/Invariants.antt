-- None of the marks so far is due, and so one is where one of the others is.
use Rattle.std.proofs.Common.{◌≡◌, map, drop}
use Rattle.amqp_hub.specs.declared.marks.Found.{Found}
use Rattle.amqp_locked.specs.Looking.{any_due}
use Rattle.amqp_locked.proofs.locked.looking.any_due.Given as goal

abbrev pub invariant-marks : goal.invariant-marks
invariant-marks l =
    any_due l.hub.engine.talk (map (λ (f : Found). f.owner) (drop l.mark-index l.found)) ≡ any_due l.hub.engine.talk (map (λ (f : Found). f.owner) l.found)
