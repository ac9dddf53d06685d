-- The marks that were met so far.
use Rattle.std.proofs.Common.{◌≡◌, ℕ, List}
use Rattle.amqp_hub.specs.declared.marks.Mark.{Mark}
use Rattle.amqp_locked.specs.UnderLock.{contents}
use Rattle.amqp_locked.specs.Looking.{finds}
use Rattle.amqp_locked.proofs.locked.Locked.gather.Given as goal

abbrev pub invariant-gather : goal.invariant-gather
invariant-gather l = (found : List (ℕ × Mark)) × (contents l.self ≡ finds l.fn.at found (contents l.fn.self))
