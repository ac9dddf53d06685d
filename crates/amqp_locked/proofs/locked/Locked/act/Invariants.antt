-- The marks from this one on were looked at.
use Rattle.std.proofs.Common.{◌≡◌, ◌≤◌, length, vec_len}
use Rattle.amqp_locked.specs.UnderLock.{contents}
use Rattle.amqp_locked.specs.Looking.{looked_from}
use Rattle.amqp_locked.proofs.locked.Locked.act.Given as goal

abbrev pub invariant-act : goal.invariant-act
invariant-act l =
    record {
      within : l.at ≤ length (contents l.fn.self).found;
      there : l.at ≤ vec_len l.self.found;
      looked : contents l.self ≡ looked_from l.at (contents l.fn.self);
    }

abbrev pub decreases-act : goal.decreases-act
decreases-act l = l.at
