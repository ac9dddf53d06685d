-- The marks that were looked at so far, with a place for each that is still to be.
use Rattle.std.proofs.Common.{◌≡◌, ◌≤◌, ◌+◌, ◌-◌, vec_len, vec_capacity}
use Rattle.amqp_locked.specs.UnderLock.{contents}
use Rattle.amqp_locked.specs.Looking.{released_times}
use Rattle.amqp_locked.proofs.locked.Locked.release.Given as goal

abbrev pub invariant-release : goal.invariant-release
invariant-release l =
    record {
      gone : contents l.self ≡ released_times l.asked l.fn.at (contents l.fn.self);
      room : vec_len l.self.found + (l.count - l.asked) ≤ vec_capacity l.self.found;
    }
