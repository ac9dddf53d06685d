-- Those from this one on were closed.
use Rattle.std.proofs.Common.{◌≡◌, ◌≤◌, ◌+◌, length, take, drop, vec_len, vec_capacity}
use Rattle.amqp_pool.specs.Closing.{closed}
use Rattle.amqp_pool.proofs.closing.close_each.Given as goal

abbrev pub invariant-idle : goal.invariant-idle
invariant-idle l =
    record {
      within : l.left ≤ length l.initial.idle.items;
      stay : l.idle.items ≡ take l.left l.initial.idle.items;
      there : vec_len l.idle ≡ l.left;
      hub : l.hub ≡ closed l.initial.pass.number l.initial.pass.made (drop l.left l.initial.idle.items) l.initial.hub;
      made : l.pass.made ≡ l.initial.pass.made + length (drop l.left l.initial.idle.items);
      number : l.pass.number ≡ l.initial.pass.number;
      places : vec_capacity l.idle ≡ vec_capacity l.initial.idle;
      promises : l.initial.hub.engine.talk.made ≤ l.hub.engine.talk.made;
    }

abbrev pub decreases-idle : goal.decreases-idle
decreases-idle l = l.left
