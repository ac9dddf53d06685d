-- The passes so far.
use Rattle.std.proofs.Common.{◌≡◌, length}
use Rattle.amqp_hub.specs.Passes.{AreNew}
use Rattle.amqp_hub.proofs.hub.passes.fresh.Given as goal

abbrev pub invariant-passes : goal.invariant-passes
invariant-passes l =
    record {
      new : AreNew l.before l.passes.items;
      many : length l.passes.items ≡ l.place;
    }
