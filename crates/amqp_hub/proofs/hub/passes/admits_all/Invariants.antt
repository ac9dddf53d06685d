-- The passes so far are of the hub, and so the first that is not is the first of the others that is not.
use Rattle.std.proofs.Common.{◌≡◌, Some, take, drop}
use Rattle.std.specs.Prelude.{All}
use Rattle.amqp_hub.specs.Passes.{count_of, first_foreign}
use Rattle.amqp_hub.proofs.hub.passes.admits_all.Given as goal

abbrev pub invariant-passes : goal.invariant-passes
invariant-passes l =
    record {
      home : All (λ p. count_of p.number l.counts ≡ Some p.made) (take l.pass-index l.passes);
      left : first_foreign (drop l.pass-index l.passes) l.counts ≡ first_foreign l.passes l.counts;
    }
