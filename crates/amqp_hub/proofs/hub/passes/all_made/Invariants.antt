-- The counts so far.
use Rattle.std.proofs.Common.{◌≡◌, map, take}
use Rattle.amqp_hub.proofs.hub.passes.all_made.Given as goal

abbrev pub invariant-passes : goal.invariant-passes
invariant-passes l = l.counts.items ≡ map (λ p. p.made) (take l.pass-index l.passes)
