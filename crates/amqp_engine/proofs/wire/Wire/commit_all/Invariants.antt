-- What is still to be committed leads where the whole does.
use Rattle.std.proofs.Common.{◌≡◌}
use Rattle.amqp_rules.specs.Writing.{frames_waiting}
use Rattle.amqp_engine.specs.Engine.{commit_all}
use Rattle.amqp_engine.proofs.wire.Wire.commit_all.Given as goal

abbrev pub invariant-commits : goal.invariant-commits
invariant-commits l = commit_all l.self ≡ commit_all l.initial.self

abbrev pub decreases-commits : goal.decreases-commits
decreases-commits l = frames_waiting l.self.talk
