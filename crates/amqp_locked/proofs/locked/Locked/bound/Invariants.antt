-- What was taken from the session so far.
use Rattle.std.proofs.Common.{◌≡◌}
use Rattle.amqp_locked.specs.UnderLock.{contents, with_session}
use Rattle.amqp_locked.proofs.locked.Locked.bound.Given as goal

abbrev pub invariant-channels : goal.invariant-channels
invariant-channels l = contents l.self ≡ with_session l.self.hub.engine.talk (contents l.fn.self)
