-- What was taken from the session so far.
use Rattle.std.proofs.Common.{◌≡◌}
use Rattle.amqp_locked.specs.UnderLock.{contents, with_session}
use Rattle.amqp_locked.proofs.locked.Locked.bound_events.Given as goal

abbrev pub invariant-events : goal.invariant-events
invariant-events l = contents l.self ≡ with_session l.self.hub.engine.talk (contents l.fn.self)
