-- What was let go so far.
use Rattle.std.proofs.Common.{◌≡◌}
use Rattle.amqp_locked.specs.UnderLock.{contents, watched, with_session}
use Rattle.amqp_locked.specs.LettingGo.{LetsManyGo}
use Rattle.amqp_locked.proofs.locked.Locked.let_go.Given as goal

abbrev pub invariant-let_go : goal.invariant-let_go
invariant-let_go l =
    record {
      gone : LetsManyGo l.asked l.fn.self.unasked.items l.fn.self.hub.engine.talk l.self.unasked.items l.self.hub.engine.talk;
      hub : l.self.hub ≡ (with_session l.self.hub.engine.talk (contents l.fn.self)).hub;
      places : l.self.places ≡ l.fn.self.places;
      found : l.self.found ≡ l.fn.self.found;
      watch : watched l.self ≡ watched l.fn.self;
    }
