-- What is done where no turn comes any more.
use Rattle.std.specs.Prelude.{◌≡◌, ◌≤◌, ℕ, List, length, min}
use Rattle.amqp_hub.specs.declared.marks.Mark.{Mark}
use Rattle.amqp_locked.specs.UnderLock.{UnderLock, under_lock, with_session}
use Rattle.amqp_locked.specs.Looking.{finds, released_times, looked_from}
use Rattle.amqp_locked.specs.LettingGo.{LetsManyGo}

-- marks are met, some of those that may be are found, what is due about those from one on is done, and then of what
-- nobody will take as much is let go as there is, or at least 64
pub record Tidies (l l' : UnderLock) : Type 0 where
  pub found : List (ℕ × Mark)
  pub times : ℕ
  pub left : ℕ
  pub many : ℕ
  pub enough : min 64 (length (looked_from left (released_times times 0 (finds 0 found l))).unasked) ≤ many
  pub gone : let between : UnderLock = looked_from left (released_times times 0 (finds 0 found l)) in
      LetsManyGo many between.unasked between.hub.engine.talk l'.unasked l'.hub.engine.talk
  pub rest : let between : UnderLock = looked_from left (released_times times 0 (finds 0 found l)) in
      l' ≡ under_lock (with_session l'.hub.engine.talk between).hub between.places between.found l'.unasked
      between.watch
