-- What a turn does under the lock.
use Rattle.std.specs.Prelude.{◌≡◌, ◌⊎◌, ◌==◌, ◌&&◌, if◌then◌else◌, ℕ, Bool, true, false, List, Option, Some, Err}
use Rattle.amqp_types.specs.Counts.{Rose}
use Rattle.amqp_types.specs.declared.text.Text.{Text}
use Rattle.amqp_promise.specs.declared.error.ErrorKind.TheVariants.{AuthProviderError}
use Rattle.amqp_promise.specs.declared.state.ConnectionState.{ConnectionState}
use Rattle.amqp_promise.specs.declared.state.ConnectionState.TheVariants.{Connected}
use Rattle.amqp_promise.specs.declared.io_fault.IoFault.{IoFault}
use Rattle.amqp_promise.specs.declared.io_fault.IoFault.TheVariants.{BrokenPipe}
use Rattle.amqp_auth.specs.Providers.{Exchange}
use Rattle.amqp_rules.specs.Talk.{Talk, has_ended, end_of}
use Rattle.amqp_rules.specs.Changes.{next_promise}
use Rattle.amqp_rules.specs.Writing.{frames_waiting, unsent}
use Rattle.amqp_engine.specs.declared.port.Step.{Step}
use Rattle.amqp_engine.specs.Causes.{brought, fault_of}
use Rattle.amqp_engine.specs.Engine.{Engine}
use Rattle.amqp_engine.specs.Log.{Log}
use Rattle.amqp_hub.specs.Entering.{TakesStep, starved_at}
use Rattle.amqp_hub.specs.declared.marks.Mark.{Mark}
use Rattle.amqp_locked.specs.UnderLock.{UnderLock, with_hub, with_cleared}
use Rattle.amqp_locked.specs.Looking.{finds, released, released_times, looked_from}

-- marks are met, those that may be are found, and all that was found is looked at
abbrev pub looked : ℕ → List (ℕ × Mark) → UnderLock → UnderLock
looked at found l = looked_from 0 (released at (finds at found l))

-- nothing waits to go out, and nothing is unsent
abbrev pub all_is_sent : Talk → Bool
all_is_sent t = (frames_waiting t == 0) && (unsent t == 0)

-- each mark that is put off may be found, whatever the moment: the session is not open, or nothing waits to go out
abbrev pub releases_in : ConnectionState → Talk → Bool
releases_in Connected t = all_is_sent t
releases_in _ t = true

-- the same of the state of a session
abbrev pub releases : Talk → Bool
releases t = releases_in t.state t

-- how many promises had been made when nothing waited for the last time: as many as are made, where nothing waits
abbrev pub cleared_after : Talk → ℕ → ℕ
cleared_after t before = if all_is_sent t then next_promise t else before

-- where nothing waits to go out, that is noticed
abbrev pub noticed : UnderLock → UnderLock
noticed l = with_cleared (cleared_after l.hub.engine.talk l.watch.cleared) l

-- where a step ends a session by a fault, either the step brought it about, or the port counts one more; and where it
-- ends by the refusal of a provider, the provider counts one more
pub record Counted (step : Step) (e e' : Engine) (faults faults' refusals refusals' : ℕ) : Type 0 where
  pub of_port : (fault : IoFault) → has_ended e.talk ≡ false → fault_of e'.talk ≡ Some fault
      → (brought step e.talk ≡ Some fault) ⊎ ((fault ≡ BrokenPipe) × Rose faults faults')
  pub of_provider : (text : Text) → has_ended e.talk ≡ false → end_of e'.talk ≡ Some (Err (AuthProviderError text))
      → Rose refusals refusals'

-- marks are met and found, what is due about each that is not done with is done, and then a step is taken, whose turn
-- was cut or was not; last it is noticed where nothing waits to go out
pub record TurnsAfterMarks (is_cut : Bool) (at : ℕ) (step : Step) (bytes : List ℕ) (l l' : UnderLock)
    (log log' : Option Log) (before after : Exchange → Type 0) (faults faults' refusals refusals' : ℕ) : Type 0 where
  pub found : List (ℕ × Mark)
  pub takes : TakesStep is_cut at step bytes (looked at found l).hub.engine l'.hub.engine
      (looked at found l).hub.journal l'.hub.journal log log' before after
  pub counted : Counted step (looked at found l).hub.engine l'.hub.engine faults faults' refusals refusals'
  pub base : l'.hub.base ≡ l.hub.base
  pub counts : l'.hub.counts ≡ l.hub.counts
  pub rest : l' ≡ noticed (with_hub l'.hub (looked at found l))

-- marks are met, some of those that may be are found, and what is due about those from one on is done; then memory is
-- refused, the turn is cut, and last it is noticed where nothing waits to go out
pub record StarvesAfterMarks (at : ℕ) (step : Step) (l l' : UnderLock) : Type 0 where
  pub found : List (ℕ × Mark)
  pub times : ℕ
  pub left : ℕ
  pub starved : let between : UnderLock = looked_from left (released_times times at (finds at found l)) in
      l' ≡ noticed (with_hub (starved_at at step between.hub) between)
