-- What can be taken of the state of a session, and what stays known of it through the rules.
use Rattle.std.specs.Prelude.{◌≡◌, ◌⊎◌, ℕ, ◌+◌, ◌<◌, Bool, IsSome, List, [], ◌∷◌, ◌++◌, Option, Result, unwrap_or}
use Rattle.amqp_promise.specs.declared.error.ErrorKind.{ErrorKind}
use Rattle.amqp_answers.specs.declared.answer.Answer.{Answer}
use Rattle.amqp_answers.specs.declared.handed.Handed.{Handed}
use Rattle.amqp_answers.specs.declared.event.Event.{Event}
use Rattle.amqp_settings.specs.Config.{Config}
use Rattle.amqp_answers.specs.Settled.{Promises, settled, rejected_all}
use Rattle.amqp_answers.specs.Events.{events_kept}
use Rattle.amqp_maps.specs.Listed.{at, put}
use Rattle.amqp_rules.specs.Talk.{Talk}

-- what can be taken of a state: answers, frames that were handed out, and events
pub record Untaken : Type 0 where
  pub promises : Promises
  pub handed : List (ℕ × List Handed)
  pub events : List Event
  pub tells_end : Bool

-- what of a state was not taken
abbrev pub untaken : Talk → Untaken
untaken t = record { promises = t.promises; handed = t.handed; events = t.noted.events; tells_end = t.noted.tells_end }

-- a state of which this was not taken
abbrev pub with_untaken : Untaken → Talk → Talk
with_untaken u t =
    record t {
      promises = u.promises;
      handed = u.handed;
      noted = record t.noted { events = u.events; tells_end = u.tells_end };
    }

-- the frames handed out, once another was, of a channel that a promise opened
abbrev pub handed_over : ℕ → Handed → List (ℕ × List Handed) → List (ℕ × List Handed)
handed_over opened h frames = put opened (unwrap_or (at opened frames) [] ++ h ∷ []) frames

-- ---- what is known of the parts

-- what is known of these parts of two states, of how many promises were made and of what the session was made from,
-- stays known whichever way the rules change them
pub record IsClosed (R : ℕ → Config → Untaken → Untaken → Type 0) : Type 0 where
  -- a promise got an answer, or each that waits, but the connection's, got an error
  pub settled : (made : ℕ) (config : Config) (n : ℕ) (a : Result Answer ErrorKind) (v u : Untaken) → R made config v u
      → R made config (record v { promises = settled n a v.promises })
      (record u { promises = settled n a u.promises })
  pub rejected : (made : ℕ) (config : Config) (e : ErrorKind) (v u : Untaken) → R made config v u
      → R made config (record v { promises = rejected_all e v.promises })
      (record u { promises = rejected_all e u.promises })
  -- a promise is made
  pub put : (made : ℕ) (config : Config) (slot : Option (Result Answer ErrorKind)) (v u : Untaken) → R made config v u
      → R (made + 1) config (record v { promises = put made slot v.promises })
      (record u { promises = put made slot u.promises })
  -- a frame is handed out
  pub handed : (made : ℕ) (config : Config) (opened : ℕ) (h : Handed) (v u : Untaken) → R made config v u
      → R made config (record v { handed = handed_over opened h v.handed })
      (record u { handed = handed_over opened h u.handed })
  -- an event comes, and the end is one
  pub noted : (made : ℕ) (config : Config) (listens : Bool) (e : Event) (v u : Untaken) → R made config v u
      → R made config (record v { events = events_kept listens e v.events })
      (record u { events = events_kept listens e u.events })
  pub failed : (made : ℕ) (config : Config) (listens : Bool) (v u : Untaken) → R made config v u
      → R made config (record v { tells_end = listens }) (record u { tells_end = listens })

-- two states that are alike but for these parts, of which that is known
pub record Tied (R : ℕ → Config → Untaken → Untaken → Type 0) (f t : Talk) : Type 0 where
  pub same : t ≡ with_untaken (untaken t) f
  pub parts : R f.made f.config (untaken f) (untaken t)

-- each promise that was made is there, or is one of those that are gone
abbrev pub AllThere : (ℕ → Type 0) → ℕ → Promises → Type 0
AllThere Gone made promises = (number : ℕ) → number < made → IsSome (at number promises) ⊎ Gone number
