-- What a run over a joined port comes to.
use Rattle.std.specs.Prelude.{◌≡◌, ◌≤◌, ◌<◌, ℕ, ◌-◌, ◌^◌, if◌then◌else◌, true, List, [], ◌∷◌, map, Some, None, Ok}
use Rattle.amqp_auth.specs.Providers.{Exchange}
use Rattle.amqp_settings.specs.declared.configuration.Configuration.{Configuration}
use Rattle.amqp_rules.specs.Talk.{Talk, end_of}
use Rattle.amqp_faultless.specs.Faultless.{is_frame_max}
use Rattle.amqp_written_rules.specs.Sayable.{AreInRange, CanBeSaid}
use Rattle.amqp_engine.specs.Account.{IsNew}
use Rattle.amqp_engine.specs.Engine.{Engine, begin}
use Rattle.amqp_engine.specs.Turn.{Turn, wants_ask}
use Rattle.amqp_engine.specs.Sending.{sendings}
use Rattle.amqp_engine.specs.Tell.{Runs, RunsLent}
use Rattle.amqp_double.specs.Doubles.{fresh}
use Rattle.amqp_joining.specs.Plans.{JoinPlan, IsPlan, turns_of}
use Rattle.amqp_joining.specs.Joining.{JoinsTurns}
use Rattle.amqp_both_ends.specs.TwoEnds.{Closes, unasked}
use Rattle.amqp_joined.specs.Ports.{JoinedState, joined_new}

-- some turns were taken, as many as are allowed or fewer where the session ended; each is a turn over the port, as its
-- plan has it, and what the port took is on its one link
pub record RunsJoined (allowed : ℕ) (e e' : Engine) (old new : JoinedState) : Type 0 where
  pub runs : Runs allowed e e' (Some old.log) (Some new.log)
  pub joins : JoinsTurns runs.us e unasked old.join new.join
  pub links : new.log.links ≡ (if new.join.linked then new.join.taken ∷ [] else [])

-- the same turns, which may have been taken over any port; what was asked in them may come from the provider, and over
-- a new port, of an engine that asks for a link, each is one by its plan
pub record TakesJoined (allowed : ℕ) (e e' : Engine) (old new : JoinedState) (before after : Exchange → Type 0)
    : Type 0 where
  pub lent : RunsLent allowed e e' (Some old.log) (Some new.log) before after
  pub joins : (numbers : Configuration) (plan : JoinPlan) → old ≡ joined_new (fresh numbers) plan
      → wants_ask e ≡ true → allowed < 2 ^ 64 - 1 → JoinsTurns lent.runs.us e unasked old.join new.join

-- a new session, an engine of it, and a new port to a new double with these numbers, by a plan
pub record AreNewEnds (t : Talk) (numbers : Configuration) (plan : JoinPlan) (e : Engine) (port : JoinedState)
    : Type 0 where
  pub session : IsNew t
  pub address : CanBeSaid t.config
  pub engine : e ≡ begin t
  pub range : AreInRange numbers
  pub frame_max : is_frame_max numbers.frame_max ≡ true
  pub is_plan : IsPlan plan
  pub joined : port ≡ joined_new (fresh numbers) plan

-- there are as many turns as a plan takes, or more, and they can be counted
pub record AreEnough (allowed : ℕ) (plan : JoinPlan) : Type 0 where
  pub enough : turns_of plan ≤ allowed
  pub counted : allowed < 2 ^ 64 - 1

-- these turns, with no note that one was cut
abbrev pub uncut : List Turn → List Turn
uncut us = map (λ (u : Turn). record u { notes = record u.notes { starved = None } }) us

-- such a run, of a new session, which ended without an error, and after which both ends are closed. Where memory was
-- refused, that was in its last turn, once the session had ended there: but for that note its turns, which sent the
-- same, are those of ends that close. What the port took is on its one link
pub record RunsClosed (allowed : ℕ) (t : Talk) (e : Engine) (old new : JoinedState) : Type 0 where
  pub joined : RunsJoined allowed (begin t) e old new
  pub over : end_of e.talk ≡ Some (Ok tt)
  pub closes : Closes t (uncut joined.runs.us) new.join
  pub sent : sendings t (uncut joined.runs.us) ≡ sendings t joined.runs.us
  pub link : new.log.links ≡ new.join.taken ∷ []
