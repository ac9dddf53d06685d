-- What is printed of both ends joined, by the plan of a number.
use Rattle.std.specs.Prelude.{◌≡◌, ℕ, List, [], ◌∷◌, ◌++◌, length, Option, Some, Result, Ok, codes}
use Rattle.amqp_promise.specs.declared.error.ErrorKind.{ErrorKind}
use Rattle.amqp_uri.specs.Address.{local}
use Rattle.amqp_settings.specs.Config.{config_of, no_options}
use Rattle.amqp_rules.specs.Talk.{Talk, start, end_of}
use Rattle.amqp_engine.specs.Engine.{Engine, begin}
use Rattle.amqp_replay.specs.Report.{Printout}
use Rattle.amqp_replay.specs.Summary.{sent_text, answered_text, summary}
use Rattle.amqp_replay.specs.Top.{end_status, Prints}
use Rattle.amqp_double.specs.Doubles.{fresh}
use Rattle.amqp_joining.specs.Plans.{turns_of}
use Rattle.amqp_joined.specs.Ports.{JoinedState, joined_new, kept_plan}
use Rattle.amqp_joined.specs.JoinedRuns.{RunsClosed}
use Rattle.amqp_doubled.specs.Numbers.{doubled_plan, double_numbers}

-- the line of a session that ended Closed: how many octets were sent, and how many answers are no errors
abbrev pub summary_line : ℕ → ℕ → List ℕ
summary_line sent answered = sent_text sent ++ (answered_text answered ++ codes "end closed\n")

-- the summary of a session that ended Closed, and of no other
abbrev pub closed_text : Option (Result (Unit {0}) ErrorKind) → ℕ → Talk → List ℕ
closed_text (Some (Ok closed)) sent t = summary sent t
closed_text _ sent t = []

-- what is printed of a session whose link took so many octets
abbrev pub doubled_printout : ℕ → Talk → Printout
doubled_printout sent t = record { status = end_status (end_of t); text = closed_text (end_of t) sent t }

-- a port to a new double with these numbers, by the plan of a number
abbrev pub doubled_port : ℕ → JoinedState
doubled_port count = joined_new (fresh double_numbers) (doubled_plan count)

-- the session of the address of this machine
abbrev pub doubled_talk : Talk
doubled_talk = start (config_of local no_options)

-- its engine
abbrev pub doubled_engine : Engine
doubled_engine = begin doubled_talk

-- a new engine ran over the port of a number, in as many turns as its plan takes at most; both ends were closed then,
-- and this is printed of it, by what the one link took
pub record IsDoubled (count : ℕ) (p : Printout) : Type 0 where
  pub e : Engine
  pub port : JoinedState
  pub closed : RunsClosed (turns_of (doubled_plan count)) doubled_talk e (doubled_port count) port
  pub kept : kept_plan port ≡ kept_plan (doubled_port count)
  pub link : List ℕ
  pub links : port.log.links ≡ link ∷ []
  pub printed : p ≡ doubled_printout (length link) e.talk

-- both ends of the plan of a number were joined, and the sink took what is printed of that
pub record Doubles (count : ℕ) (before after : Option (List ℕ)) (status : ℕ) : Type 0 where
  pub printout : Printout
  pub is : IsDoubled count printout
  pub prints : Prints printout before after status
