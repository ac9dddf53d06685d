-- Events: what a session keeps for those who listen.
use Rattle.std.specs.Prelude.{ℕ, Bool, true, false, List, [], ◌∷◌, ◌++◌, Option, Some, None}
use Rattle.amqp_types.specs.Codes.{NamedError}
use Rattle.amqp_promise.specs.declared.error.ErrorKind.TheVariants.{ProtocolError}
use Rattle.amqp_answers.specs.declared.event.Event.{Event}
use Rattle.amqp_answers.specs.declared.event.Event.TheVariants as event
use Rattle.amqp_maps.specs.Listed.{at, put, without}

-- what is kept for those who listen
pub record Noted : Type 0 where
  -- someone listens, and events are kept from then on
  pub listens : Bool
  -- the events that are kept and were not taken, in order, but for that of the end
  pub events : List Event
  -- the event of an end by an error, which is the last, is kept and was not taken
  pub tells_end : Bool
  -- the errors with which the server closed channels, by channel, until our close-ok is sent
  pub owed : List (ℕ × NamedError)

-- at the beginning nobody listens
abbrev pub unheard : Noted
unheard = record { listens = false; events = []; tells_end = false; owed = [] }

-- the events that are kept, once another came: it is kept where someone listens
abbrev pub events_kept : Bool → Event → List Event → List Event
events_kept true event events = events ++ event ∷ []
events_kept false event events = events

-- an event came
abbrev pub event_noted : Event → Noted → Noted
event_noted event n = record n { events = events_kept n.listens event n.events }

-- the errors that are owed, once the server closed a channel: with an error, or without one
abbrev pub owing : ℕ → Option NamedError → List (ℕ × NamedError) → List (ℕ × NamedError)
owing n None owed = owed
owing n (Some e) owed = put n e owed

-- the server closed a channel: with an error, or without one
abbrev pub owe_event : ℕ → Option NamedError → Noted → Noted
owe_event n error noted = record noted { owed = owing n error noted.owed }

-- the events that are kept, once our close-ok was sent on a channel that the server closed: with an error, or without
abbrev pub told : Bool → Option NamedError → List Event → List Event
told listens None events = events
told listens (Some e) events = events_kept listens (event.Error (ProtocolError e)) events

-- our close-ok was sent on a channel, and the error that is owed there is told
abbrev pub paid : ℕ → Noted → Noted
paid n noted = record noted { owed = without n noted.owed; events = told noted.listens (at n noted.owed) noted.events }

-- nothing is owed any more
abbrev pub forgotten : Noted → Noted
forgotten noted = record noted { owed = [] }

-- the session ended by an error
abbrev pub failed : Noted → Noted
failed noted = record noted { owed = []; tells_end = noted.listens }
