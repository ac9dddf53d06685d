-- Answers: what a promise gives, and that it gives it once; and so with events.
use Rattle.std.specs.Prelude.{◌≡◌, ◌⊎◌, ℕ, if◌then◌else◌, Bool, true, false, IsTrue, List, [], ◌∷◌, ◌++◌, Option, Some, None, is_some, Result, Ok, Err, slice_get}
use Rattle.amqp_promise.specs.declared.state.ConnectionState.TheVariants.{Closed}
use Rattle.amqp_answers.specs.declared.answer.Answer.{Answer}
use Rattle.amqp_promise.specs.declared.error.ErrorKind.{ErrorKind}
use Rattle.amqp_promise.specs.declared.error.ErrorKind.TheVariants.{InvalidConnectionState, NoMemory}
use Rattle.amqp_answers.specs.declared.event.Event.{Event}
use Rattle.amqp_answers.specs.declared.event.Event.TheVariants as told
use Rattle.amqp_maps.specs.Listed.{at, without}
use Rattle.amqp_rules.specs.Talk.{Talk, end_of}
use Rattle.amqp_answers.specs.Settled.{IsRejected}

-- how the end answers a promise that still waits
abbrev pub rejection : Option (Result (Unit {0}) ErrorKind) → Option (Result Answer ErrorKind)
rejection None = None
rejection (Some (Ok closed)) = Some (Err (InvalidConnectionState Closed))
rejection (Some (Err e)) = Some (Err e)

-- the untaken answer of a promise, as it stands, or as the end gives it
abbrev pub answer_in :
    Option (Result (Unit {0}) ErrorKind) → Option (Option (Result Answer ErrorKind)) →
    Option (Result Answer ErrorKind)
answer_in ended None = None
answer_in ended (Some None) = rejection ended
answer_in ended (Some (Some answer)) = Some answer

-- the untaken answer to a promise
abbrev pub answer_of : ℕ → Talk → Option (Result Answer ErrorKind)
answer_of number t = answer_in (end_of t) (at number t.promises)

-- an answer is taken once, and its promise is then forgotten
abbrev pub take_answer : ℕ → Talk → Talk
take_answer number t =
    if is_some (answer_of number t)
    then record t { promises = without number t.promises }
    else t

-- what is kept is handed out; where it is an error, memory for its copy may be refused, which is then told in its place
abbrev pub HandsOut : {A : Type 0} → Option (Result A ErrorKind) → Option (Result A ErrorKind) → Type 0
HandsOut (Some (Err e)) given = (given ≡ Some (Err e)) ⊎ (given ≡ Some (Err NoMemory))
HandsOut kept given = given ≡ kept

-- the session ended with an error
abbrev pub IsFailed : Option (Result (Unit {0}) ErrorKind) → Type 0
IsFailed ended = (e : ErrorKind) × (ended ≡ Some (Err e))

-- an answer is taken, and where memory for the copy of an error is refused, it can still be taken
abbrev pub Takes : ℕ → Option (Result Answer ErrorKind) → Talk → Talk → Type 0
Takes number given before after =
    ((given ≡ answer_of number before) × (after ≡ take_answer number before))
    ⊎ (IsRejected (answer_of number before) × (given ≡ Some (Err NoMemory)) × (after ≡ before))

-- ---- events

-- the event of an end by an error, where it is kept and was not taken
abbrev pub end_event : Bool → Option (Result (Unit {0}) ErrorKind) → List Event
end_event true (Some (Err e)) = told.Error e ∷ []
end_event tells ended = []

-- the events that are kept and were not taken, in order
abbrev pub events_of : Talk → List Event
events_of t = t.noted.events ++ end_event t.noted.tells_end (end_of t)

-- the first event that was not taken
abbrev pub event_of : Talk → Option Event
event_of t = slice_get (events_of t) 0

-- the events, once the first is taken: of those that are kept, else that of the end
abbrev pub without_event : List Event → List Event → Talk → Talk
without_event (event ∷ later) at_end t = record t { noted = record t.noted { events = later } }
without_event [] (event ∷ later) t = record t { noted = record t.noted { tells_end = false } }
without_event [] [] t = t

-- an event is taken once
abbrev pub take_event : Talk → Talk
take_event t = without_event t.noted.events (end_event t.noted.tells_end (end_of t)) t

-- the event that is next is that of the end, whose error is kept once, and copied
abbrev pub TellsEnd : Talk → Type 0
TellsEnd t = (t.noted.events ≡ []) × IsTrue t.noted.tells_end × IsFailed (end_of t)

-- an event is taken, and where memory for the copy of the error of the end is refused, it can still be taken
abbrev pub TakesEvent : Option Event → Talk → Talk → Type 0
TakesEvent given before after =
    ((given ≡ event_of before) × (after ≡ take_event before))
    ⊎ (TellsEnd before × (given ≡ Some (told.Error NoMemory)) × (after ≡ before))

-- ---- frames that were handed out

-- the frames of an opening are taken, all that were handed out so far
abbrev pub take_frames : ℕ → Talk → Talk
take_frames opened t = record t { handed = without opened t.handed }
