-- What waits to be taken beside the session.
use Rattle.std.specs.Prelude.{◌≡◌, ◌==◌, ℕ, if◌then◌else◌, List, [], ◌∷◌, Option, Some, None}
use Rattle.amqp_answers.specs.declared.event.Event.{Event}
use Rattle.amqp_answers.specs.declared.handed.Handed.{Handed}
use Rattle.amqp_rules.specs.Talk.{Talk}
use Rattle.amqp_rules.specs.Answers.{TakesEvent, take_frames}
use Rattle.amqp_rules.specs.ChannelMethods.{frames_of}
use Rattle.amqp_locked.specs.declared.backlog.Lane.{Lane}

-- the frames that wait here of the channel that a promise opened
abbrev pub frames_kept : ℕ → List Lane → List Handed
frames_kept opened [] = []
frames_kept opened (lane ∷ lanes) =
    if lane.opened == opened then lane.frames.items else frames_kept opened lanes

-- those at a place
abbrev pub frames_at : Option Lane → List Handed
frames_at (Some lane) = lane.frames.items
frames_at None = []

-- there are some, and these are all of them
abbrev pub AreAll : List Handed → List Handed → Type 0
AreAll [] given = ⊥
AreAll (frame ∷ frames) given = given ≡ frame ∷ frames

-- what is taken next of an opening: what waits here, else what the session has handed out
abbrev pub frames_next : List Handed → ℕ → Talk → List Handed
frames_next [] opened t = frames_of opened t
frames_next (frame ∷ frames) opened t = frame ∷ frames

-- the session once that was taken
abbrev pub frames_after : List Handed → ℕ → Talk → Talk
frames_after [] opened t = take_frames opened t
frames_after (frame ∷ frames) opened t = t

-- an event is taken: the first that waits here, else the session's
abbrev pub TakesFirst : Option Event → List Event → List Event → Talk → Talk → Type 0
TakesFirst given [] later t t' = (later ≡ []) × TakesEvent given t t'
TakesFirst given (event ∷ events) later t t' = (given ≡ Some event) × (later ≡ events) × (t' ≡ t)
