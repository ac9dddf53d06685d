-- What the callers do with a session, in the words of its rules.
use Rattle.std.specs.Prelude.{ℕ, ◌-◌, min, Bool, true, false, List, [], Option, Some, None}
use Rattle.amqp_frame.specs.declared.frame.Read.{Read}
use Rattle.amqp_frame.specs.declared.frame.Read.TheVariants as reading
use Rattle.amqp_frame.specs.declared.frame.RawKind.TheVariants.{Body}
use Rattle.amqp_frame.specs.declared.frame.RawKind.{RawKind}
use Rattle.amqp_frame.specs.Frames.{encoding}
use Rattle.amqp_frame.specs.FrameReading.{front}
use Rattle.amqp_outbox.specs.declared.item.Item.{Item}
use Rattle.amqp_answers.specs.declared.handed.Handed.{Handed}
use Rattle.amqp_violations.specs.declared.misread.Misread.TheVariants.{TooLarge, BadHeartbeat, Bad}
use Rattle.amqp_rules.specs.Talk.{Talk}
use Rattle.amqp_rules.specs.Changes.{present_at, starve}
use Rattle.amqp_rules.specs.Negotiation.{frame_limit}
use Rattle.amqp_rules.specs.Links.{misread}
use Rattle.amqp_rules.specs.Frames.{on_frame, frame_questions}
use Rattle.amqp_auth.specs.declared.asked.Question.{Question}
use Rattle.amqp_auth.specs.declared.asked.Asked.{Asked}
use Rattle.amqp_rules.specs.Writing.{unsent, next_within}

-- the space for the next frame, where so many octets can still be put somewhere
abbrev pub space_in : ℕ → Talk → ℕ
space_in free t = min free (t.capacity - unsent t)

-- the octets of a frame that goes out, where one does
abbrev pub item_octets : Option Item → List ℕ
item_octets None = []
item_octets (Some item) = encoding item.frame

-- the octets of the next frame, where it fits
abbrev pub next_octets : ℕ → Talk → List ℕ
next_octets free t = item_octets (next_within (space_in free t) t)

-- what stands at the front of octets, within the limit that was agreed
abbrev pub stands_in : List ℕ → Talk → Read
stands_in octets t = front octets (frame_limit t)

-- what stood at the front, at a place, is told to the session, with the answers to what that asks
abbrev pub heard : Read → ℕ → ℕ → List Asked → Talk → Talk
heard (reading.Whole f n) place at answers t = on_frame f answers (present_at at t)
heard reading.More place at answers t = t
heard (reading.TooLarge size) place at answers t = misread (TooLarge size) (present_at at t)
heard (reading.BadHeartbeat channel) place at answers t = misread (BadHeartbeat channel) (present_at at t)
heard reading.Bad place at answers t = misread (Bad place) (present_at at t)
heard reading.NoMemory place at answers t = starve (present_at at t)

-- what that asks
abbrev pub asked_of : Read → ℕ → Talk → List Question
asked_of (reading.Whole f n) at t = frame_questions f (present_at at t)
asked_of _ at t = []

-- how many octets were read of it
abbrev pub read_of : Read → ℕ
read_of (reading.Whole f n) = n
read_of _ = 0

-- the kind of a content body
abbrev pub is_body_kind : RawKind → Bool
is_body_kind Body = true
is_body_kind _ = false

-- a content body was handed out
abbrev pub is_body : Handed → Bool
is_body h = is_body_kind h.kind
