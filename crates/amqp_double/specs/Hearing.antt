-- What was heard, as the code keeps it.
use Rattle.std.specs.Prelude.{◌≡◌, ℕ, List, drop, None, IsTrue, is_some}
use Rattle.amqp_frame.specs.declared.frame.Frame.{Frame}
use Rattle.amqp_legal.specs.Speeches.{HasSaid}
use Rattle.amqp_double.specs.declared.heard.Heard.{Heard}
use Rattle.amqp_double.specs.declared.arrivals.Arrival.{Arrival as Came}
use Rattle.amqp_double.specs.Arrivals.{Arrive}
use Rattle.amqp_double.specs.Doubles.{DoubleState, HasAnswered, StopsBehind}

-- the double that is kept so
abbrev pub double_of : Heard → DoubleState
double_of h =
    record {
      numbers = h.numbers;
      client = h.client.items;
      read = h.read;
      frames = h.frames;
      refusal = h.refusal;
      said = h.said.items;
      sent = h.sent;
      closed = h.closed;
    }

-- these frames were read and answered, and the speech says those behind the protocol header
pub record HasRead (frames : List Frame) (h : Heard) : Type 0 where
  pub answered : HasAnswered frames (double_of h)
  pub speech : HasSaid (drop 1 frames) h.speech

-- all that could be read was, unless something is refused
abbrev pub HeardAll : Heard → Type 0
HeardAll h = (frames : List Frame) × HasRead frames h × StopsBehind h.client.items h.read frames h.refusal

-- nothing was heard and nothing was said, though there may be more room for it
pub record Unchanged (old new : Heard) : Type 0 where
  pub state : double_of new ≡ double_of old
  pub speech : new.speech ≡ old.speech

-- what stays while frames are taken
pub record Kept (old new : Heard) : Type 0 where
  pub numbers : new.numbers ≡ old.numbers
  pub client : new.client.items ≡ old.client.items
  pub sent : new.sent ≡ old.sent

-- of frames that came all were taken, up to an end, or one was refused
abbrev pub HasTaken : Heard → List Came → Heard → Type 0
HasTaken old list new =
    (frames : List Frame) × HasRead frames new
    × ((new.refusal ≡ None → (end : ℕ) → Arrive old.client.items old.numbers old.read list end → new.read ≡ end)
    × (IsTrue (is_some new.refusal) → StopsBehind new.client.items new.read frames new.refusal))
