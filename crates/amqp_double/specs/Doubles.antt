-- What a server double reads of its client's octets, and what it answers to them.
use Rattle.std.specs.Prelude.{◌≡◌, ◌≤◌, ℕ, Bool, false, List, [], ◌∷◌, ◌++◌, length, drop, Option, Some, None}
use Rattle.amqp_frame.specs.declared.frame.Frame.{Frame}
use Rattle.amqp_frame.specs.declared.frame.Read.TheVariants.{Whole, More}
use Rattle.amqp_frame.specs.Sequences.{front_at, Stand, IsNoFrame}
use Rattle.amqp_legal.specs.Legal.{Legal}
use Rattle.amqp_settings.specs.declared.configuration.Configuration.{Configuration}
use Rattle.amqp_double.specs.declared.refusal.Refusal.{Refusal}
use Rattle.amqp_double.specs.declared.refusal.Refusal.TheVariants.{BadBytes, Unexpected}
use Rattle.amqp_double.specs.Replies.{all_replies, ends_closed}

-- the greatest limit: of sizes only one that no limit admits is refused
abbrev pub greatest_limit : ℕ
greatest_limit = 4294967295

-- a double
pub record DoubleState : Type 0 where
  -- those of its tune
  pub numbers : Configuration
  -- the octets that its client said
  pub client : List ℕ
  -- how many of them are the frames that it read, and how many frames these are
  pub read : ℕ
  pub frames : ℕ
  -- why it reads no further
  pub refusal : Option Refusal
  -- the octets that it answered, and how many of them were sent
  pub said : List ℕ
  pub sent : ℕ
  -- the last frame that it read is a close of the connection, or its close-ok
  pub closed : Bool

-- a double that heard nothing
abbrev pub fresh : Configuration → DoubleState
fresh numbers =
    record {
      numbers = numbers;
      client = [];
      read = 0;
      frames = 0;
      refusal = None;
      said = [];
      sent = 0;
      closed = false;
    }

-- a double whose client said these octets
abbrev pub with_client : List ℕ → DoubleState → DoubleState
with_client client d = record d { client = client }

-- it read these frames of its client: they stand at the front of the octets, and are a legal conversation. What it
-- said are the replies to them, in order
pub record HasAnswered (frames : List Frame) (d : DoubleState) : Type 0 where
  pub stand : Stand d.client greatest_limit 0 frames d.read
  pub legal : Legal frames
  pub count : d.frames ≡ length frames
  pub said : d.said ≡ all_replies d.numbers frames
  pub sent : d.sent ≤ length d.said
  pub closed : d.closed ≡ ends_closed frames

-- a frame stands at this place, and with it the frames are no legal conversation
pub record IsUnexpected (client : List ℕ) (place : ℕ) (frames : List Frame) : Type 0 where
  pub frame : Frame
  pub size : ℕ
  pub stands : front_at client greatest_limit place ≡ Whole frame size
  pub illegal : Legal (frames ++ frame ∷ []) → ⊥

-- why nothing is read behind the frames, which end at the place: no whole frame stands there yet; or none does,
-- whatever follows; or one that the client may not say, of this number, counted from 0
abbrev pub StopsBehind : List ℕ → ℕ → List Frame → Option Refusal → Type 0
StopsBehind client place frames None = front_at client greatest_limit place ≡ More
StopsBehind client place frames (Some (BadBytes p)) = (p ≡ place) × IsNoFrame (front_at client greatest_limit place)
StopsBehind client place frames (Some (Unexpected i)) = (i ≡ length frames) × IsUnexpected client place frames

-- it answered all frames up to the first that is not whole, is none, or may not be said
abbrev pub AnswersClient : DoubleState → Type 0
AnswersClient d = (frames : List Frame) × HasAnswered frames d × StopsBehind d.client d.read frames d.refusal

-- more was said, behind what had been said, and at most so many octets
pub record SaysMore (most : ℕ) (old new : List ℕ) : Type 0 where
  pub more : List ℕ
  pub behind : new ≡ old ++ more
  pub within : length more ≤ most

-- some more was said, or nothing
pub record SaysOn (old new : List ℕ) : Type 0 where
  pub more : List ℕ
  pub behind : new ≡ old ++ more

-- the octets that were not sent
abbrev pub unsent_of : DoubleState → List ℕ
unsent_of d = drop d.sent d.said
