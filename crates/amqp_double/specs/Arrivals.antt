-- Frames that came, with the replies to them, as the code keeps them.
use Rattle.std.specs.Prelude.{◌≡◌, ◌≤◌, ℕ, ◌+◌, List, [], ◌∷◌, ◌++◌, length, sum_by}
use Rattle.amqp_frame.specs.declared.frame.Frame.{Frame}
use Rattle.amqp_frame.specs.declared.frame.Read.{Read}
use Rattle.amqp_frame.specs.declared.frame.Read.TheVariants.{Whole, More}
use Rattle.amqp_frame.specs.Sequences.{front_at, IsNoFrame}
use Rattle.amqp_settings.specs.declared.configuration.Configuration.{Configuration}
use Rattle.amqp_double.specs.declared.arrivals.Arrival.{Arrival as Came}
use Rattle.amqp_double.specs.declared.arrivals.Arrivals.{Arrivals}
use Rattle.amqp_double.specs.declared.arrivals.Behind.{Behind}
use Rattle.amqp_double.specs.declared.arrivals.Behind.TheVariants as behind
use Rattle.amqp_double.specs.Replies.{reply_octets}
use Rattle.amqp_double.specs.Doubles.{greatest_limit}

-- a whole frame that was read at a place has some octets, all of them before the end
abbrev pub IsThere : Read → ℕ → ℕ → Type 0
IsThere (Whole f n) place end = (1 ≤ n) × (place + n ≤ end)
IsThere _ place end = Unit {0}

-- it stands at the place, its octets are all there, and this is the reply to it
pub record IsArrival (bytes : List ℕ) (numbers : Configuration) (place : ℕ) (a : Came) : Type 0 where
  pub stands : front_at bytes greatest_limit place ≡ Whole a.frame a.size
  pub some : 1 ≤ a.size
  pub within : place + a.size ≤ length bytes
  pub reply : a.reply.items ≡ reply_octets numbers a.frame

-- they stand one after another, from the first place to the last
abbrev pub Arrive : List ℕ → Configuration → ℕ → List Came → ℕ → Type 0
Arrive bytes numbers start [] end = start ≡ end
Arrive bytes numbers start (a ∷ list) end =
    IsArrival bytes numbers start a × Arrive bytes numbers (start + a.size) list end

-- how long the reply to it is
abbrev pub reply_length : Came → ℕ
reply_length a = length a.reply.items

-- how long the replies are together
abbrev pub replies_length : List Came → ℕ
replies_length list = sum_by reply_length list

-- one frame more is there, with the reply to it
pub record Adds (numbers : Configuration) (f : Frame) (size : ℕ) (old new : Arrivals) : Type 0 where
  pub arrival : Came
  pub frame : arrival.frame ≡ f
  pub octets : arrival.size ≡ size
  pub reply : arrival.reply.items ≡ reply_octets numbers f
  pub list : new.list.items ≡ old.list.items ++ arrival ∷ []
  pub replies : new.replies ≡ old.replies + reply_length arrival

-- what stands at a place is no whole frame
abbrev pub IsBehind : List ℕ → ℕ → Behind → Type 0
IsBehind bytes place behind.More = front_at bytes greatest_limit place ≡ More
IsBehind bytes place behind.NoFrame = IsNoFrame (front_at bytes greatest_limit place)

-- all frames that are whole, from a place on
pub record AreArrivals (bytes : List ℕ) (numbers : Configuration) (start : ℕ) (a : Arrivals) : Type 0 where
  pub end : ℕ
  pub arrive : Arrive bytes numbers start a.list.items end
  pub replies : a.replies ≡ replies_length a.list.items
  pub behind : IsBehind bytes end a.behind
