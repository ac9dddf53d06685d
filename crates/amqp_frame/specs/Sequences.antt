-- Frames one after another in octets, as a peer sends them (AMQP 0-9-1, 4.2.3): where they stand, and how octets end
-- behind them. A place is a number of octets from the start.
use Rattle.std.specs.Prelude.{◌≡◌, ℕ, ◌+◌, ◌<◌, Bool, true, false, List, [], ◌∷◌, length, drop, ⊤}
use Rattle.amqp_frame.specs.declared.frame.Frame.{Frame}
use Rattle.amqp_frame.specs.declared.frame.Read.{Read}
use Rattle.amqp_frame.specs.declared.frame.Read.TheVariants.{Whole, More, TooLarge, BadHeartbeat, Bad}
use Rattle.amqp_frame.specs.FrameReading.{front}

-- nothing can be said before more octets come
abbrev pub is_more : Read → Bool
is_more More = true
is_more _ = false

-- no frame, whatever follows
abbrev pub IsNoFrame : Read → Type 0
IsNoFrame (TooLarge size) = ⊤
IsNoFrame (BadHeartbeat channel) = ⊤
IsNoFrame Bad = ⊤
IsNoFrame _ = ⊥

-- what stands at a place of the octets, given the limit of a frame
abbrev pub front_at : List ℕ → ℕ → ℕ → Read
front_at bytes limit place = front (drop place bytes) limit

-- these frames stand one after another, from the first place to the last
abbrev pub Stand : List ℕ → ℕ → ℕ → List Frame → ℕ → Type 0
Stand bytes limit start [] end = start ≡ end
Stand bytes limit start (f ∷ frames) end =
    (n : ℕ) × (front_at bytes limit start ≡ Whole f n) × Stand bytes limit (start + n) frames end

-- how octets end behind whole frames
pub data SequenceEnd : Type 0 where
  -- with the last of them: nothing is left
  Complete : SequenceEnd
  -- in the midst of a frame
  Cut : SequenceEnd
  -- in what is no frame, whatever follows
  Broken : SequenceEnd

-- the octets end so behind the place, where the last whole frame ends
abbrev pub EndsAt : List ℕ → ℕ → ℕ → SequenceEnd → Type 0
EndsAt bytes limit place Complete = place ≡ length bytes
EndsAt bytes limit place Cut = (place < length bytes) × (front_at bytes limit place ≡ More)
EndsAt bytes limit place Broken = IsNoFrame (front_at bytes limit place)

-- the octets are these whole frames, up to the place, and end so behind them
abbrev pub IsSequence : List ℕ → ℕ → List Frame → ℕ → SequenceEnd → Type 0
IsSequence bytes limit frames place ending = Stand bytes limit 0 frames place × EndsAt bytes limit place ending
