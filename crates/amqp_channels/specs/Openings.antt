-- Which promise opened which listed channel, as the code keeps it beside the channels: a number at each such promise.
use Rattle.std.specs.Prelude.{◌≡◌, ℕ, ◌==◌, Bool, false, List, Option, Some, None, option_map}
use Rattle.amqp_channels.specs.declared.channels.Channel.{Channel}
use Rattle.amqp_maps.specs.Listed.{at}

-- this number, where there is one
abbrev pub is_number : ℕ → Option ℕ → Bool
is_number n None = false
is_number n (Some m) = m == n

-- the promise that opened the listed channel of a number
abbrev pub opener : ℕ → List (ℕ × Channel) → Option ℕ
opener n listed = option_map (λ (c : Channel). c.opened) (at n listed)

-- a promise has a number exactly where it opened the listed channel of that number
abbrev pub Indexes : List (ℕ × ℕ) → List (ℕ × Channel) → Type 0
Indexes openings listed = (p n : ℕ) → is_number n (at p openings) ≡ is_number p (opener n listed)
