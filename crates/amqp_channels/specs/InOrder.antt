-- The listed channels as the code goes over them, by ascending number.
use Rattle.std.specs.Prelude.{ℕ, nat_lt, nat_le, Bool, true, List, filter, Option, Some, None}
use Rattle.std.specs.Map.{keys_of}
use Rattle.amqp_channels.specs.declared.channels.Channel.{Channel}

-- a number comes after the last, or is any where there is no last
abbrev pub is_after : Option ℕ → ℕ → Bool
is_after None n = true
is_after (Some last) n = nat_lt last n

-- the channels that come after the last
abbrev pub listed_after : Option ℕ → List (ℕ × Channel) → List (ℕ × Channel)
listed_after last listed = filter (λ e. is_after last e.0) listed

-- the channels whose numbers are agreed: none is above the greatest
abbrev pub agreed : ℕ → List (ℕ × Channel) → List (ℕ × Channel)
agreed channel_max listed = filter (λ e. nat_le e.0 channel_max) listed

-- the agreed numbers after the last: those of the channels that are still to be opened again
abbrev pub numbers_after : Option ℕ → ℕ → List (ℕ × Channel) → List ℕ
numbers_after last channel_max listed = filter (λ n. nat_le n channel_max) (keys_of (listed_after last listed))
