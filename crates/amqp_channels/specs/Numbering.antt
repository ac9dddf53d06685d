-- The numbers of channels, drawn in a cycle.
use Rattle.std.specs.Prelude.{ℕ, ◌+◌, ◌-◌, ◌==◌, ◌||◌, not, nat_lt, if◌then◌else◌, List, ◌++◌, Option, find}
use Rattle.std.specs.List.{range_with_len}
use Rattle.amqp_channels.specs.declared.channels.Channel.{Channel}
use Rattle.amqp_maps.specs.Listed.{has}

-- the cursor, which counts as 1 where it is 0 or above the greatest number
abbrev pub first_number : ℕ → ℕ → ℕ
first_number channel_max cursor = if cursor == 0 || nat_lt channel_max cursor then 1 else cursor

-- the cursor after a number was drawn: the next number, and 0 after the greatest
abbrev pub after : ℕ → ℕ → ℕ
after channel_max n = if nat_lt n channel_max then n + 1 else 0

-- the cycle from a number on: up to the greatest number, and then from 1 on
abbrev pub cycle : ℕ → ℕ → List ℕ
cycle channel_max first = range_with_len first (channel_max + 1 - first) ++ range_with_len 1 (first - 1)

-- the number that is drawn: the first in the cycle that is not listed
abbrev pub drawn : ℕ → ℕ → List (ℕ × Channel) → Option ℕ
drawn channel_max first channels = find (λ n. not (has n channels)) (cycle channel_max first)
