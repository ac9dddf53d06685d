-- How many listed channels are without flow, as the code counts them beside the channels.
use Rattle.std.specs.Prelude.{ℕ, if◌then◌else◌, List}
use Rattle.std.specs.List.{sum_by}
use Rattle.std.specs.Map.{values_of}
use Rattle.amqp_channels.specs.declared.channels.Channel.{Channel}

-- a channel without flow counts for 1
abbrev pub stops : Channel → ℕ
stops c = if c.flow then 0 else 1

-- how many listed channels are without flow
abbrev pub count_stopped : List (ℕ × Channel) → ℕ
count_stopped listed = sum_by stops (values_of listed)
