-- Which listed channels stay while a session waits for another link, and as what.
use Rattle.std.specs.Prelude.{ℕ, Bool, true, false, List, filter}
use Rattle.amqp_promise.specs.declared.state.ChannelState.{ChannelState}
use Rattle.amqp_promise.specs.declared.state.ChannelState.TheVariants as channel
use Rattle.amqp_channels.specs.declared.channels.Channel.{Channel}
use Rattle.amqp_maps.specs.Listed.{map_values}
use Rattle.amqp_channels.specs.Channels.{new_channel}

-- a channel that stays listed while the session waits for another link: one that is open, or stays so already
abbrev pub is_kept_in : ChannelState → Bool
is_kept_in channel.Connected = true
is_kept_in channel.Reconnecting = true
is_kept_in _ = false

-- the channel as it stays: as new, with flow and without confirm mode
abbrev pub reconnecting : Channel → Channel
reconnecting c = record (new_channel c.opened) { state = channel.Reconnecting }

-- the channels that stay listed while the session waits for another link
abbrev pub kept : List (ℕ × Channel) → List (ℕ × Channel)
kept channels = map_values reconnecting (filter (λ e. is_kept_in (e.1).state) channels)
