-- The listed channels in the state of a session.
use Rattle.std.specs.Prelude.{ℕ, Option}
use Rattle.amqp_channels.specs.declared.channels.Channel.{Channel}
use Rattle.amqp_maps.specs.Listed.{at, put}
use Rattle.amqp_rules.specs.Talk.{Talk}

-- the listed channel of a number
abbrev pub channel_at : ℕ → Talk → Option Channel
channel_at n t = at n t.channels

-- a listed channel changes
abbrev pub set_channel : ℕ → Channel → Talk → Talk
set_channel n c t = record t { channels = put n c t.channels }
