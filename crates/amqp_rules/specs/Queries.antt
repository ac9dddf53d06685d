-- What is told of a channel, and what `Debug` prints of a session.
use Rattle.std.specs.Prelude.{ℕ, Bool, false, List, ◌++◌, length, codes, Option, Some, None, option_map, unwrap_or}
use Rattle.std.specs.Fmt.{decimal}
use Rattle.amqp_promise.specs.Errors.{state_name}
use Rattle.amqp_promise.specs.declared.state.ConnectionState.{ConnectionState}
use Rattle.amqp_promise.specs.declared.state.ConnectionState.TheVariants.{Error}
use Rattle.amqp_promise.specs.declared.state.ChannelState.{ChannelState}
use Rattle.amqp_promise.specs.declared.state.ChannelState.TheVariants as channel
use Rattle.amqp_channels.specs.declared.channels.Channel.{Channel}
use Rattle.amqp_commands.specs.declared.command.ChanRef.{ChanRef}
use Rattle.amqp_rules.specs.Talk.{Talk}
use Rattle.amqp_channels.specs.Channels.{opening_in}
use Rattle.amqp_rules.specs.Commands.{named}

-- the state of a channel that is gone: Error where the session ended with an error, and else Closed
abbrev pub gone_in : ConnectionState → ChannelState
gone_in Error = channel.Error
gone_in _ = channel.Closed

-- the state of a listed channel, or of one that is gone
abbrev pub state_of : Option Channel → Talk → ChannelState
state_of None t = gone_in t.state
state_of (Some c) t = c.state

-- the state of a channel, also of one that is gone
abbrev pub channel_state : ChanRef → Talk → ChannelState
channel_state r t = state_of (named r t) t

-- whether what is published on a channel is confirmed
abbrev pub confirm : ChanRef → Talk → Bool
confirm r t = unwrap_or (option_map (λ (c : Channel). c.confirm) (named r t)) false

-- the number of the listed channel that a promise opened
abbrev pub opening : ℕ → Talk → Option ℕ
opening opened t = opening_in opened t.channels

-- a session as it is shown: its state, how many channels are listed, and how many promises were made
abbrev pub session_debug : Talk → List ℕ
session_debug t =
    codes "Session { state: "
    ++ state_name t.state
    ++ codes ", channels: "
    ++ decimal (length t.channels)
    ++ codes ", promises: "
    ++ decimal t.made
    ++ codes ", .. }"
