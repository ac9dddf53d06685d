-- Lost channels: those that are neither open nor may be open again.
use Rattle.std.specs.Prelude.{Bool, true, false, not, List, filter}
use Rattle.amqp_promise.specs.declared.state.ChannelState.{ChannelState}
use Rattle.amqp_promise.specs.declared.state.ChannelState.TheVariants.{Reconnecting, Connected}
use Rattle.amqp_commands.specs.declared.command.ChanRef.{ChanRef}
use Rattle.amqp_rules.specs.Talk.{Talk}
use Rattle.amqp_rules.specs.Queries.{channel_state}

-- in this state a channel is lost: all but Connected and Reconnecting
abbrev pub is_lost_state : ChannelState → Bool
is_lost_state Reconnecting = false
is_lost_state Connected = false
is_lost_state _ = true

-- in this state a channel is ready to be used: Connected alone
abbrev pub is_ready_state : ChannelState → Bool
is_ready_state Connected = true
is_ready_state _ = false

-- a channel is lost
abbrev pub is_lost : Talk → ChanRef → Bool
is_lost t r = is_lost_state (channel_state r t)

-- a channel is ready to be used
abbrev pub is_ready : Talk → ChanRef → Bool
is_ready t r = is_ready_state (channel_state r t)

-- the channels that are not lost, in order
abbrev pub without_lost : Talk → List ChanRef → List ChanRef
without_lost t rs = filter (λ r. not (is_lost t r)) rs
