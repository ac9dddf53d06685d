-- What a channel tells of its state.
use Rattle.std.specs.Prelude.{Bool, true, false}
use Rattle.amqp_promise.specs.declared.state.ChannelState.{ChannelState}
use Rattle.amqp_promise.specs.declared.state.ChannelState.TheVariants.{Initial, Closing, Reconnecting}

-- it is being opened, for the first time or again
abbrev pub reads_as_initializing : ChannelState → Bool
reads_as_initializing Initial = true
reads_as_initializing Reconnecting = true
reads_as_initializing _ = false

-- it is being closed, or its link was lost
abbrev pub reads_as_closing : ChannelState → Bool
reads_as_closing Closing = true
reads_as_closing Reconnecting = true
reads_as_closing _ = false
