-- Which replies were awaited in a list: where none of a kind was, none has to be looked for.
use Rattle.std.specs.Prelude.{◌≡◌, Bool, true}
use Rattle.amqp_outbox.specs.declared.kinds.Kinds.{Kinds}
use Rattle.amqp_outbox.specs.declared.reply.Awaited.{Awaited}
use Rattle.amqp_outbox.specs.declared.reply.Reply.{Reply}
use Rattle.amqp_outbox.specs.declared.reply.Reply.TheVariants.{ChannelOpened, ChannelClosed, FlowDone, SecretDone, ConnectionClosed}

-- this reply was awaited
abbrev pub is_marked : Reply → Kinds → Bool
is_marked ChannelOpened kinds = kinds.channel_opened
is_marked ChannelClosed kinds = kinds.channel_closed
is_marked FlowDone kinds = kinds.flow_done
is_marked SecretDone kinds = kinds.secret_done
is_marked ConnectionClosed kinds = kinds.connection_closed

-- this reply was awaited too
abbrev pub marked : Reply → Kinds → Kinds
marked ChannelOpened kinds = record kinds { channel_opened = true }
marked ChannelClosed kinds = record kinds { channel_closed = true }
marked FlowDone kinds = record kinds { flow_done = true }
marked SecretDone kinds = record kinds { secret_done = true }
marked ConnectionClosed kinds = record kinds { connection_closed = true }

-- the kind of what is awaited is among these
abbrev pub IsMarked : Kinds → Awaited → Type 0
IsMarked kinds a = is_marked a.reply kinds ≡ true
