-- The handles on a connection. No two new sources are known to have one name, so an equation of the names of their
-- sources says that two handles are on one connection.
use Rattle.std.specs.Prelude.{ℕ, Option, Some}
use Rattle.std.specs.Arc.{arc_value}
use Rattle.amqp_commands.specs.declared.command.ChanRef.{ChanRef}
use Rattle.amqp_engine.specs.Engine.{Engine}
use Rattle.lapin_connection.specs.declared.channel.Channel.{Channel}
use Rattle.lapin_connection.specs.declared.connection.Connection.{Connection}
use Rattle.lapin_connection.specs.declared.listener.EventsListener.{EventsListener}
use Rattle.lapin_connection.specs.declared.pending.Pending.{Pending}
use Rattle.lapin_connection.specs.declared.recovery.Recovery.{Recovery}

-- the name of the source at which tasks wait, of a connection
abbrev pub connection_source : Connection → ℕ
connection_source c = (arc_value c.shared).source.id

-- the same, of a channel
abbrev pub channel_source : Channel → ℕ
channel_source c = (arc_value c.shared).source.id

-- the same, of a listener
abbrev pub listener_source : EventsListener → ℕ
listener_source l = (arc_value l.shared).source.id

-- the same, of a recovery
abbrev pub recovery_source : Recovery → ℕ
recovery_source r = (arc_value r.shared).source.id

module _ {T : Type 0} where
  -- the same, of what waits for an answer
  abbrev pub pending_source : Pending T → ℕ
  pending_source p = (arc_value p.shared).source.id

-- a channel as commands name it: by its number, and by the promise that opened it
abbrev pub reference_of : Channel → ChanRef
reference_of c = record { id = c.id; opened = Some c.opened }

-- once how many octets were entered the journal of a connection begins anew, if it does by itself
abbrev pub settling_of : Connection → Option ℕ
settling_of c = (arc_value c.shared).settles_after

-- the engine of a connection as it was when the connection began
abbrev pub engine_begun : Connection → Engine
engine_begun c = (arc_value c.shared).begun.value.engine
