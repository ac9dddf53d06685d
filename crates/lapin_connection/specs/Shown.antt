-- What a port is shown of its session.
use Rattle.std.specs.Prelude.{Bool, true, false}
use Rattle.amqp_promise.specs.declared.state.ConnectionState.{ConnectionState}
use Rattle.amqp_promise.specs.declared.state.ConnectionState.TheVariants as state
use Rattle.amqp_socket.specs.declared.watch.Standing.{Standing}
use Rattle.amqp_socket.specs.declared.watch.Standing.TheVariants as standing
use Rattle.lapin_connection.specs.declared.nudge.Nudge.{Nudge}
use Rattle.lapin_connection.specs.declared.nudge.Nudge.TheVariants as nudge

-- how a session stands in a state: it opens its connection, for the first time or again; it closes it; or neither
abbrev pub standing_of : ConnectionState → Standing
standing_of state.Initial = standing.Opening
standing_of state.Connecting = standing.Opening
standing_of state.Connected = standing.Open
standing_of state.Closing = standing.Closing
standing_of state.Closed = standing.Open
standing_of state.Reconnecting = standing.Opening
standing_of state.Error = standing.Open

-- a port is shown how its session stands
abbrev pub is_watched : Nudge → Bool
is_watched (nudge.Watched waker watch) = true
is_watched _ = false
