-- What is done about a connection or a channel whose handle was let go.
use Rattle.std.specs.Prelude.{ℕ, ◌==◌, Bool, true, false, length, Option, Some, None}
use Rattle.amqp_promise.specs.declared.state.ConnectionState.{ConnectionState}
use Rattle.amqp_promise.specs.declared.state.ConnectionState.TheVariants.{Initial, Connecting, Connected, Closing, Reconnecting}
use Rattle.amqp_promise.specs.declared.state.ChannelState.{ChannelState}
use Rattle.amqp_promise.specs.declared.state.ChannelState.TheVariants as channel
use Rattle.amqp_commands.specs.declared.command.ChanRef.{ChanRef}
use Rattle.amqp_commands.specs.declared.command.Cmd.TheVariants.{DropChannel, DropConnection}
use Rattle.amqp_rules.specs.Talk.{Talk}
use Rattle.amqp_rules.specs.Queries.{opening, channel_state}
use Rattle.amqp_hub.specs.declared.due.Owner.{Owner}
use Rattle.amqp_hub.specs.declared.due.Owner.TheVariants as owner
use Rattle.amqp_hub.specs.declared.due.Due.{Due}
use Rattle.amqp_hub.specs.declared.due.Due.TheVariants.{Now, Later, Never}

-- a connection is let go once it is open and no channel is listed; until then it is looked at again, and once the
-- session has ended nothing is done
abbrev pub connection_due : ConnectionState → Bool → Due
connection_due Connected true = Now DropConnection
connection_due Connected false = Later
connection_due Initial none_listed = Later
connection_due Connecting none_listed = Later
connection_due Reconnecting none_listed = Later
connection_due Closing none_listed = Later
connection_due _ none_listed = Never

-- a listed channel is let go where it and the connection are open; where it may still come to that, or the connection
-- may be lost and come again, it is looked at again
abbrev pub listed_due : ConnectionState → ChannelState → ChanRef → Due
listed_due Initial state r = Later
listed_due Connecting state r = Later
listed_due Reconnecting state r = Later
listed_due Closing channel.Connected r = Later
listed_due Closing channel.Reconnecting r = Later
listed_due Connected channel.Connected r = Now (DropChannel r)
listed_due Connected channel.Initial r = Later
listed_due Connected channel.Reconnecting r = Later
listed_due _ state r = Never

-- one that is not listed is looked at again until the connection is open
abbrev pub unlisted_due : ConnectionState → Due
unlisted_due Initial = Later
unlisted_due Connecting = Later
unlisted_due Reconnecting = Later
unlisted_due _ = Never

-- the channel that a promise opened, by its number where it is listed
abbrev pub channel_due : Option ℕ → ℕ → Talk → Due
channel_due None opened t = unlisted_due t.state
channel_due (Some id) opened t =
    let r : ChanRef = record { id = id; opened = Some opened } in
    listed_due t.state (channel_state r t) r

-- what is done about what this owned; an answer needs no command
abbrev pub due_of : Talk → Owner → Due
due_of t owner.Connection = connection_due t.state (length t.channels == 0)
due_of t (owner.Channel opened) = channel_due (opening opened t) opened t
due_of t (owner.Answer number) = Never
