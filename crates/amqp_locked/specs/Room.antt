-- Whether there is room for what is to be sent.
use Rattle.std.specs.Prelude.{◌==◌, ◌||◌, ◌+◌, ℕ, not, Bool, true, if◌then◌else◌, Option, Some, None, is_some, Result}
use Rattle.amqp_frame.specs.Lengths.{capped}
use Rattle.amqp_promise.specs.declared.error.ErrorKind.{ErrorKind}
use Rattle.amqp_promise.specs.declared.state.ConnectionState.{ConnectionState}
use Rattle.amqp_promise.specs.declared.state.ConnectionState.TheVariants.{Connected}
use Rattle.amqp_commands.specs.declared.command.ChanRef.{ChanRef}
use Rattle.amqp_outbox.specs.Queued.{unsent_octets}
use Rattle.amqp_rules.specs.Commands.{above_limit}
use Rattle.amqp_rules.specs.Queries.{channel_state}
use Rattle.amqp_rules.specs.Talk.{Talk}
use Rattle.amqp_rules.specs.Writing.{frames_waiting}
use Rattle.amqp_locked.specs.Sending.{told_in}

-- there is room for so many octets: with them no more would wait than may, or nothing waits
abbrev pub finds_room : ℕ → Talk → Bool
finds_room octets t =
    not (is_some (above_limit t.config.options.outbox_limit (capped (unsent_octets t.outbox + octets))))
    || (frames_waiting t == 0)

-- nobody waits for room: there is, or the connection is not open
abbrev pub ends_waiting : ConnectionState → Bool → Bool
ends_waiting Connected room = room
ends_waiting _ room = true

-- nothing is known while there is no room for so many octets; then what is told of the channel's state
abbrev pub told_of_room : Talk → ChanRef → ℕ → Option (Result (Unit {0}) ErrorKind)
told_of_room t channel octets =
    if ends_waiting t.state (finds_room octets t) then Some (told_in (channel_state channel t)) else None
