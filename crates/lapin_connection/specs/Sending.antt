-- What waiting until all is sent, and waiting for room, answer.
use Rattle.std.specs.Prelude.{◌≡◌, ℕ, Option, Some, Result}
use Rattle.amqp_promise.specs.declared.error.ErrorKind.{ErrorKind}
use Rattle.amqp_promise.specs.declared.state.ChannelState.{ChannelState}
use Rattle.amqp_commands.specs.declared.command.ChanRef.{ChanRef}
use Rattle.amqp_rules.specs.Talk.{Talk}
use Rattle.amqp_locked.specs.Sending.{told_in}
use Rattle.amqp_locked.specs.Room.{told_of_room}

-- it is told of the state of a channel: Ok where that is open, else the state that allows no publish
abbrev pub IsToldOpen : Result (Unit {0}) ErrorKind → Type 0
IsToldOpen told = (state : ChannelState) × (told ≡ told_in state)

-- it is told of room for so many octets in some state of the session: where it is Ok, there was room, or the session
-- was not open, and the channel was
abbrev pub IsToldOfRoom : ChanRef → ℕ → Result (Unit {0}) ErrorKind → Type 0
IsToldOfRoom channel octets told = (t : Talk) × (told_of_room t channel octets ≡ Some told)
