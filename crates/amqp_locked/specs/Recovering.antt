-- Whether a channel goes on after an error.
use Rattle.std.specs.Prelude.{◌≡◌, ◌⊎◌, Bool, true, false, Option, Some, None, Result, Ok, Err}
use Rattle.amqp_promise.specs.Kinds.{can_be_recovered}
use Rattle.amqp_promise.specs.declared.error.ErrorKind.{ErrorKind}
use Rattle.amqp_promise.specs.declared.error.ErrorKind.TheVariants.{NoMemory}
use Rattle.amqp_promise.specs.declared.state.ChannelState.{ChannelState}
use Rattle.amqp_promise.specs.declared.state.ChannelState.TheVariants.{Connected, Reconnecting}
use Rattle.amqp_commands.specs.declared.command.ChanRef.{ChanRef}
use Rattle.amqp_rules.specs.Queries.{channel_state}
use Rattle.amqp_rules.specs.Talk.{Talk}

-- it goes on, or this error is told, or NoMemory where memory for its copy was refused
abbrev pub IsToldBy : ErrorKind → Result (Unit {0}) ErrorKind → Type 0
IsToldBy error (Ok done) = Unit {0}
IsToldBy error (Err e) = (e ≡ error) ⊎ (e ≡ NoMemory)

-- the error is told, or NoMemory where memory for its copy was refused
abbrev pub IsError : ErrorKind → Option (Result (Unit {0}) ErrorKind) → Type 0
IsError error None = ⊥
IsError error (Some (Ok done)) = ⊥
IsError error (Some (Err e)) = (e ≡ error) ⊎ (e ≡ NoMemory)

-- what is known of a channel in this state: it goes on where it is open; nothing is known where it waits for another
-- link and the session and the error allow it to go on; else the error is told
abbrev pub FoundIn : ChannelState → Bool → Bool → ErrorKind → Option (Result (Unit {0}) ErrorKind) → Type 0
FoundIn Connected recovers allows error found = found ≡ Some (Ok tt)
FoundIn Reconnecting true true error found = found ≡ None
FoundIn _ recovers allows error found = IsError error found

-- the same of a channel of a session
abbrev pub FoundOf : Talk → ChanRef → ErrorKind → Option (Result (Unit {0}) ErrorKind) → Type 0
FoundOf t channel error found =
    FoundIn (channel_state channel t) t.config.options.recover (can_be_recovered error) error found
