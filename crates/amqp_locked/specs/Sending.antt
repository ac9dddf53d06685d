-- What is known of what was sent on a channel.
use Rattle.std.specs.Prelude.{ℕ, if◌then◌else◌, Option, Some, None, Result, Ok, Err}
use Rattle.amqp_types.specs.declared.word.Word.TheVariants.{Publish}
use Rattle.amqp_promise.specs.declared.error.ErrorKind.{ErrorKind}
use Rattle.amqp_promise.specs.declared.error.ErrorKind.TheVariants.{InvalidChannelState}
use Rattle.amqp_promise.specs.declared.state.ChannelState.{ChannelState}
use Rattle.amqp_promise.specs.declared.state.ChannelState.TheVariants.{Connected}
use Rattle.amqp_commands.specs.declared.command.ChanRef.{ChanRef}
use Rattle.amqp_rules.specs.Queries.{channel_state}
use Rattle.amqp_rules.specs.Talk.{Talk}
use Rattle.amqp_locked.specs.Looking.{has_gone_out}

-- what is told once nothing of it waits to go out: Ok where the channel is open; else the state that allows no publish
abbrev pub told_in : ChannelState → Result (Unit {0}) ErrorKind
told_in Connected = Ok tt
told_in state = Err (InvalidChannelState state Publish)

-- nothing is known while something may wait that was sent once so many promises had been made
abbrev pub told_of_sent : Talk → ℕ → ChanRef → ℕ → Option (Result (Unit {0}) ErrorKind)
told_of_sent t cleared channel made =
    if has_gone_out t.state cleared made then Some (told_in (channel_state channel t)) else None
