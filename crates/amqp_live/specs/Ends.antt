-- How a connection from end to end ends: its status, and what was said.
use Rattle.std.specs.Prelude.{◌≡◌, ◌⊎◌, ℕ, List, Option, Some, Result, Ok, Err}
use Rattle.amqp_types.specs.Counts.{Rose}
use Rattle.amqp_promise.specs.declared.error.ErrorKind.{ErrorKind}
use Rattle.amqp_uri.specs.declared.fault.UriFault.{UriFault}
use Rattle.amqp_uri.specs.declared.uri.AMQPUri.{AMQPUri}
use Rattle.lapin_connection.specs.Connecting.{ConnectsBy}
use Rattle.amqp_replay.specs.Top.{TookAll, TookFront}
use Rattle.amqp_replay.specs.declared.status.TheConstants.{CLOSED, USAGE, SINK_FAILED, FAILED, NO_MEMORY}
use Rattle.amqp_live.specs.Said.{error_line, SaysAll, SaysSome, SaysError, SaysFront}
use Rattle.amqp_live.specs.declared.live.Stop.{Stop}
use Rattle.amqp_live.specs.declared.live.Stop.TheVariants.{Unsaid, Unconnected, Failed}

-- a text is an address
abbrev pub IsAddress : Result AMQPUri UriFault → Type 0
IsAddress known = (uri : AMQPUri) × (known ≡ Ok uri)

-- a text is an address, and a loop was started, a spawner counting so many before and after
abbrev pub IsReached : Result AMQPUri UriFault → ℕ → ℕ → Type 0
IsReached known loops loops' = IsAddress known × Rose loops loops'

-- a text is an address, and a port to that was asked for last
abbrev pub AsksFor : Result AMQPUri UriFault → Option AMQPUri → Type 0
AsksFor (Ok uri) asked = asked ≡ Some uri
AsksFor (Err fault) asked = ⊥

-- connecting to a text is answered by this error, a spawner counting so many refusals before and after
abbrev pub RefusesToConnect : Result AMQPUri UriFault → ℕ → ℕ → ErrorKind → Type 0
RefusesToConnect known refusals refusals' e = ConnectsBy {A = Unit {0}} known refusals refusals' (Err e)

-- how a visit of a connection went: all was said; or why it went no further, and what was said
abbrev pub Visits : Option (List ℕ) → Option (List ℕ) → Result (Unit {0}) Stop → Type 0
Visits before after (Ok done) = SaysAll before after
Visits before after (Err Unsaid) = SaysFront before after
Visits before after (Err (Unconnected e)) = ⊥
Visits before after (Err (Failed e)) = SaysSome before after

-- the same of connecting and a visit
abbrev pub Goes :
    Result AMQPUri UriFault → ℕ → ℕ → ℕ → ℕ → Option (List ℕ) → Option (List ℕ) → Result (Unit {0}) Stop → Type 0
Goes known refusals refusals' loops loops' before after (Err (Unconnected e)) =
    RefusesToConnect known refusals refusals' e × (after ≡ before)
Goes known refusals refusals' loops loops' before after answer =
    IsReached known loops loops' × Visits before after answer

-- an error was said; or it is NoMemory, or there was none to say it; or the sink failed
abbrev pub TellsError : ErrorKind → Option (List ℕ) → Option (List ℕ) → ℕ → Type 0
TellsError e before after status =
    ((status ≡ FAILED) × TookAll (error_line e) before after)
    ⊎ ((status ≡ NO_MEMORY) × (after ≡ before))
    ⊎ ((status ≡ SINK_FAILED) × TookFront (error_line e) before after)

-- nothing was said; or some of the lines, of an address for which a loop was started
abbrev pub SaysAsFar : Result AMQPUri UriFault → ℕ → ℕ → Option (List ℕ) → Option (List ℕ) → Type 0
SaysAsFar known loops loops' before after =
    (after ≡ before) ⊎ (IsReached known loops loops' × SaysSome before after)

-- the sink took a front: of the lines of such an address, or of some of them and an error; or of the error of
-- connecting
abbrev pub FailsToSay : Result AMQPUri UriFault → ℕ → ℕ → ℕ → ℕ → Option (List ℕ) → Option (List ℕ) → Type 0
FailsToSay known refusals refusals' loops loops' before after =
    (IsReached known loops loops' × SaysFront before after)
    ⊎ ((e : ErrorKind) × RefusesToConnect known refusals refusals' e × TookFront (error_line e) before after)

-- an error was said: that of connecting, which is the fault of the text, the spawner's refusal, or NoMemory; or,
-- of an address for which a loop was started, that of a call on the connection or of the end of its session, after some
-- of the lines
abbrev pub SaysWhy : Result AMQPUri UriFault → ℕ → ℕ → ℕ → ℕ → Option (List ℕ) → Option (List ℕ) → Type 0
SaysWhy known refusals refusals' loops loops' before after =
    ((e : ErrorKind) × RefusesToConnect known refusals refusals' e × TookAll (error_line e) before after)
    ⊎ (IsReached known loops loops' × ((e : ErrorKind) × SaysError e before after))

-- the statuses
abbrev pub IsStatus : ℕ → Type 0
IsStatus status =
    (status ≡ CLOSED) ⊎ (status ≡ USAGE) ⊎ (status ≡ SINK_FAILED) ⊎ (status ≡ FAILED) ⊎ (status ≡ NO_MEMORY)
