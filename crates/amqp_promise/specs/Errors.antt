-- The texts of errors.
use Rattle.std.specs.Prelude.{ℕ, List, ◌++◌, codes}
use Rattle.std.specs.Fmt.{decimal}
use Rattle.amqp_types.specs.Words.{word_text}
use Rattle.amqp_promise.specs.declared.state.ConnectionState.{ConnectionState}
use Rattle.amqp_promise.specs.declared.state.ConnectionState.TheVariants as connection
use Rattle.amqp_promise.specs.declared.state.ChannelState.{ChannelState}
use Rattle.amqp_promise.specs.declared.state.ChannelState.TheVariants as channel
use Rattle.amqp_promise.specs.declared.io_fault.IoFault.{IoFault}
use Rattle.amqp_promise.specs.declared.io_fault.IoFault.TheVariants.{Aborted, Refused, Reset, BrokenPipe, WouldBlock, Interrupted, Other}
use Rattle.amqp_promise.specs.declared.error.ErrorKind.{ErrorKind}
use Rattle.amqp_promise.specs.declared.error.ErrorKind.TheVariants.{ChannelsLimitReached, InvalidProtocolVersion, InvalidChannel, InvalidChannelState, InvalidConnectionState, IOError, ParsingError, ProtocolError, SerialisationError, MissingHeartbeatError, OutOfTurns, ForeignPass, OutboxFull, NoMemory, AuthProviderError}
use Rattle.amqp_promise.specs.Shown.{shown}

-- the states of a connection, by their names
abbrev pub state_name : ConnectionState → List ℕ
state_name connection.Initial = codes "Initial"
state_name connection.Connecting = codes "Connecting"
state_name connection.Connected = codes "Connected"
state_name connection.Closing = codes "Closing"
state_name connection.Closed = codes "Closed"
state_name connection.Reconnecting = codes "Reconnecting"
state_name connection.Error = codes "Error"

-- the states of a channel, by their names
abbrev pub channel_state_name : ChannelState → List ℕ
channel_state_name channel.Initial = codes "Initial"
channel_state_name channel.Reconnecting = codes "Reconnecting"
channel_state_name channel.Connected = codes "Connected"
channel_state_name channel.Closing = codes "Closing"
channel_state_name channel.Closed = codes "Closed"
channel_state_name channel.Error = codes "Error"

-- the faults of a link
abbrev pub fault_text : IoFault → List ℕ
fault_text Aborted = codes "connection aborted"
fault_text Refused = codes "connection refused"
fault_text Reset = codes "connection reset"
fault_text BrokenPipe = codes "broken pipe"
fault_text WouldBlock = codes "operation would block"
fault_text Interrupted = codes "operation interrupted"
fault_text (Other word) = word_text word

-- the text of an error
abbrev pub error_text : ErrorKind → List ℕ
error_text ChannelsLimitReached = codes "the maximum number of channels for this connection has been reached"
error_text (InvalidProtocolVersion v) =
    codes "the server only supports AMQP "
    ++ decimal v.major
    ++ codes "-"
    ++ decimal v.minor
    ++ codes "-"
    ++ decimal v.revision
error_text (InvalidChannel n) = codes "invalid channel: " ++ decimal n
error_text (InvalidChannelState held word) =
    codes "invalid channel state: " ++ channel_state_name held ++ codes " (" ++ word_text word ++ codes ")"
error_text (InvalidConnectionState held) = codes "invalid connection state: " ++ state_name held
error_text (IOError fault) = codes "IO error: " ++ fault_text fault
error_text (ParsingError place) = codes "failed to parse: frame at byte " ++ decimal place
error_text (ProtocolError e) = codes "protocol error: " ++ decimal e.code ++ codes " " ++ shown e.message
error_text (SerialisationError size) = codes "failed to serialise: frame of " ++ decimal size ++ codes " bytes"
error_text MissingHeartbeatError = codes "no heartbeat received from server for too long"
error_text OutOfTurns = codes "the given turns were all taken"
error_text (ForeignPass number place promise) = codes "foreign pass: " ++ decimal number
error_text (OutboxFull size) = codes "outbox full: " ++ decimal size ++ codes " bytes"
error_text NoMemory = codes "memory was refused"
error_text (AuthProviderError text) = codes "failure during authentication: " ++ text
