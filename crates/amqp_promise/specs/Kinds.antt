-- What is asked of an error by its kind alone.
use Rattle.std.specs.Prelude.{Bool, true, false, Option, Some}
use Rattle.amqp_types.specs.declared.error.AMQPErrorKind.{AMQPErrorKind}
use Rattle.amqp_types.specs.declared.error.AMQPErrorKind.TheVariants.{Soft, Hard}
use Rattle.amqp_types.specs.Codes.{kind_of}
use Rattle.amqp_promise.specs.declared.io_fault.IoFault.TheVariants.{WouldBlock, Interrupted}
use Rattle.amqp_promise.specs.declared.error.ErrorKind.{ErrorKind}
use Rattle.amqp_promise.specs.declared.error.ErrorKind.TheVariants.{InvalidChannel, InvalidChannelState, InvalidConnectionState, IOError, ProtocolError, MissingHeartbeatError}

-- the link failed
abbrev pub is_io_error : ErrorKind → Bool
is_io_error (IOError fault) = true
is_io_error _ = false

-- an error of the protocol
abbrev pub is_amqp_error : ErrorKind → Bool
is_amqp_error (ProtocolError e) = true
is_amqp_error _ = false

-- what closes a channel
abbrev pub is_soft : Option AMQPErrorKind → Bool
is_soft (Some Soft) = true
is_soft _ = false

-- what closes the connection
abbrev pub is_hard : Option AMQPErrorKind → Bool
is_hard (Some Hard) = true
is_hard _ = false

-- an error of the protocol that closes a channel, by its code
abbrev pub is_amqp_soft_error : ErrorKind → Bool
is_amqp_soft_error (ProtocolError e) = is_soft (kind_of e.code)
is_amqp_soft_error _ = false

-- an error of the protocol that closes the connection, by its code
abbrev pub is_amqp_hard_error : ErrorKind → Bool
is_amqp_hard_error (ProtocolError e) = is_hard (kind_of e.code)
is_amqp_hard_error _ = false

-- nothing could be done at the link without waiting
abbrev pub would_block : ErrorKind → Bool
would_block (IOError WouldBlock) = true
would_block _ = false

-- a call at the link was interrupted
abbrev pub is_interrupted : ErrorKind → Bool
is_interrupted (IOError Interrupted) = true
is_interrupted _ = false

-- errors after which another link may serve
abbrev pub can_be_recovered : ErrorKind → Bool
can_be_recovered (InvalidChannel n) = true
can_be_recovered (InvalidChannelState held word) = true
can_be_recovered (InvalidConnectionState held) = true
can_be_recovered (IOError fault) = true
can_be_recovered (ProtocolError e) = true
can_be_recovered MissingHeartbeatError = true
can_be_recovered _ = false
