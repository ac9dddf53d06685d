-- What a server may not do, and the error, by reply code and text, by which the link is then lost (AMQP 0-9-1, 4.8.2
-- and the reply codes of its reference). The server is not told: no close is written.
use Rattle.std.specs.Prelude.{ℕ, ◌+◌, Bool, true, false, List, ◌++◌, codes, Option, Some, None, is_some, if◌then◌else◌}
use Rattle.std.specs.Fmt.{decimal}
use Rattle.amqp_types.specs.Codes.{kind_of, NamedError}
use Rattle.amqp_frame.specs.declared.frame.RawKind.{RawKind}
use Rattle.amqp_frame.specs.declared.frame.RawKind.TheVariants.{RawMethod, Header, Body}
use Rattle.amqp_frame.specs.declared.method.Method.{Method}
use Rattle.amqp_frame.specs.declared.method.Method.TheVariants.{ChannelOpen, ChannelOpenOk, ChannelFlow, ChannelFlowOk, ChannelClose}
use Rattle.amqp_promise.specs.declared.error.ErrorKind.{ErrorKind}
use Rattle.amqp_promise.specs.declared.error.ErrorKind.TheVariants.{InvalidChannelState, ParsingError, ProtocolError}
use Rattle.amqp_types.specs.declared.word.Word.TheVariants.{ChannelCloseOkSent}
use Rattle.amqp_promise.specs.declared.state.ChannelState.TheVariants.{Closing}
use Rattle.amqp_violations.specs.declared.server_close.ServerClose.{ServerClose}
use Rattle.amqp_violations.specs.declared.server_close.ServerClose.TheVariants.{WithoutError, WithError}
use Rattle.amqp_violations.specs.declared.misread.Misread.{Misread}
use Rattle.amqp_violations.specs.declared.misread.Misread.TheVariants.{TooLarge, BadHeartbeat, Bad}

-- a reply code with its text
abbrev pub protocol_error : ℕ → List ℕ → ErrorKind
protocol_error code text = ProtocolError (record { code = code; message = text })

-- 501, frame-error: a frame larger than was agreed, of so many octets of payload and 8 around it
abbrev pub frame_too_large : ℕ → ErrorKind
frame_too_large size = protocol_error 501 (codes "frame too large: " ++ decimal (size + 8) ++ codes " bytes")

-- 501, frame-error: a heartbeat on another channel than 0
abbrev pub stray_heartbeat : ℕ → ErrorKind
stray_heartbeat channel = protocol_error 501 (codes "heartbeat frame received on channel " ++ decimal channel)

-- what was read and is no frame
abbrev pub misread_error : Misread → ErrorKind
misread_error (TooLarge size) = frame_too_large size
misread_error (BadHeartbeat channel) = stray_heartbeat channel
misread_error (Bad place) = ParsingError place

-- 503, command-invalid: a method of the connection class on another channel than 0
abbrev pub stray_connection_method : ℕ → ErrorKind
stray_connection_method channel = protocol_error 503 (codes "connection frame received on channel " ++ decimal channel)

-- what a frame that is passed through is called
abbrev pub raw_name : RawKind → List ℕ
raw_name RawMethod = codes "method"
raw_name Header = codes "content header"
raw_name Body = codes "body"

-- 504, channel-error: a frame of a channel on channel 0
abbrev pub stray_channel_frame : RawKind → ErrorKind
stray_channel_frame kind = protocol_error 504 (raw_name kind ++ codes " frame received on channel 0")

-- the name of a method of the channel class
abbrev pub method_name : Method → List ℕ
method_name ChannelOpen = codes "open"
method_name ChannelOpenOk = codes "open-ok"
method_name (ChannelFlow active) = codes "flow"
method_name (ChannelFlowOk active) = codes "flow-ok"
method_name (ChannelClose code text class method) = codes "close"
method_name _ = codes "close-ok"

-- 505, unexpected-frame: a method of the channel class that nothing awaits
abbrev pub unawaited : Method → ℕ → ErrorKind
unawaited method channel =
    protocol_error 505
    (codes "unexpected channel." ++ method_name method ++ codes " received on channel " ++ decimal channel)

-- what the server's close of a channel tells those who wait for something on it, by its code
abbrev pub channel_closed_with : ℕ → List ℕ → ErrorKind
channel_closed_with code text =
    if is_some (kind_of code)
    then protocol_error code text
    else InvalidChannelState Closing ChannelCloseOkSent

-- what the server's close tells, by its code: an error, or that the connection is closed
abbrev pub closed_with : ℕ → List ℕ → ServerClose
closed_with code text =
    if is_some (kind_of code) then WithError (record { code = code; message = text }) else WithoutError

-- ---- what an error has

-- an error that has a code
abbrev pub error_named : ErrorKind → Option NamedError
error_named (ProtocolError e) = Some e
error_named _ = None

-- an error with a text of its own
abbrev pub has_text : ErrorKind → Bool
has_text (ProtocolError e) = true
has_text _ = false
