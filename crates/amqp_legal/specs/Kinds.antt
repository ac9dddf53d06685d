-- What a frame is to a conversation.
use Rattle.std.specs.Prelude.{ℕ, ◌==◌, ◌&&◌, nat_le, if◌then◌else◌}
use Rattle.std.specs.Prelude.{Bool, true, false, List, length, Option, Some, None}
use Rattle.amqp_frame.specs.declared.frame.Frame.{Frame}
use Rattle.amqp_frame.specs.declared.frame.Frame.TheVariants.{Method, Raw, Heartbeat}
use Rattle.amqp_frame.specs.declared.frame.RawKind.TheVariants.{RawMethod, Header, Body}
use Rattle.amqp_frame.specs.declared.method.Method.{Method as AnyMethod}
use Rattle.amqp_frame.specs.declared.method.Method.TheVariants as m
use Rattle.amqp_legal.specs.Octets.{class_in, weight_in, body_size_in}
use Rattle.amqp_legal.specs.Decider.{is_passed_through}
use Rattle.amqp_legal.specs.declared.progress.Stage.{Stage}
use Rattle.amqp_legal.specs.declared.progress.Stage.TheVariants.{HeaderSaid, StartOkSaid, TuneOkSaid, OpenSaid}
use Rattle.amqp_legal.specs.declared.kind.Kind.{Kind}
use Rattle.amqp_legal.specs.declared.kind.Kind.TheVariants as k

-- what a method on channel 0 is
abbrev pub connection_kind : AnyMethod → Kind
connection_kind (m.StartOk properties mechanism response locale) = k.StartOk
connection_kind (m.SecureOk response) = k.SecureOk
connection_kind (m.TuneOk channels frame heartbeat) = k.TuneOk
connection_kind (m.Open vhost) = k.Open
connection_kind (m.Close code text class method) = k.Close
connection_kind m.CloseOk = k.CloseOk
connection_kind (m.UpdateSecret secret reason) = k.Quiet
connection_kind _ = k.Other

-- what a method on another channel is
abbrev pub channel_kind : ℕ → AnyMethod → Kind
channel_kind n m.ChannelOpen = k.ChannelOpen n
channel_kind n (m.ChannelFlow active) = k.ChannelFlow n
channel_kind n (m.ChannelFlowOk active) = k.ChannelFlow n
channel_kind n (m.ChannelClose code text class method) = k.ChannelClose n
channel_kind n m.ChannelCloseOk = k.ChannelCloseOk n
channel_kind n _ = k.Other

-- what a method is that is passed through
abbrev pub raw_kind : ℕ → List ℕ → Kind
raw_kind n payload = if is_passed_through payload then k.Passed n (class_in payload) else k.Other

-- what a content header is
abbrev pub header_kind : ℕ → List ℕ → Kind
header_kind n payload =
    if nat_le 14 (length payload) && weight_in payload == 0
    then k.Header n (class_in payload) (body_size_in payload)
    else k.Other

-- what a frame is
abbrev pub frame_kind : Frame → Kind
frame_kind (Method n method) = if n == 0 then connection_kind method else channel_kind n method
frame_kind (Raw n RawMethod payload) = if n == 0 then k.Other else raw_kind n payload
frame_kind (Raw n Header payload) = header_kind n payload
frame_kind (Raw n Body payload) = k.Body n (length payload)
frame_kind Heartbeat = k.Quiet
frame_kind _ = k.Other

-- what leads from one turning point of the introduction to the next
abbrev pub introduced : Stage → Kind → Option Stage
introduced HeaderSaid k.StartOk = Some StartOkSaid
introduced StartOkSaid k.SecureOk = Some StartOkSaid
introduced StartOkSaid k.TuneOk = Some TuneOkSaid
introduced TuneOkSaid k.Open = Some OpenSaid
introduced _ _ = None

-- a frame that is our close-ok of the connection
abbrev pub is_close_ok_kind : Kind → Bool
is_close_ok_kind k.CloseOk = true
is_close_ok_kind _ = false
