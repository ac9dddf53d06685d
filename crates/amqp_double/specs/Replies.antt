-- What a server double replies to each frame of its client (AMQP 0-9-1, 2.2.4, and the grammars of its classes
-- connection and channel; update-secret-ok is RabbitMQ's).
use Rattle.std.specs.Prelude.{ℕ, zero, suc, Bool, true, false, List, [], ◌∷◌, codes}
use Rattle.std.specs.List.{flat_map}
use Rattle.amqp_types.specs.Value.{Pair, scalar, table, boolean, long_string, pairs_from}
use Rattle.amqp_frame.specs.declared.frame.Frame.{Frame}
use Rattle.amqp_frame.specs.declared.frame.Frame.TheVariants.{ProtocolHeader, Method}
use Rattle.amqp_frame.specs.declared.method.Method.TheVariants.{Start, StartOk, Tune, Open, OpenOk, Close, CloseOk}
use Rattle.amqp_frame.specs.declared.method.Method.TheVariants.{UpdateSecret, UpdateSecretOk, ChannelOpen, ChannelOpenOk}
use Rattle.amqp_frame.specs.declared.method.Method.TheVariants.{ChannelFlow, ChannelFlowOk, ChannelClose, ChannelCloseOk}
use Rattle.amqp_frame.specs.Frames.{encoding}
use Rattle.amqp_settings.specs.declared.configuration.Configuration.{Configuration}

-- what the server can do
abbrev pub abilities : List Pair
abilities = (codes "publisher_confirms", scalar (boolean true)) ∷ []

-- what it says of itself
abbrev pub properties : List Pair
properties =
    (codes "capabilities", table (pairs_from abilities))
    ∷ (codes "product", scalar (long_string (codes "RabbitMQ")))
    ∷ []

-- its start
abbrev pub start_frame : Frame
start_frame = Method 0 (Start 0 9 properties (codes "PLAIN AMQPLAIN") (codes "en_US"))

-- its tune, with its own numbers
abbrev pub tune_frame : Configuration → Frame
tune_frame numbers = Method 0 (Tune numbers.channel_max numbers.frame_max numbers.heartbeat)

-- the replies to a frame: one or none
abbrev pub replies : Configuration → Frame → List Frame
replies numbers (ProtocolHeader v) = start_frame ∷ []
replies numbers (Method zero (StartOk client mechanism response locale)) = tune_frame numbers ∷ []
replies numbers (Method zero (Open vhost)) = Method 0 OpenOk ∷ []
replies numbers (Method zero (Close code text class method)) = Method 0 CloseOk ∷ []
replies numbers (Method zero (UpdateSecret secret reason)) = Method 0 UpdateSecretOk ∷ []
replies numbers (Method (suc n) ChannelOpen) = Method (suc n) ChannelOpenOk ∷ []
replies numbers (Method (suc n) (ChannelFlow active)) = Method (suc n) (ChannelFlowOk active) ∷ []
replies numbers (Method (suc n) (ChannelClose code text class method)) = Method (suc n) ChannelCloseOk ∷ []
replies numbers f = []

-- the octets of the replies to a frame
abbrev pub reply_octets : Configuration → Frame → List ℕ
reply_octets numbers f = flat_map encoding (replies numbers f)

-- the octets of the replies to frames, in order
abbrev pub all_replies : Configuration → List Frame → List ℕ
all_replies numbers frames = flat_map (reply_octets numbers) frames

-- a close of the connection, or its close-ok
abbrev pub closes_connection : Frame → Bool
closes_connection (Method zero (Close code text class method)) = true
closes_connection (Method zero CloseOk) = true
closes_connection _ = false

-- the last of these frames is one
abbrev pub ends_closed : List Frame → Bool
ends_closed [] = false
ends_closed (f ∷ []) = closes_connection f
ends_closed (f ∷ g ∷ frames) = ends_closed (g ∷ frames)
