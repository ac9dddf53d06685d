-- What a client says: how it opens and closes a connection and its channels (AMQP 0-9-1, 2.2.4 and 2.2.5), and why it
-- tells a new secret.
use Rattle.std.specs.Prelude.{ℕ, Bool, true, ◌&&◌, if◌then◌else◌, List, [], ◌∷◌, is_some, codes}
use Rattle.amqp_types.specs.Value.{FieldValue, Pair, scalar, table, boolean, pairs_from}
use Rattle.amqp_types.specs.Table.{get, put}
use Rattle.amqp_frame.specs.declared.frame.Frame.{Frame}
use Rattle.amqp_frame.specs.declared.frame.Frame.TheVariants.{ProtocolHeader, Method}
use Rattle.amqp_frame.specs.declared.method.Method.TheVariants.{StartOk, SecureOk, TuneOk, Open, Close, CloseOk, UpdateSecret, ChannelOpen, ChannelFlow, ChannelFlowOk, ChannelClose, ChannelCloseOk}
use Rattle.amqp_settings.specs.declared.configuration.Configuration.{Configuration}
use Rattle.amqp_settings.specs.Config.{Options, text_value}

-- the header that asks for AMQP 0-9-1
abbrev pub protocol_header : Frame
protocol_header = ProtocolHeader (record { major = 0; minor = 9; revision = 1 })

-- the value true
abbrev pub yes : FieldValue
yes = scalar (boolean true)

-- what this client can do, each under its name
abbrev pub capabilities : List Pair
capabilities =
    (codes "authentication_failure_close", yes)
    ∷ (codes "basic.nack", yes)
    ∷ (codes "connection.blocked", yes)
    ∷ (codes "consumer_cancel_notify", yes)
    ∷ (codes "consumer_priorities", yes)
    ∷ (codes "direct_reply_to", yes)
    ∷ (codes "exchange_exchange_bindings", yes)
    ∷ (codes "per_consumer_qos", yes)
    ∷ (codes "publisher_confirms", yes)
    ∷ []

-- both names that say which client it is are among the user's properties
abbrev pub names_client : List Pair → Bool
names_client own = is_some (get own (codes "product")) && is_some (get own (codes "version"))

-- the user's properties with this client and its version, where they don't say both
abbrev pub with_product : List Pair → List Pair
with_product own =
    if names_client own then own
    else put (put own (codes "product") (text_value (codes "lapin"))) (codes "version") (text_value (codes "4.4.0"))

-- what this client says of itself: what its user says, but for its platform and what it can do
abbrev pub client_properties : List Pair → List Pair
client_properties own =
    put
    (put (with_product own) (codes "platform") (text_value (codes "rust")))
    (codes "capabilities")
    (table (pairs_from capabilities))

-- the answer to start, by which the client names itself and logs in: by a mechanism, with what it says first by it
abbrev pub start_ok : Options → List ℕ → List ℕ → Frame
start_ok options mechanism response =
    Method 0 (StartOk (client_properties options.properties) mechanism response options.locale)

-- the answer to a challenge
abbrev pub secure_ok : List ℕ → Frame
secure_ok response = Method 0 (SecureOk response)

-- the answer to tune: the agreed numbers
abbrev pub tune_ok : Configuration → Frame
tune_ok agreed = Method 0 (TuneOk agreed.channel_max agreed.frame_max agreed.heartbeat)

-- a virtual host is opened
abbrev pub open_vhost : List ℕ → Frame
open_vhost vhost = Method 0 (Open vhost)

-- our close of the connection, which names no method that caused it
abbrev pub our_close : ℕ → List ℕ → Frame
our_close code text = Method 0 (Close code text 0 0)

-- our answer to the server's close
abbrev pub close_ok : Frame
close_ok = Method 0 CloseOk

-- a new secret takes the place of the one by which the client logged in, for a reason (an extension of RabbitMQ)
abbrev pub new_secret : List ℕ → List ℕ → Frame
new_secret secret reason = Method 0 (UpdateSecret secret reason)

-- a channel is opened
abbrev pub channel_open : ℕ → Frame
channel_open n = Method n ChannelOpen

-- what the server sends on a channel is to start or to stop
abbrev pub channel_flow : ℕ → Bool → Frame
channel_flow n active = Method n (ChannelFlow active)

-- the answer to the server's flow
abbrev pub flow_ok : ℕ → Bool → Frame
flow_ok n active = Method n (ChannelFlowOk active)

-- our answer to the server's close of a channel
abbrev pub channel_close_ok : ℕ → Frame
channel_close_ok n = Method n ChannelCloseOk

-- our close of a channel, which names no method that caused it
abbrev pub our_channel_close : ℕ → ℕ → List ℕ → Frame
our_channel_close n code text = Method n (ChannelClose code text 0 0)

-- why a secret is refreshed
abbrev pub refresh_reason : List ℕ
refresh_reason = codes "Automatic periodical refresh"
