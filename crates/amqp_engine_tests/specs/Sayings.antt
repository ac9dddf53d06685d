-- What was said on some links: by servers that are faultless, and by servers that are not.
use Rattle.std.specs.Prelude.{ℕ, true, false, List, [], ◌∷◌, ◌++◌, codes}
use Rattle.amqp_types.specs.Value.{Pair, scalar, boolean, long_string, table, pairs_from}
use Rattle.amqp_frame.specs.declared.frame.Frame.{Frame}
use Rattle.amqp_frame.specs.declared.frame.Frame.TheVariants.{ProtocolHeader, Method, Raw, Heartbeat}
use Rattle.amqp_frame.specs.declared.frame.RawKind.TheVariants.{RawMethod, Header, Body}
use Rattle.amqp_frame.specs.declared.method.Method.TheVariants.{Start, StartOk, Secure, SecureOk, Tune, TuneOk, Open, OpenOk, Close, CloseOk, Blocked, Unblocked, UpdateSecret, UpdateSecretOk, ChannelOpen, ChannelOpenOk, ChannelFlow, ChannelFlowOk, ChannelClose, ChannelCloseOk}
use Rattle.amqp_engine.specs.Valid.{LinkSaying, Theirs, Ours}

-- ---- a connection is opened

-- what the server says of itself
abbrev pub server_properties : List Pair
server_properties =
    (codes "capabilities", table (pairs_from ((codes "publisher_confirms", scalar (boolean true)) ∷ [])))
    ∷ (codes "product", scalar (long_string (codes "RabbitMQ")))
    ∷ []

-- its start
abbrev pub start : Frame
start = Method 0 (Start 0 9 server_properties (codes "PLAIN AMQPLAIN") (codes "en_US"))

-- the client asks for AMQP 0-9-1, and logs in
abbrev pub login : List LinkSaying
login =
    Ours (ProtocolHeader (record { major = 0; minor = 9; revision = 1 }))
    ∷ Theirs start
    ∷ Ours (Method 0 (StartOk [] (codes "PLAIN") (0 ∷ codes "guest" ++ 0 ∷ codes "guest") (codes "en_US")))
    ∷ []

-- numbers are tuned, and the client opens its virtual host
abbrev pub tuned : Frame → Frame → List LinkSaying
tuned tune tune_ok = Theirs tune ∷ Ours tune_ok ∷ Ours (Method 0 (Open (codes "/"))) ∷ []

-- at most 2047 channels, frames of at most 131072 octets, a heartbeat a minute
abbrev pub usual : List LinkSaying
usual = tuned (Method 0 (Tune 2047 131072 60)) (Method 0 (TuneOk 2047 131072 60))

-- the server tells the greatest frame that it takes, and this one is agreed on
abbrev pub frame_max_told : ℕ → ℕ → List LinkSaying
frame_max_told told agreed =
    login
    ++ tuned (Method 0 (Tune 0 told 0)) (Method 0 (TuneOk 65535 agreed 0))
    ++ Theirs (Method 0 OpenOk)
    ∷ []

-- the connection is opened
abbrev pub handshake : List LinkSaying
handshake = login ++ usual ++ Theirs (Method 0 OpenOk) ∷ []

-- ---- it is closed

-- we close it
abbrev pub close : LinkSaying
close = Ours (Method 0 (Close 200 (codes "OK") 0 0))

-- and the server answers
abbrev pub our_close : List LinkSaying
our_close = close ∷ Theirs (Method 0 CloseOk) ∷ []

-- the server closes it, and we answer
abbrev pub their_close : ℕ → List ℕ → List LinkSaying
their_close code text = Theirs (Method 0 (Close code text 0 0)) ∷ Ours (Method 0 CloseOk) ∷ []

-- ---- channels

-- a channel is opened
abbrev pub opened : ℕ → List LinkSaying
opened n = Ours (Method n ChannelOpen) ∷ Theirs (Method n ChannelOpenOk) ∷ []

-- we close it
abbrev pub channel_close : ℕ → LinkSaying
channel_close n = Ours (Method n (ChannelClose 200 (codes "OK") 0 0))

-- the server closes it, since a queue is not there
abbrev pub not_found : ℕ → LinkSaying
not_found n = Theirs (Method n (ChannelClose 404 (codes "NOT_FOUND") 0 0))

-- the server confirms publishes on it from now on (RabbitMQ's confirm.select-ok)
abbrev pub select_ok : ℕ → LinkSaying
select_ok n = Theirs (Raw n RawMethod (0 ∷ 85 ∷ 0 ∷ 11 ∷ []))

-- ---- servers that are faultless

-- the connection is opened and closed by us
abbrev pub closed_by_us : List LinkSaying
closed_by_us = handshake ++ our_close

-- the server asks for more before it tunes
abbrev pub challenged : List LinkSaying
challenged =
    login
    ++ Theirs (Method 0 (Secure (codes "Please tell me your password")))
    ∷ Ours (Method 0 (SecureOk (codes "My password is hunter")))
    ∷ usual
    ++ Theirs (Method 0 OpenOk)
    ∷ our_close

-- no greatest frame is told, and none is agreed
abbrev pub any_frame : List LinkSaying
any_frame = frame_max_told 0 0 ++ our_close

-- the least greatest frame that may be told: what every peer takes
abbrev pub least_frame : List LinkSaying
least_frame = frame_max_told 4096 4096 ++ our_close

-- heartbeats come, the first of them before open-ok
abbrev pub alive : List LinkSaying
alive =
    login ++ usual ++ Theirs Heartbeat ∷ Theirs (Method 0 OpenOk) ∷ Theirs Heartbeat ∷ Ours Heartbeat ∷ our_close

-- it blocks us for a while
abbrev pub blocked : List LinkSaying
blocked = handshake ++ Theirs (Method 0 (Blocked (codes "low"))) ∷ Theirs (Method 0 Unblocked) ∷ our_close

-- we tell it a new secret
abbrev pub refreshed : List LinkSaying
refreshed =
    handshake
    ++ Ours (Method 0 (UpdateSecret (codes "my new valid token") (codes "Automatic periodical refresh")))
    ∷ Theirs (Method 0 UpdateSecretOk)
    ∷ our_close

-- a channel is used and closed by us; what the server sends before it answers our close still counts
abbrev pub channel_used : List LinkSaying
channel_used =
    handshake
    ++ opened 1
    ++ Ours (Method 1 (ChannelFlow false))
    ∷ Theirs (Method 1 (ChannelFlowOk false))
    ∷ Theirs (Method 1 (ChannelFlow false))
    ∷ Ours (Method 1 (ChannelFlowOk false))
    ∷ select_ok 1
    ∷ channel_close 1
    ∷ Theirs (Method 1 (ChannelFlow true))
    ∷ select_ok 1
    ∷ Theirs (Method 1 ChannelCloseOk)
    ∷ our_close

-- a channel is closed by the server, and opened again
abbrev pub channel_closed : List LinkSaying
channel_closed = handshake ++ opened 1 ++ not_found 1 ∷ Ours (Method 1 ChannelCloseOk) ∷ opened 1 ++ our_close

-- a channel is closed by us, and opened again
abbrev pub channel_reopened : List LinkSaying
channel_reopened =
    handshake ++ opened 1 ++ channel_close 1 ∷ Theirs (Method 1 ChannelCloseOk) ∷ opened 1 ++ our_close

-- two flows of ours come before the first is answered
abbrev pub flows_answered : List LinkSaying
flows_answered =
    handshake
    ++ opened 1
    ++ Ours (Method 1 (ChannelFlow false))
    ∷ Ours (Method 1 (ChannelFlow true))
    ∷ Theirs (Method 1 (ChannelFlowOk false))
    ∷ Theirs (Method 1 (ChannelFlowOk true))
    ∷ our_close

-- a message is delivered, with a header and a body (basic.deliver)
abbrev pub delivered : List LinkSaying
delivered =
    handshake
    ++ opened 1
    ++ Theirs (Raw 1 RawMethod (
    0 ∷ 60 ∷ 0 ∷ 60 ∷ 1 ∷ codes "c" ++ 0 ∷ 0 ∷ 0 ∷ 0 ∷ 0 ∷ 0 ∷ 0 ∷ 1 ∷ 0 ∷ 0 ∷ 1 ∷ codes "q"))
    ∷ Theirs (Raw 1 Header (0 ∷ 60 ∷ 0 ∷ 0 ∷ 0 ∷ 0 ∷ 0 ∷ 0 ∷ 0 ∷ 0 ∷ 0 ∷ 2 ∷ 0 ∷ 0 ∷ []))
    ∷ Theirs (Raw 1 Body (codes "hi"))
    ∷ our_close

-- a channel is used still after our close of the connection, until the server answers
abbrev pub speaks_to_the_last : List LinkSaying
speaks_to_the_last = handshake ++ opened 1 ++ close ∷ select_ok 1 ∷ Theirs (Method 0 CloseOk) ∷ []

-- the server closes the connection without an error
abbrev pub closed_by_them : List LinkSaying
closed_by_them = handshake ++ their_close 200 (codes "OK")

-- ---- servers that are not, or not to the end

-- it closes a channel that we closed, and does not answer
abbrev pub closes_cross : List LinkSaying
closes_cross =
    handshake ++ opened 1 ++ channel_close 1 ∷ not_found 1 ∷ Ours (Method 1 ChannelCloseOk) ∷ our_close

-- or answers first
abbrev pub closes_closed : List LinkSaying
closes_closed = handshake ++ opened 1 ++ channel_close 1 ∷ Theirs (Method 1 ChannelCloseOk) ∷ not_found 1 ∷ our_close

-- or answers afterwards
abbrev pub closes_and_answers : List LinkSaying
closes_and_answers =
    handshake
    ++ opened 1
    ++ channel_close 1
    ∷ not_found 1
    ∷ Ours (Method 1 ChannelCloseOk)
    ∷ Theirs (Method 1 ChannelCloseOk)
    ∷ our_close

-- it says that a channel is open which we did not open
abbrev pub opens_unasked : List LinkSaying
opens_unasked = handshake ++ Theirs (Method 1 ChannelOpenOk) ∷ our_close

-- or says so twice
abbrev pub opens_twice : List LinkSaying
opens_twice = handshake ++ opened 1 ++ Theirs (Method 1 ChannelOpenOk) ∷ our_close

-- it answers a close of a channel that did not come
abbrev pub answers_no_close : List LinkSaying
answers_no_close = handshake ++ opened 1 ++ Theirs (Method 1 ChannelCloseOk) ∷ our_close

-- or two flows, where one came
abbrev pub answers_flow_twice : List LinkSaying
answers_flow_twice =
    handshake
    ++ opened 1
    ++ Ours (Method 1 (ChannelFlow false))
    ∷ Theirs (Method 1 (ChannelFlowOk false))
    ∷ Theirs (Method 1 (ChannelFlowOk false))
    ∷ our_close

-- or one that came before the channel was opened again
abbrev pub answers_earlier_flow : List LinkSaying
answers_earlier_flow =
    handshake
    ++ opened 1
    ++ Ours (Method 1 (ChannelFlow false))
    ∷ not_found 1
    ∷ Ours (Method 1 ChannelCloseOk)
    ∷ opened 1
    ++ Theirs (Method 1 (ChannelFlowOk false))
    ∷ our_close

-- it speaks on a channel that is not open
abbrev pub speaks_elsewhere : List LinkSaying
speaks_elsewhere = handshake ++ opened 1 ++ select_ok 2 ∷ our_close

-- or on one that it closed
abbrev pub speaks_after_close : List LinkSaying
speaks_after_close =
    handshake ++ opened 1 ++ not_found 1 ∷ select_ok 1 ∷ Ours (Method 1 ChannelCloseOk) ∷ our_close

-- or on channel 0, where only methods of the connection may be
abbrev pub speaks_on_zero : List LinkSaying
speaks_on_zero = handshake ++ select_ok 0 ∷ our_close

-- it says on a channel what is said of the whole connection
abbrev pub unblocks_a_channel : List LinkSaying
unblocks_a_channel = handshake ++ opened 1 ++ Theirs (Method 1 Unblocked) ∷ our_close

-- it answers a new secret that did not come
abbrev pub answers_no_secret : List LinkSaying
answers_no_secret = handshake ++ Theirs (Method 0 UpdateSecretOk) ∷ our_close

-- it closes the connection with an error
abbrev pub closes_with_error : List LinkSaying
closes_with_error = handshake ++ their_close 320 (codes "CONNECTION_FORCED")

-- it closes the connection while it blocks, so that our answer can't go out
abbrev pub closes_while_blocked : List LinkSaying
closes_while_blocked =
    handshake
    ++ Theirs (Method 0 (Blocked (codes "low")))
    ∷ Theirs (Method 0 (Close 200 (codes "OK") 0 0))
    ∷ []

-- it closes the connection where we did
abbrev pub closes_both : List LinkSaying
closes_both = handshake ++ close ∷ their_close 200 (codes "OK")

-- it answers a close of the connection that did not come
abbrev pub answers_no_end : List LinkSaying
answers_no_end = handshake ++ Theirs (Method 0 CloseOk) ∷ []

-- it goes on after its last frame
abbrev pub goes_on : List LinkSaying
goes_on = handshake ++ our_close ++ Theirs Heartbeat ∷ []

-- its heartbeat comes before it tunes
abbrev pub heartbeat_early : List LinkSaying
heartbeat_early = login ++ Theirs Heartbeat ∷ usual ++ Theirs (Method 0 OpenOk) ∷ our_close

-- it tells a greatest frame that is less than every peer takes
abbrev pub frame_below : ℕ → List LinkSaying
frame_below told = frame_max_told told 4096 ++ our_close

-- it asks for more once again, before we said more
abbrev pub asks_twice : List LinkSaying
asks_twice =
    login
    ++ Theirs (Method 0 (Secure (codes "Please tell me your password")))
    ∷ Theirs (Method 0 (Secure (codes "Please tell me your password")))
    ∷ Ours (Method 0 (SecureOk (codes "My password is hunter")))
    ∷ usual
    ++ Theirs (Method 0 OpenOk)
    ∷ our_close

-- it says that its virtual host is open before we opened it
abbrev pub opens_early : List LinkSaying
opens_early =
    login
    ++ Theirs (Method 0 (Tune 2047 131072 60))
    ∷ Ours (Method 0 (TuneOk 2047 131072 60))
    ∷ Theirs (Method 0 OpenOk)
    ∷ Ours (Method 0 (Open (codes "/")))
    ∷ our_close

-- it tunes before we logged in
abbrev pub tunes_early : List LinkSaying
tunes_early =
    Ours (ProtocolHeader (record { major = 0; minor = 9; revision = 1 }))
    ∷ Theirs start
    ∷ usual
    ++ Theirs (Method 0 OpenOk)
    ∷ our_close
