-- What comes on a channel: methods of the channel class (AMQP 0-9-1, 1.5 of its reference), and frames that are passed
-- through.
use Rattle.std.specs.Prelude.{ℕ, if◌then◌else◌, Bool, true, false, List, [], ◌∷◌, ◌++◌, take, Option, Some, None, Ok, unwrap_or}
use Rattle.amqp_types.specs.declared.word.Word.TheVariants as word
use Rattle.std.specs.Str.{bytes_eq}
use Rattle.amqp_frame.specs.declared.frame.RawKind.{RawKind}
use Rattle.amqp_frame.specs.declared.frame.RawKind.TheVariants.{RawMethod}
use Rattle.amqp_frame.specs.declared.method.Method.{Method}
use Rattle.amqp_frame.specs.declared.method.Method.TheVariants.{ChannelOpenOk, ChannelClose, ChannelCloseOk, ChannelFlow, ChannelFlowOk}
use Rattle.amqp_outbox.specs.declared.reply.Reply.TheVariants.{ChannelOpened, ChannelClosed, FlowDone}
use Rattle.amqp_outbox.specs.Queued.{awaited_promise, without_awaited}
use Rattle.amqp_promise.specs.declared.state.ConnectionState.{ConnectionState}
use Rattle.amqp_promise.specs.declared.state.ConnectionState.TheVariants.{Connecting, Closing}
use Rattle.amqp_promise.specs.declared.state.ChannelState.{ChannelState}
use Rattle.amqp_promise.specs.declared.state.ChannelState.TheVariants as channel
use Rattle.amqp_channels.specs.declared.channels.Channel.{Channel}
use Rattle.amqp_channels.specs.declared.channels.Debt.{Debt}
use Rattle.amqp_channels.specs.declared.channels.Debt.TheVariants.{Nothing, Owed}
use Rattle.amqp_answers.specs.declared.handed.Handed.{Handed}
use Rattle.amqp_answers.specs.declared.answer.Answer.TheVariants.{Channel as AnswerChannel, Done, Flow}
use Rattle.amqp_promise.specs.declared.error.ErrorKind.{ErrorKind}
use Rattle.amqp_promise.specs.declared.error.ErrorKind.TheVariants.{InvalidChannel, InvalidChannelState}
use Rattle.amqp_maps.specs.Listed.{at, put, without}
use Rattle.amqp_rules.specs.Talk.{Talk}
use Rattle.amqp_rules.specs.Channels.{channel_at, set_channel}
use Rattle.amqp_channels.specs.Channels.{made_answered}
use Rattle.amqp_violations.specs.Violations.{channel_closed_with, unawaited}
use Rattle.amqp_settings.specs.Handshake.{channel_close_ok, flow_ok}
use Rattle.amqp_answers.specs.declared.event.Event.TheVariants.{SendFlow}
use Rattle.amqp_rules.specs.Changes.{queue, give_to, note, owe, drop_channel_of, drop_replies_of, lose, misplaced}

-- the listed channel that a frame comes on: until the connection is open there is none
abbrev pub heard_on : ConnectionState → Option Channel → Option Channel
heard_on Connecting c = None
heard_on _ c = c

-- a frame of a channel that is not listed
abbrev pub unlisted : ℕ → Talk → Talk
unlisted n t = misplaced (InvalidChannel n) t

-- ---- methods of the channel class

-- a method that nothing awaits: after our close of the channel it is dropped, and else it is fatal
abbrev pub unawaited_channel_method : ℕ → ChannelState → Method → Talk → Talk
unawaited_channel_method n channel.Closing method t = t
unawaited_channel_method n _ method t = lose (unawaited method n) t

-- open-ok on a listed channel, by the promise of what awaits it
abbrev pub channel_opened : ℕ → Channel → Option (Option ℕ) → Talk → Talk
channel_opened n c None t = unawaited_channel_method n c.state ChannelOpenOk t
channel_opened n c (Some promise) t =
    let opened = record t { outbox = without_awaited n ChannelOpened t.outbox } in
    give_to promise (Ok (AnswerChannel n c.opened)) (set_channel n (record c { state = channel.Connected }) opened)

-- open-ok, where it is awaited: the channel is open
abbrev pub on_channel_open_ok : ℕ → Channel → Talk → Talk
on_channel_open_ok n c t = channel_opened n c (awaited_promise n ChannelOpened t.outbox) t

-- a channel goes, and its number is free again
abbrev pub remove_channel : ℕ → Talk → Talk
remove_channel n t = record t { channels = without n t.channels }

-- our close of a channel is answered, and it goes; where the server closed it too, and our close-ok is owed, it stays
-- listed until that is sent
abbrev pub remove_unless_owed : Debt → ℕ → Channel → Talk → Talk
remove_unless_owed Owed n c t = set_channel n (made_answered c) t
remove_unless_owed _ n c t = remove_channel n t

-- close-ok on a listed channel, by the promise of what awaits it
abbrev pub channel_closed : ℕ → Channel → Option (Option ℕ) → Talk → Talk
channel_closed n c None t = unawaited_channel_method n c.state ChannelCloseOk t
channel_closed n c (Some promise) t =
    let closed = give_to promise (Ok Done) (record t { outbox = without_awaited n ChannelClosed t.outbox }) in
    remove_unless_owed c.debt n c
    (drop_replies_of n (InvalidChannelState channel.Closed word.ChannelCloseOkReceived) closed)

-- close-ok, where it is awaited: our close is answered, what else is awaited on the channel will not come, and the
-- channel goes
abbrev pub on_channel_close_ok : ℕ → Channel → Talk → Talk
on_channel_close_ok n c t = channel_closed n c (awaited_promise n ChannelClosed t.outbox) t

-- flow on a listed channel: the server lets content be published on it or not, which is answered, and told; after our
-- close of the channel it is dropped
abbrev pub on_channel_flow : ChannelState → ℕ → Channel → Bool → Talk → Talk
on_channel_flow channel.Closing n c active t = t
on_channel_flow _ n c active t =
    note (SendFlow active) (queue n (flow_ok n active) (set_channel n (record c { flow = active }) t))

-- flow-ok on a listed channel, by the promise of what awaits it
abbrev pub channel_flowed : ℕ → Channel → Bool → Option (Option ℕ) → Talk → Talk
channel_flowed n c active None t = unawaited_channel_method n c.state (ChannelFlowOk active) t
channel_flowed n c active (Some promise) t =
    give_to promise (Ok (Flow active)) (record t { outbox = without_awaited n FlowDone t.outbox })

-- flow-ok, where it is awaited: the server starts or stops to send content, as it was told
abbrev pub on_channel_flow_ok : ℕ → Channel → Bool → Talk → Talk
on_channel_flow_ok n c active t = channel_flowed n c active (awaited_promise n FlowDone t.outbox) t

-- the server closes a channel that we use: all that goes with it goes, and close-ok is owed; a group that has begun
-- goes out first
abbrev pub closed_by_server : ℕ → ErrorKind → Channel → Talk → Talk
closed_by_server n e c t =
    owe n e
    (queue n (channel_close_ok n)
    (drop_channel_of n e (set_channel n (record c { state = channel.Closing; debt = Owed }) t)))

-- it closes a channel that we closed: close-ok is owed too
abbrev pub crossing_close : ℕ → ErrorKind → Channel → Talk → Talk
crossing_close n e c t = owe n e (queue n (channel_close_ok n) (set_channel n (record c { debt = Owed }) t))

-- the server's close of a channel, by what is owed: one that owes already, or paid, is not answered again
abbrev pub channel_close_by : Debt → ℕ → ErrorKind → Channel → Talk → Talk
channel_close_by Nothing n e c t = if c.awaits_close_ok then crossing_close n e c t else closed_by_server n e c t
channel_close_by _ n e c t = t

-- the server's close of a channel, which is answered once
abbrev pub on_channel_close : ℕ → ℕ → List ℕ → Channel → Talk → Talk
on_channel_close n code text c t =
    channel_close_by c.debt n (channel_closed_with code text) c t

-- a method of the channel class on a listed channel: after our close of the connection it is dropped
abbrev pub channel_rule : ConnectionState → ℕ → Channel → Method → Talk → Talk
channel_rule Closing n c method t = t
channel_rule _ n c ChannelOpenOk t = on_channel_open_ok n c t
channel_rule _ n c ChannelCloseOk t = on_channel_close_ok n c t
channel_rule _ n c (ChannelClose code text class method) t = on_channel_close n code text c t
channel_rule _ n c (ChannelFlow active) t = on_channel_flow c.state n c active t
channel_rule _ n c (ChannelFlowOk active) t = on_channel_flow_ok n c active t
channel_rule _ n c method t = unawaited_channel_method n c.state method t

-- a method of the channel class, by the listed channel that it comes on
abbrev pub channel_method_by : Option Channel → ℕ → Method → Talk → Talk
channel_method_by None n method t = unlisted n t
channel_method_by (Some c) n method t = channel_rule t.state n c method t

-- a method of the channel class on another channel than 0
abbrev pub channel_method : ℕ → Method → Talk → Talk
channel_method n method t = channel_method_by (heard_on t.state (channel_at n t)) n method t

-- ---- frames that are passed through

-- confirm.select-ok: a method of class 85 and method 11
abbrev pub is_select_ok : RawKind → List ℕ → Bool
is_select_ok RawMethod bytes = bytes_eq (take 4 bytes) (0 ∷ 85 ∷ 0 ∷ 11 ∷ [])
is_select_ok _ bytes = false

-- the frames handed out of a channel that a promise opened, and not yet taken
abbrev pub frames_of : ℕ → Talk → List Handed
frames_of opened t = unwrap_or (at opened t.handed) []

-- a frame goes last among those handed out
abbrev pub hand_out : ℕ → Handed → Talk → Talk
hand_out opened h t = record t { handed = put opened (frames_of opened t ++ h ∷ []) t.handed }

-- the channel is in confirm mode
abbrev pub confirmed : ℕ → Channel → Talk → Talk
confirmed n c t = set_channel n (record c { confirm = true }) t

-- a frame of a listed channel is handed out; where it is confirm.select-ok, the channel is in confirm mode from then on
abbrev pub pass_through : ℕ → Channel → RawKind → List ℕ → Talk → Talk
pass_through n c kind bytes t =
    hand_out c.opened (record { channel = n; kind = kind; bytes = bytes })
    (if is_select_ok kind bytes then confirmed n c t else t)

-- a frame that is passed through, by the listed channel that it comes on
abbrev pub raw_by : Option Channel → ℕ → RawKind → List ℕ → Talk → Talk
raw_by None n kind bytes t = unlisted n t
raw_by (Some c) n kind bytes t = pass_through n c kind bytes t

-- a frame that is passed through, on another channel than 0
abbrev pub raw_frame : ℕ → RawKind → List ℕ → Talk → Talk
raw_frame n kind bytes t = raw_by (heard_on t.state (channel_at n t)) n kind bytes t
