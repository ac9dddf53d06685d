-- By which errors a frame that is read loses the link: the session recovers from each of them, or ends with it.
use Rattle.std.specs.Prelude.{◌≡◌, ◌≢◌, ◌⊎◌, not, ℕ, zero, suc, Bool, true, false, IsTrue, IsFalse, List, [], ◌∷◌, Option, Some, None, is_some, Err}
use Rattle.amqp_frame.specs.declared.frame.Frame.{Frame}
use Rattle.amqp_frame.specs.declared.frame.Frame.TheVariants.{ProtocolHeader, Method, Raw}
use Rattle.amqp_frame.specs.declared.frame.RawKind.TheVariants.{RawMethod}
use Rattle.amqp_frame.specs.declared.method.Method.{Method as AnyMethod}
use Rattle.amqp_frame.specs.declared.method.Method.TheVariants.{Start, Secure, Tune, OpenOk, Close, Blocked, Unblocked, UpdateSecretOk, ChannelOpenOk, ChannelFlow, ChannelFlowOk, ChannelClose, ChannelCloseOk}
use Rattle.amqp_outbox.specs.declared.reply.Reply.TheVariants.{ChannelOpened, ChannelClosed, FlowDone, SecretDone}
use Rattle.amqp_outbox.specs.Queued.{awaited_promise}
use Rattle.amqp_channels.specs.declared.channels.Channel.{Channel}
use Rattle.amqp_promise.specs.declared.state.ChannelState.TheVariants as channel
use Rattle.amqp_promise.specs.declared.state.ConnectionState.{ConnectionState}
use Rattle.amqp_promise.specs.declared.state.ConnectionState.TheVariants.{Connecting, Connected}
use Rattle.amqp_rules.specs.declared.state.Phase.{Phase}
use Rattle.amqp_rules.specs.declared.state.Phase.TheVariants.{AwaitStart, AwaitTune, AwaitOpenOk}
use Rattle.amqp_promise.specs.declared.error.ErrorKind.{ErrorKind}
use Rattle.amqp_promise.specs.declared.error.ErrorKind.TheVariants.{ProtocolError, InvalidProtocolVersion, InvalidConnectionState, InvalidChannel, AuthProviderError}
use Rattle.amqp_auth.specs.declared.asked.Question.{Question}
use Rattle.amqp_auth.specs.declared.asked.Question.TheVariants as question
use Rattle.amqp_auth.specs.declared.asked.Asked.{Asked}
use Rattle.amqp_auth.specs.declared.asked.Asked.TheVariants as answer
use Rattle.amqp_rules.specs.Talk.{Talk, is_closing}
use Rattle.amqp_rules.specs.Channels.{channel_at}
use Rattle.amqp_frame.specs.Methods.{is_of_a_channel}
use Rattle.amqp_rules.specs.Frames.{questions_in}
use Rattle.amqp_violations.specs.Violations.{stray_channel_frame, stray_connection_method, unawaited}

-- ---- the connection

-- a new secret was told that the server did not answer yet
abbrev pub is_secret_told : Talk → Bool
is_secret_told t = is_some (awaited_promise 0 SecretDone t.outbox)

-- a method of the connection class that is due before our close: what the handshake awaits, and what a new secret
-- awaits, where one was told; the server may close, block and unblock at any time
abbrev pub is_due : AnyMethod → Bool → ConnectionState → Phase → Bool
is_due (Close code text class method) told state phase = true
is_due (Blocked reason) told state phase = true
is_due Unblocked told state phase = true
is_due (Start major minor properties mechanisms locales) told Connecting AwaitStart = true
is_due (Secure challenge) told Connecting AwaitTune = true
is_due (Tune channel_max frame_max heartbeat) told Connecting AwaitTune = true
is_due OpenOk told Connecting AwaitOpenOk = true
is_due UpdateSecretOk told Connected phase = told
is_due _ told state phase = false

-- a method of the connection class that is not due
abbrev pub IsUndue : Frame → Talk → Type 0
IsUndue (Method zero m) t = IsFalse (is_of_a_channel m) × IsFalse (is_due m (is_secret_told t) t.state t.phase)
IsUndue _ t = ⊥

-- 504 for what belongs to a channel and came on channel 0, and 503 for a method of the connection class that came on
-- another
abbrev pub IsMisplaced : ErrorKind → Frame → Type 0
IsMisplaced e (Method zero m) = IsTrue (is_of_a_channel m) × (e ≡ stray_channel_frame RawMethod)
IsMisplaced e (Method n m) = IsFalse (is_of_a_channel m) × (e ≡ stray_connection_method n)
IsMisplaced e (Raw zero kind bytes) = e ≡ stray_channel_frame kind
IsMisplaced e _ = ⊥

-- ---- a channel

-- a frame that belongs to this channel, which is not 0
abbrev pub IsOfChannel : ℕ → Frame → Type 0
IsOfChannel (suc n) (Method m method) = (m ≡ suc n) × IsTrue (is_of_a_channel method)
IsOfChannel (suc n) (Raw m kind bytes) = m ≡ suc n
IsOfChannel n _ = ⊥

-- on a channel nothing is heard: it is not listed, or the connection is still being opened
abbrev pub IsUnheard : ℕ → Talk → Type 0
IsUnheard n t = (channel_at n t ≡ None) ⊎ (t.state ≡ Connecting)

-- a channel is heard, and we did not close it
abbrev pub IsInUse : ℕ → Talk → Type 0
IsInUse n t = (t.state ≢ Connecting) × ((c : Channel) × (channel_at n t ≡ Some c) × (c.state ≢ channel.Closing))

-- a reply is awaited that this method is; flow and close are replies to nothing, and may come at any time
abbrev pub is_awaited : AnyMethod → ℕ → Talk → Bool
is_awaited ChannelOpenOk n t = is_some (awaited_promise n ChannelOpened t.outbox)
is_awaited ChannelCloseOk n t = is_some (awaited_promise n ChannelClosed t.outbox)
is_awaited (ChannelFlow active) n t = true
is_awaited (ChannelClose code text class method) n t = true
is_awaited (ChannelFlowOk active) n t = is_some (awaited_promise n FlowDone t.outbox)
is_awaited _ n t = false

-- 505 for a method of the channel class that nothing awaits
abbrev pub IsUnawaited : ErrorKind → Frame → Talk → Type 0
IsUnawaited e (Method (suc n) m) t =
    IsTrue (is_of_a_channel m) × IsInUse (suc n) t × IsFalse (is_awaited m (suc n) t) × (e ≡ unawaited m (suc n))
IsUnawaited e _ t = ⊥

-- ---- a frame

-- frames are judged, whether they may come: after our close of the connection none is
abbrev pub is_judged : Talk → Bool
is_judged t = not (is_closing t.state)

-- the text by which the provider refused what a frame asked
abbrev pub refused_in : List Question → List Asked → Option (List ℕ)
refused_in (question.Mechanism ∷ question.Starter ∷ []) (answer.Mechanism name ∷ answer.Starter (Err text) ∷ later) =
    Some text
refused_in (question.Challenge challenge ∷ []) (answer.Challenge (Err text) ∷ later) = Some text
refused_in asked answers = None

-- the error that is brought by a frame which is judged
abbrev pub IsJudgedError : ErrorKind → Frame → Talk → Type 0
IsJudgedError (InvalidConnectionState state) f t = IsUndue f t × (t.state ≡ state)
IsJudgedError (InvalidChannel channel) f t = IsOfChannel channel f × IsUnheard channel t
IsJudgedError (ProtocolError e) f t = IsMisplaced (ProtocolError e) f ⊎ IsUnawaited (ProtocolError e) f t
IsJudgedError _ f t = ⊥

-- the error is brought by a frame, with what the provider answers to what it asks: a protocol header has its own, and
-- so has the refusal of a start or of a challenge
abbrev pub IsFrameError : ErrorKind → Frame → List Asked → Talk → Type 0
IsFrameError (InvalidProtocolVersion version) (ProtocolHeader v) answers t = v ≡ version
IsFrameError (AuthProviderError text) f answers t = refused_in (questions_in f t) answers ≡ Some text
IsFrameError e f answers t = IsTrue (is_judged t) × IsJudgedError e f t
