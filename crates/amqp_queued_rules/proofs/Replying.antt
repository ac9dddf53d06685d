-- What each frame that is read queues: its reply, or nothing.
use Rattle.std.proofs.Common.{◌≡◌, inl, inr, ℕ, zero, suc, nat_le, not, Bool, true, false, if◌then◌else◌, List, [], ◌∷◌, ◌++◌, Option, Some, None, Ok, Err, refl, sym, ◌∙◌, append-nil, append_assoc}
use Rattle.amqp_frame.specs.declared.frame.Frame.{Frame}
use Rattle.amqp_frame.specs.declared.frame.Frame.TheVariants.{ProtocolHeader, Method, Raw, Heartbeat}
use Rattle.amqp_frame.specs.declared.frame.RawKind.{RawKind}
use Rattle.amqp_frame.specs.declared.frame.RawKind.TheVariants.{RawMethod}
use Rattle.amqp_frame.specs.declared.method.Method.{Method as AnyMethod}
use Rattle.amqp_frame.specs.declared.method.Method.TheVariants.{Start, Secure, Tune, OpenOk, Close, CloseOk, Blocked, Unblocked, UpdateSecretOk, ChannelOpenOk, ChannelClose, ChannelCloseOk, ChannelFlow, ChannelFlowOk}
use Rattle.amqp_frame.specs.Methods.{is_of_a_channel}
use Rattle.amqp_outbox.specs.declared.item.Item.{Item}
use Rattle.amqp_outbox.specs.declared.reply.Reply.TheVariants.{ChannelOpened, ChannelClosed, FlowDone, SecretDone, ConnectionClosed}
use Rattle.amqp_outbox.specs.Items.{plain_item}
use Rattle.amqp_outbox.specs.Queued.{nothing_queued, awaited_promise, only, is_on, goes_with}
use Rattle.amqp_promise.specs.declared.error.ErrorKind.{ErrorKind}
use Rattle.amqp_promise.specs.declared.error.ErrorKind.TheVariants.{InvalidProtocolVersion, InvalidChannel, InvalidConnectionState, AuthProviderError}
use Rattle.amqp_promise.specs.declared.state.ConnectionState.{ConnectionState}
use Rattle.amqp_promise.specs.declared.state.ConnectionState.TheVariants.{Connecting, Connected, Closing}
use Rattle.amqp_promise.specs.declared.state.ChannelState.{ChannelState}
use Rattle.amqp_promise.specs.declared.state.ChannelState.TheVariants as channel
use Rattle.amqp_auth.specs.declared.asked.Asked.{Asked}
use Rattle.amqp_auth.specs.declared.asked.Asked.TheVariants as answer
use Rattle.amqp_channels.specs.declared.channels.Channel.{Channel}
use Rattle.amqp_channels.specs.declared.channels.Debt.{Debt}
use Rattle.amqp_channels.specs.declared.channels.Debt.TheVariants as debt
use Rattle.amqp_settings.specs.declared.configuration.Configuration.{Configuration}
use Rattle.amqp_rules.specs.declared.state.Phase.{Phase}
use Rattle.amqp_rules.specs.declared.state.Phase.TheVariants.{AwaitStart, AwaitTune, AwaitOpenOk}
use Rattle.amqp_rules.specs.Talk.{Talk, acts, hears_on, is_closing}
use Rattle.amqp_settings.specs.Negotiation.{tune}
use Rattle.amqp_settings.specs.Handshake.{start_ok, secure_ok, tune_ok, open_vhost, close_ok, channel_open, flow_ok, channel_close_ok}
use Rattle.amqp_violations.specs.Violations.{channel_closed_with, unawaited, stray_channel_frame, stray_connection_method}
use Rattle.amqp_rules.specs.Changes.{queue, await, lose, misplaced}
use Rattle.amqp_rules.specs.Channels.{channel_at}
use Rattle.amqp_rules.specs.ChannelMethods.{heard_on, unawaited_channel_method, channel_opened, remove_channel, remove_unless_owed, channel_closed, on_channel_flow, channel_flowed, closed_by_server, crossing_close, channel_close_by, channel_rule, channel_method_by, channel_method, is_select_ok, hand_out, confirmed, raw_by}
use Rattle.amqp_rules.specs.ConnectionMethods.{started, on_start, challenged, on_secure, on_tune, connected, reopen, reopen_each, on_open_ok, secret_taken, connection_closed, connection_rule}
use Rattle.amqp_rules.specs.Frames.{method_on, method_rule, frame_rule, closed_rule, on_frame}
use Rattle.amqp_rules.proofs.Recovering.{lose-case}
use Rattle.amqp_rules.proofs.Walk.{close_answered}
use Rattle.amqp_types.proofs.Small.{if_case}
use Rattle.amqp_queued_rules.specs.Queues.{Queues, QueuesNothing, MayQueue}
use Rattle.amqp_queued_rules.specs.Queued.{start_reply, secure_reply, tune_reply, reopenings, reply_to}
use Rattle.amqp_queued_rules.proofs.Parts.{part-all, part-same, part-tested, queues-part, queues-none, queues-same, queues-frames, queues-last}

-- a state in which nothing was queued since another
abbrev pub Silent : Talk → Talk → Type 0
Silent t x = QueuesNothing t.outbox x.outbox

-- a state in which this was queued since another, or nothing
abbrev pub Replied : List Item → Talk → Talk → Type 0
Replied frames t x = MayQueue frames t.outbox x.outbox

pub silent : (t : Talk) → Silent t t
silent t = queues-same t.outbox

-- ---- losses

pub silent-lose : (e : ErrorKind) (t : Talk) → Silent t (lose e t)
silent-lose e t = lose-case (Silent t) e t (λ delay. queues-part t.outbox nothing_queued tt tt tt) (silent t)

pub silent-misplaced : (e : ErrorKind) (t : Talk) → Silent t (misplaced e t)
silent-misplaced e t = if_case (Silent t) (is_closing t.state) t (lose e t) (silent t) (silent-lose e t)

-- ---- channels

silent-unawaited : (n : ℕ) (s : ChannelState) (m : AnyMethod) (t : Talk) → Silent t (unawaited_channel_method n s m t)
silent-unawaited n channel.Closing m t = silent t
silent-unawaited n _ m t = silent-lose (unawaited m n) t

silent-opened : (n : ℕ) (c : Channel) (o : Option (Option ℕ)) (t : Talk) → Silent t (channel_opened n c o t)
silent-opened n c None t = silent-unawaited n c.state ChannelOpenOk t
silent-opened n c (Some promise) t = queues-none t.outbox (channel_opened n c (Some promise) t).outbox refl refl refl

silent-owed : (d : Debt) (n : ℕ) (c : Channel) (t x : Talk) → Silent t x → Silent t (remove_unless_owed d n c x)
silent-owed debt.Owed n c t x h = h
silent-owed _ n c t x h = h

silent-closed : (n : ℕ) (c : Channel) (o : Option (Option ℕ)) (t : Talk) → Silent t (channel_closed n c o t)
silent-closed n c None t = silent-unawaited n c.state ChannelCloseOk t
silent-closed n c (Some promise) t =
    let x : Talk = close_answered n promise t in silent-owed c.debt n c t x (queues-none t.outbox x.outbox refl refl refl)

silent-flowed : (n : ℕ) (c : Channel) (active : Bool) (o : Option (Option ℕ)) (t : Talk) → Silent t (channel_flowed n c active o t)
silent-flowed n c active None t = silent-unawaited n c.state (ChannelFlowOk active) t
silent-flowed n c active (Some promise) t = queues-none t.outbox (channel_flowed n c active (Some promise) t).outbox refl refl refl

-- the server's flow is answered
replied-flow : (s : ChannelState) (n : ℕ) (c : Channel) (active : Bool) (t : Talk) → Replied (plain_item n (flow_ok n active) ∷ []) t (on_channel_flow s n c active t)
replied-flow channel.Closing n c active t = inl (silent t)
replied-flow _ n c active t =
    inr (queues-last t.outbox (on_channel_flow channel.Connected n c active t).outbox (plain_item n (flow_ok n active)) refl refl refl)

-- the server's close of a channel is answered
replied-close : (d : Debt) (n : ℕ) (e : ErrorKind) (c : Channel) (t : Talk) → Replied (plain_item n (channel_close_ok n) ∷ []) t (channel_close_by d n e c t)
replied-close debt.Nothing n e c t =
    let item : Item = plain_item n (channel_close_ok n) in
    if_case (Replied (item ∷ []) t) c.awaits_close_ok (crossing_close n e c t) (closed_by_server n e c t)
    (inr (queues-last t.outbox (crossing_close n e c t).outbox item refl refl refl))
    (inr
    (queues-frames t.outbox (closed_by_server n e c t).outbox (item ∷ []) _ (part-tested (λ (i : Item). not (goes_with n i)) t.outbox.control) refl
    (part-tested (λ (group : List Item). not (is_on n group)) t.outbox.publish) (part-all t.outbox.begun)))
replied-close _ n e c t = inl (silent t)

module _ (n : ℕ) (answers : List Asked) where
  replied-on-channel : (s : ConnectionState) (c : Channel) (m : AnyMethod) (t : Talk)
      → Replied (reply_to (Method (suc n) m) answers t) t (channel_rule s (suc n) c m t)
  replied-on-channel Closing c m t = inl (silent t)
  replied-on-channel _ c ChannelOpenOk t = inl (silent-opened (suc n) c (awaited_promise (suc n) ChannelOpened t.outbox) t)
  replied-on-channel _ c ChannelCloseOk t = inl (silent-closed (suc n) c (awaited_promise (suc n) ChannelClosed t.outbox) t)
  replied-on-channel _ c (ChannelClose code text class method) t = replied-close c.debt (suc n) (channel_closed_with code text) c t
  replied-on-channel _ c (ChannelFlow active) t = replied-flow c.state (suc n) c active t
  replied-on-channel _ c (ChannelFlowOk active) t = inl (silent-flowed (suc n) c active (awaited_promise (suc n) FlowDone t.outbox) t)
  replied-on-channel _ c m t = inl (silent-unawaited (suc n) c.state m t)

  replied-by-channel : (o : Option Channel) (m : AnyMethod) (t : Talk) → Replied (reply_to (Method (suc n) m) answers t) t (channel_method_by o (suc n) m t)
  replied-by-channel None m t = inl (silent-misplaced (InvalidChannel (suc n)) t)
  replied-by-channel (Some c) m t = replied-on-channel t.state c m t

  replied-method-on : (m : AnyMethod) (t : Talk) → Replied (reply_to (Method (suc n) m) answers t) t (method_on (suc n) m t)
  replied-method-on m t =
      if_case (Replied (reply_to (Method (suc n) m) answers t) t) (is_of_a_channel m) (channel_method (suc n) m t) (misplaced (stray_connection_method (suc n)) t)
      (replied-by-channel (heard_on t.state (channel_at (suc n) t)) m t) (inl (silent-misplaced (stray_connection_method (suc n)) t))

silent-raw : (o : Option Channel) (n : ℕ) (kind : RawKind) (bytes : List ℕ) (t : Talk) → Silent t (raw_by o n kind bytes t)
silent-raw None n kind bytes t = silent-misplaced (InvalidChannel n) t
silent-raw (Some c) n kind bytes t =
    if_case (λ (x : Talk). Silent t (hand_out c.opened (record { channel = n; kind = kind; bytes = bytes }) x)) (is_select_ok kind bytes) (confirmed n c t) t
    (silent t) (silent t)

-- ---- the handshake

replied-start : (answers : List Asked) (t : Talk) → Replied (start_reply answers t.config.options) t (on_start answers t)
replied-start (answer.Mechanism mechanism ∷ answer.Starter (Ok response) ∷ later) t =
    inr (queues-last t.outbox (started mechanism (Ok response) t).outbox (plain_item 0 (start_ok t.config.options mechanism response)) refl refl refl)
replied-start (answer.Mechanism mechanism ∷ answer.Starter (Err text) ∷ later) t = inl (silent-lose (AuthProviderError text) t)
replied-start _ t = inl (silent t)

replied-secure : (answers : List Asked) (t : Talk) → Replied (secure_reply answers) t (on_secure answers t)
replied-secure (answer.Challenge (Ok response) ∷ later) t =
    inr (queues-last t.outbox (challenged (Ok response) t).outbox (plain_item 0 (secure_ok response)) refl refl refl)
replied-secure (answer.Challenge (Err text) ∷ later) t = inl (silent-lose (AuthProviderError text) t)
replied-secure _ t = inl (silent t)

replied-tune : (server : Configuration) (t : Talk) → Replied (tune_reply server t) t (on_tune server t)
replied-tune server t =
    let first : Item = plain_item 0 (tune_ok (tune t.configuration server)) in
    let second : Item = plain_item 0 (open_vhost t.config.uri.vhost) in
    inr
    (queues-frames t.outbox (on_tune server t).outbox (first ∷ second ∷ []) t.outbox.control (part-all t.outbox.control)
    (append_assoc t.outbox.control (first ∷ []) (second ∷ [])) (part-all t.outbox.publish) (part-all t.outbox.begun))

-- channels that are opened again
pub reopened-control : (cs : List (ℕ × Channel)) (t : Talk) → (reopen_each cs t).outbox.control ≡ t.outbox.control ++ reopenings t.configuration.channel_max cs
reopened-control [] t = sym (append-nil t.outbox.control)
reopened-control (c ∷ cs) t =
    by (nat_le c.0 t.configuration.channel_max) (reopened-control cs (await c.0 ChannelOpened None (queue c.0 (channel_open c.0) t)))
    (reopened-control cs (remove_channel c.0 t))
  where
    by : (b : Bool)
        → (reopen_each cs (await c.0 ChannelOpened None (queue c.0 (channel_open c.0) t))).outbox.control
        ≡ (t.outbox.control ++ plain_item c.0 (channel_open c.0) ∷ []) ++ reopenings t.configuration.channel_max cs
        → (reopen_each cs (remove_channel c.0 t)).outbox.control ≡ t.outbox.control ++ reopenings t.configuration.channel_max cs
        → (reopen_each cs (if b then await c.0 ChannelOpened None (queue c.0 (channel_open c.0) t) else remove_channel c.0 t)).outbox.control
        ≡ t.outbox.control ++ (if b then plain_item c.0 (channel_open c.0) ∷ reopenings t.configuration.channel_max cs else reopenings t.configuration.channel_max cs)
    by true opened removed = opened ∙ append_assoc t.outbox.control (plain_item c.0 (channel_open c.0) ∷ []) (reopenings t.configuration.channel_max cs)
    by false opened removed = removed

pub reopened-publish : (cs : List (ℕ × Channel)) (t : Talk) → (reopen_each cs t).outbox.publish ≡ t.outbox.publish
reopened-publish [] t = refl
reopened-publish (c ∷ cs) t =
    reopened-publish cs (reopen c.0 t)
    ∙ if_case (λ (x : Talk). x.outbox.publish ≡ t.outbox.publish) (nat_le c.0 t.configuration.channel_max)
    (await c.0 ChannelOpened None (queue c.0 (channel_open c.0) t)) (remove_channel c.0 t) refl refl

pub reopened-begun : (cs : List (ℕ × Channel)) (t : Talk) → (reopen_each cs t).outbox.begun ≡ t.outbox.begun
reopened-begun [] t = refl
reopened-begun (c ∷ cs) t =
    reopened-begun cs (reopen c.0 t)
    ∙ if_case (λ (x : Talk). x.outbox.begun ≡ t.outbox.begun) (nat_le c.0 t.configuration.channel_max)
    (await c.0 ChannelOpened None (queue c.0 (channel_open c.0) t)) (remove_channel c.0 t) refl refl

queues-reopenings : (t : Talk) → Queues (reopenings t.configuration.channel_max t.channels) [] t.outbox (on_open_ok t).outbox
queues-reopenings t =
    queues-frames t.outbox (on_open_ok t).outbox (reopenings t.configuration.channel_max t.channels) t.outbox.control (part-all t.outbox.control)
    (reopened-control t.channels (connected t)) (part-same t.outbox.publish (on_open_ok t).outbox.publish (reopened-publish t.channels (connected t)))
    (part-same t.outbox.begun (on_open_ok t).outbox.begun (reopened-begun t.channels (connected t)))

-- ---- the connection

silent-secret : (o : Option (Option ℕ)) (t : Talk) → Silent t (secret_taken o t)
silent-secret None t = silent-lose (InvalidConnectionState Connected) t
silent-secret (Some None) t = queues-none t.outbox (secret_taken (Some None) t).outbox refl refl refl
silent-secret (Some (Some number)) t = queues-none t.outbox (secret_taken (Some (Some number)) t).outbox refl refl refl

silent-answered : (o : Option (Option ℕ)) (t : Talk) → Silent t (connection_closed o t)
silent-answered None t = silent t
silent-answered (Some promise) t = queues-none t.outbox (connection_closed (Some promise) t).outbox refl refl refl

-- the server's close is answered, and nothing else waits any more
queues-close-ok : (t : Talk) → Queues (plain_item 0 close_ok ∷ []) [] t.outbox (only (plain_item 0 close_ok))
queues-close-ok t = queues-frames t.outbox (only (plain_item 0 close_ok)) (plain_item 0 close_ok ∷ []) [] tt refl tt tt

module _ (answers : List Asked) where
  replied-connection : (s : ConnectionState) (p : Phase) (m : AnyMethod) (t : Talk) → Replied (reply_to (Method 0 m) answers t) t (connection_rule s p m answers t)
  replied-connection s p (Close code text class method) t = inr (queues-close-ok t)
  replied-connection s p (Blocked reason) t = inl (silent t)
  replied-connection s p Unblocked t = inl (silent t)
  replied-connection Closing p CloseOk t = inl (silent-answered (awaited_promise 0 ConnectionClosed t.outbox) t)
  replied-connection Closing p m t = inl (silent t)
  replied-connection Connecting AwaitStart (Start a b c d e) t = replied-start answers t
  replied-connection Connecting AwaitTune (Secure challenge) t = replied-secure answers t
  replied-connection Connecting AwaitTune (Tune a b d) t = replied-tune (record { channel_max = a; frame_max = b; heartbeat = d }) t
  replied-connection Connecting AwaitOpenOk OpenOk t = inr (queues-reopenings t)
  replied-connection Connected p UpdateSecretOk t = inl (silent-secret (awaited_promise 0 SecretDone t.outbox) t)
  replied-connection held p m t = inl (silent-lose (InvalidConnectionState held) t)

  replied-method : (n : ℕ) (m : AnyMethod) (t : Talk) → Replied (reply_to (Method n m) answers t) t (method_rule n m answers t)
  replied-method zero m t =
      if_case (Replied (reply_to (Method 0 m) answers t) t) (is_of_a_channel m) (misplaced (stray_channel_frame RawMethod) t)
      (connection_rule t.state t.phase m answers t) (inl (silent-misplaced (stray_channel_frame RawMethod) t)) (replied-connection t.state t.phase m t)
  replied-method (suc n) m t = replied-method-on n answers m t

  replied-rule : (f : Frame) (t : Talk) → Replied (reply_to f answers t) t (frame_rule f answers t)
  replied-rule (ProtocolHeader version) t = inl (silent-lose (InvalidProtocolVersion version) t)
  replied-rule Heartbeat t = inl (silent t)
  replied-rule (Method n m) t = replied-method n m t
  replied-rule (Raw zero kind bytes) t = inl (silent-misplaced (stray_channel_frame kind) t)
  replied-rule (Raw (suc n) kind bytes) t = inl (silent-raw (heard_on t.state (channel_at (suc n) t)) (suc n) kind bytes t)

silent-after-close : (f : Frame) (t : Talk) → Silent t (closed_rule f t)
silent-after-close (Method zero (Blocked reason)) t = silent t
silent-after-close (Method zero Unblocked) t = silent t
silent-after-close f t = silent t

-- a frame that is read queues its reply, or nothing
pub frame-replied : (f : Frame) (answers : List Asked) (t : Talk) → Replied (reply_to f answers t) t (on_frame f answers t)
frame-replied f answers t =
    if_case (Replied (reply_to f answers t) t) (acts t) (frame_rule f answers t) (if hears_on t then closed_rule f t else t) (replied-rule answers f t)
    (if_case (Replied (reply_to f answers t) t) (hears_on t) (closed_rule f t) t (inl (silent-after-close f t)) (inl (silent t)))
