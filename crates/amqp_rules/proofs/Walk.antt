-- One walk over the rules of the session: what each rule that does something keeps, a frame, a tick and a command keep.
use Rattle.std.proofs.Common.{◌≡◌, ℕ, zero, suc, nat_le, if◌then◌else◌, Bool, true, false, true≢false, List, [], ◌∷◌, Option, Some, None, Result, Ok, Err, refl, sym, ap}
use Rattle.std.specs.Prelude.{codes}
use Rattle.amqp_frame.specs.declared.frame.Frame.{Frame}
use Rattle.amqp_frame.specs.declared.frame.Frame.TheVariants.{ProtocolHeader, Method, Raw, Heartbeat}
use Rattle.amqp_frame.specs.declared.frame.RawKind.{RawKind}
use Rattle.amqp_frame.specs.declared.frame.RawKind.TheVariants.{RawMethod}
use Rattle.amqp_frame.specs.declared.method.Method.{Method as AnyMethod}
use Rattle.amqp_frame.specs.declared.method.Method.TheVariants.{Start, Secure, Tune, OpenOk, Close, CloseOk, Blocked, Unblocked, UpdateSecretOk, ChannelOpenOk, ChannelClose, ChannelCloseOk, ChannelFlow, ChannelFlowOk}
use Rattle.amqp_frame.specs.RawMethods.{OtherMethod}
use Rattle.amqp_outbox.specs.declared.reply.Reply.TheVariants.{ChannelOpened, ChannelClosed, FlowDone, SecretDone, ConnectionClosed}
use Rattle.amqp_outbox.specs.Queued.{awaited_promise, without_awaited}
use Rattle.amqp_types.specs.declared.word.Word.TheVariants as word
use Rattle.amqp_promise.specs.declared.state.ConnectionState.{ConnectionState}
use Rattle.amqp_promise.specs.declared.state.ConnectionState.TheVariants.{Connecting, Connected, Closing}
use Rattle.amqp_promise.specs.declared.state.ChannelState.{ChannelState}
use Rattle.amqp_promise.specs.declared.state.ChannelState.TheVariants as channel
use Rattle.amqp_promise.specs.declared.error.ErrorKind.{ErrorKind}
use Rattle.amqp_promise.specs.declared.error.ErrorKind.TheVariants.{InvalidProtocolVersion, InvalidChannel, InvalidChannelState, InvalidConnectionState, AuthProviderError, MissingHeartbeatError}
use Rattle.amqp_channels.specs.declared.channels.Channel.{Channel}
use Rattle.amqp_channels.specs.declared.channels.Debt.{Debt}
use Rattle.amqp_channels.specs.declared.channels.Debt.TheVariants as debt
use Rattle.amqp_settings.specs.declared.configuration.Configuration.{Configuration}
use Rattle.amqp_rules.specs.declared.state.Phase.{Phase}
use Rattle.amqp_rules.specs.declared.state.Phase.TheVariants.{AwaitStart, AwaitTune, AwaitOpenOk}
use Rattle.amqp_commands.specs.declared.command.Cmd.{Cmd}
use Rattle.amqp_commands.specs.declared.command.Cmd.TheVariants.{OpenChannel, CloseChannel, CloseConnection, UpdateSecret, Send, Publish, Flow, DropChannel, DropConnection, Listen}
use Rattle.amqp_answers.specs.declared.answer.Answer.TheVariants.{Done}
use Rattle.amqp_answers.specs.declared.handed.Handed.{Handed}
use Rattle.amqp_violations.specs.declared.misread.Misread.{Misread}
use Rattle.amqp_auth.specs.declared.asked.Asked.{Asked}
use Rattle.amqp_rules.specs.Talk.{Talk, acts, hears_on, is_closing, is_open}
use Rattle.amqp_rules.specs.Changes.{queue, await, give_to, drop_replies_of, promise, next_promise, refuse, lose, misplaced, close, tell_owed}
use Rattle.amqp_rules.specs.Links.{dropped, misread}
use Rattle.amqp_violations.specs.Violations.{channel_closed_with, misread_error, stray_channel_frame, stray_connection_method, unawaited}
use Rattle.amqp_settings.specs.Handshake.{channel_open, new_secret}
use Rattle.amqp_commands.specs.Publishing.{method_frame, publish_frames}
use Rattle.amqp_channels.specs.Numbering.{first_number, drawn}
use Rattle.amqp_rules.specs.Channels.{channel_at, set_channel}
use Rattle.amqp_channels.specs.Channels.{made_answered, is_owed}
use Rattle.amqp_rules.specs.Writing.{pay, paid_by}
use Rattle.amqp_rules.specs.ConnectionMethods.{started, on_start, challenged, on_secure, on_tune, connected, reopen, reopen_each, on_blocked, on_unblocked, secret_taken, on_connection_close, connection_closed, connection_rule}
use Rattle.amqp_rules.specs.ChannelMethods.{heard_on, unawaited_channel_method, channel_opened, remove_channel, remove_unless_owed, channel_closed, on_channel_flow, channel_flowed, closed_by_server, crossing_close, channel_close_by, channel_rule, channel_method_by, channel_method, is_select_ok, hand_out, confirmed, raw_by, raw_frame}
use Rattle.amqp_rules.specs.Frames.{method_on, method_rule, frame_rule, closed_rule, on_frame}
use Rattle.amqp_frame.specs.Methods.{is_of_a_channel}
use Rattle.amqp_rules.specs.Commands.{target, open_as, open_none, open_drawn, leave_channel, close_target, drop_target, too_long, unless_too_long, too_full, unless_full, queue_send, send_target, body_limit, queue_publish, publish_target, tell_flow, flow_target, queue_secret, leave_connection, listen, command_rule, command}
use Rattle.amqp_rules.specs.Ticks.{is_connected, is_missed, is_heartbeat_due, missing_heartbeat, beat, refreshed, link_due, timed, tick}
use Rattle.amqp_rules.proofs.Heard.{start-case, secure-case, secret-case}
use Rattle.amqp_types.proofs.Small.{if_case, if_by}

-- ---- the rows

-- our close of a channel is answered, and what else is awaited on it will not come
abbrev pub close_answered : ℕ → Option ℕ → Talk → Talk
close_answered n promise t =
    drop_replies_of n (InvalidChannelState channel.Closed word.ChannelCloseOkReceived)
    (give_to promise (Ok Done) (record t { outbox = without_awaited n ChannelClosed t.outbox }))

-- what methods of the channel class do
pub record ChannelRows (P : Talk → Type 0) : Type 0 where
  pub lost : (e : ErrorKind) (t : Talk) → P t → P (lose e t)
  pub opened : (n : ℕ) (c : Channel) (promise : Option ℕ) (t : Talk) → awaited_promise n ChannelOpened t.outbox ≡ Some promise → P t → P (channel_opened n c (Some promise) t)
  pub closed : (n : ℕ) (promise : Option ℕ) (t : Talk) → awaited_promise n ChannelClosed t.outbox ≡ Some promise → P t → P (close_answered n promise t)
  pub answered : (n : ℕ) (c : Channel) (t : Talk) → P t → P (set_channel n (made_answered c) t)
  pub removed : (n : ℕ) (t : Talk) → P t → P (remove_channel n t)
  pub flow : (n : ℕ) (c : Channel) (active : Bool) (t : Talk) → P t → P (on_channel_flow channel.Connected n c active t)
  pub flowed : (n : ℕ) (c : Channel) (active : Bool) (promise : Option ℕ) (t : Talk) → awaited_promise n FlowDone t.outbox ≡ Some promise → P t → P (channel_flowed n c active (Some promise) t)
  pub server_closed : (n : ℕ) (e : ErrorKind) (c : Channel) (t : Talk) → P t → P (closed_by_server n e c t)
  pub crossed : (n : ℕ) (e : ErrorKind) (c : Channel) (t : Talk) → P t → P (crossing_close n e c t)

-- what frames do that are passed through
pub record PassedRows (P : Talk → Type 0) : Type 0 where
  pub confirms : (n : ℕ) (c : Channel) (t : Talk) → P t → P (confirmed n c t)
  pub hands : (opened : ℕ) (h : Handed) (t : Talk) → P t → P (hand_out opened h t)

-- what methods of the connection class do, with what the provider answers
pub record ConnectionRows (P : Talk → Type 0) (answers : List Asked) : Type 0 where
  pub starts : (t : Talk) → t.state ≡ Connecting → P t → P (on_start answers t)
  pub secures : (t : Talk) → P t → P (on_secure answers t)
  pub tunes : (server : Configuration) (t : Talk) → P t → P (on_tune server t)
  pub connects : (t : Talk) → t.state ≡ Connecting → t.phase ≡ AwaitOpenOk → P t → P (connected t)
  pub reopens : (n : ℕ) (t : Talk) → P t → P (await n ChannelOpened None (queue n (channel_open n) t))
  pub blocks : (reason : List ℕ) (t : Talk) → P t → P (on_blocked reason t)
  pub unblocks : (t : Talk) → P t → P (on_unblocked t)
  pub refreshes : (t : Talk) → awaited_promise 0 SecretDone t.outbox ≡ Some None → P t → P (secret_taken (Some None) t)
  pub renews : (number : ℕ) (t : Talk) → awaited_promise 0 SecretDone t.outbox ≡ Some (Some number) → P t → P (secret_taken (Some (Some number)) t)
  pub server_closes : (code : ℕ) (text : List ℕ) (t : Talk) → P t → P (on_connection_close code text t)
  pub closes : (t : Talk) → P t → P (close t)
  pub answers_close : (promise : Option ℕ) (t : Talk) → P t → P (connection_closed (Some promise) t)

-- what a tick does
pub record TickRows (P : Talk → Type 0) : Type 0 where
  pub lost : (e : ErrorKind) (t : Talk) → P t → P (lose e t)
  pub beats : (t : Talk) → P t → P (record (queue 0 Heartbeat t) { last_write = t.present })
  pub refreshes : (secret : List ℕ) (t : Talk) → P t → P (refreshed (Ok secret) t)
  pub retains : (text : List ℕ) (t : Talk) → P t → P (refreshed (Err text) t)
  pub wants : (t : Talk) → P t → P (link_due t)

-- what commands do, but for our close of the connection
pub record CommandRows (P : Talk → Type 0) : Type 0 where
  pub refuses : (e : ErrorKind) (t : Talk) → P t → P (refuse e t)
  pub promises : (t : Talk) → P t → P (promise t)
  pub opens : (n : ℕ) (t : Talk) → P t → P (open_as n t)
  pub opens_none : (first : ℕ) (t : Talk) → P t → P (open_none first t)
  pub leaves_channel : (n code : ℕ) (text : List ℕ) (c : Channel) (answers : Option ℕ) (t : Talk) → P t → P (leave_channel n code text c answers t)
  pub sends : (n : ℕ) (m : OtherMethod) (t : Talk) → P t → P (queue_send n (method_frame n m) t)
  pub publishes : (n : ℕ) (m : OtherMethod) (properties body : List ℕ) (t : Talk) → P t → P (queue_publish n (publish_frames n m properties body (body_limit t)) t)
  pub flows : (n : ℕ) (active : Bool) (t : Talk) → P t → P (tell_flow n active t)
  pub tells_secret : (secret reason : List ℕ) (t : Talk) → P t → P (queue_secret (new_secret secret reason) t)
  pub listens : (t : Talk) → P t → P (listen t)

-- ---- what a lost link keeps

module _ (P : Talk → Type 0) (lost : (e : ErrorKind) (t : Talk) → P t → P (lose e t)) where
  pub misplaced-keeps : (e : ErrorKind) (t : Talk) → P t → P (misplaced e t)
  misplaced-keeps e t h = if_case P (is_closing t.state) t (lose e t) h (lost e t h)

  -- what was read is no frame
  pub misread-keeps : ((t : Talk) → P t → P (record t { input = dropped t.input })) → (why : Misread) (t : Talk) → P t → P (misread why t)
  misread-keeps drops why t h =
      if_case P (acts t) (lose (misread_error why) t) (if is_open t then record t { input = dropped t.input } else t) (lost (misread_error why) t h)
      (if_case P (is_open t) (record t { input = dropped t.input }) t (drops t h) h)

  -- start, and a challenge, by what the provider answers where it does not refuse
  pub start-keeps : (answers : List Asked) (t : Talk) → P t → ((mechanism response : List ℕ) → P (started mechanism (Ok response) t)) → P (on_start answers t)
  start-keeps answers t h by = start-case P answers t h said where
    said : (mechanism : List ℕ) (r : Result (List ℕ) (List ℕ)) → P (started mechanism r t)
    said mechanism (Ok response) = by mechanism response
    said mechanism (Err text) = lost (AuthProviderError text) t h

  pub secure-keeps : (answers : List Asked) (t : Talk) → P t → ((response : List ℕ) → P (challenged (Ok response) t)) → P (on_secure answers t)
  secure-keeps answers t h by = secure-case P answers t h said where
    said : (r : Result (List ℕ) (List ℕ)) → P (challenged r t)
    said (Ok response) = by response
    said (Err text) = lost (AuthProviderError text) t h

-- ---- channels

module _ (P : Talk → Type 0) (rows : ChannelRows P) where
  unawaited-keeps : (n : ℕ) (s : ChannelState) (m : AnyMethod) (t : Talk) → P t → P (unawaited_channel_method n s m t)
  unawaited-keeps n channel.Closing m t h = h
  unawaited-keeps n _ m t h = rows.lost (unawaited m n) t h

  opened-keeps : (n : ℕ) (c : Channel) (o : Option (Option ℕ)) (t : Talk) → awaited_promise n ChannelOpened t.outbox ≡ o → P t → P (channel_opened n c o t)
  opened-keeps n c None t is h = unawaited-keeps n c.state ChannelOpenOk t h
  opened-keeps n c (Some promise) t is h = rows.opened n c promise t is h

  owed-keeps : (d : Debt) (n : ℕ) (c : Channel) (t : Talk) → P t → P (remove_unless_owed d n c t)
  owed-keeps debt.Owed n c t h = rows.answered n c t h
  owed-keeps _ n c t h = rows.removed n t h

  closed-keeps : (n : ℕ) (c : Channel) (o : Option (Option ℕ)) (t : Talk) → awaited_promise n ChannelClosed t.outbox ≡ o → P t → P (channel_closed n c o t)
  closed-keeps n c None t is h = unawaited-keeps n c.state ChannelCloseOk t h
  closed-keeps n c (Some promise) t is h = owed-keeps c.debt n c (close_answered n promise t) (rows.closed n promise t is h)

  flow-keeps : (s : ChannelState) (n : ℕ) (c : Channel) (active : Bool) (t : Talk) → P t → P (on_channel_flow s n c active t)
  flow-keeps channel.Closing n c active t h = h
  flow-keeps _ n c active t h = rows.flow n c active t h

  flowed-keeps : (n : ℕ) (c : Channel) (active : Bool) (o : Option (Option ℕ)) (t : Talk) → awaited_promise n FlowDone t.outbox ≡ o → P t → P (channel_flowed n c active o t)
  flowed-keeps n c active None t is h = unawaited-keeps n c.state (ChannelFlowOk active) t h
  flowed-keeps n c active (Some promise) t is h = rows.flowed n c active promise t is h

  server-close-keeps : (d : Debt) (n : ℕ) (e : ErrorKind) (c : Channel) (t : Talk) → P t → P (channel_close_by d n e c t)
  server-close-keeps debt.Nothing n e c t h =
      if_case P c.awaits_close_ok (crossing_close n e c t) (closed_by_server n e c t) (rows.crossed n e c t h) (rows.server_closed n e c t h)
  server-close-keeps _ n e c t h = h

  channel-keeps : (s : ConnectionState) (n : ℕ) (c : Channel) (m : AnyMethod) (t : Talk) → P t → P (channel_rule s n c m t)
  channel-keeps Closing n c m t h = h
  channel-keeps _ n c ChannelOpenOk t h = opened-keeps n c (awaited_promise n ChannelOpened t.outbox) t refl h
  channel-keeps _ n c ChannelCloseOk t h = closed-keeps n c (awaited_promise n ChannelClosed t.outbox) t refl h
  channel-keeps _ n c (ChannelClose code text class method) t h = server-close-keeps c.debt n (channel_closed_with code text) c t h
  channel-keeps _ n c (ChannelFlow active) t h = flow-keeps c.state n c active t h
  channel-keeps _ n c (ChannelFlowOk active) t h = flowed-keeps n c active (awaited_promise n FlowDone t.outbox) t refl h
  channel-keeps _ n c m t h = unawaited-keeps n c.state m t h

  channel-by-keeps : (o : Option Channel) (n : ℕ) (m : AnyMethod) (t : Talk) → P t → P (channel_method_by o n m t)
  channel-by-keeps None n m t h = misplaced-keeps P rows.lost (InvalidChannel n) t h
  channel-by-keeps (Some c) n m t h = channel-keeps t.state n c m t h

  -- a method on another channel than 0
  pub channel-method-keeps : (n : ℕ) (m : AnyMethod) (t : Talk) → P t → P (method_on n m t)
  channel-method-keeps n m t h =
      if_case P (is_of_a_channel m) (channel_method n m t) (misplaced (stray_connection_method n) t)
      (channel-by-keeps (heard_on t.state (channel_at n t)) n m t h) (misplaced-keeps P rows.lost (stray_connection_method n) t h)

module _ (P : Talk → Type 0) (lost : (e : ErrorKind) (t : Talk) → P t → P (lose e t)) (rows : PassedRows P) where
  raw-by-keeps : (o : Option Channel) (n : ℕ) (kind : RawKind) (bytes : List ℕ) (t : Talk) → P t → P (raw_by o n kind bytes t)
  raw-by-keeps None n kind bytes t h = misplaced-keeps P lost (InvalidChannel n) t h
  raw-by-keeps (Some c) n kind bytes t h =
      rows.hands c.opened (record { channel = n; kind = kind; bytes = bytes }) (if is_select_ok kind bytes then confirmed n c t else t)
      (if_case P (is_select_ok kind bytes) (confirmed n c t) t (rows.confirms n c t h) h)

  -- a frame that is passed through
  pub raw-keeps : (n : ℕ) (kind : RawKind) (bytes : List ℕ) (t : Talk) → P t → P (raw_frame n kind bytes t)
  raw-keeps n kind bytes t h = raw-by-keeps (heard_on t.state (channel_at n t)) n kind bytes t h

-- ---- the connection, and frames

module _ (P : Talk → Type 0) (answers : List Asked) (channels : ChannelRows P) (rows : ConnectionRows P answers) where
  reopened-keeps : (cs : List (ℕ × Channel)) (t : Talk) → P t → P (reopen_each cs t)
  reopened-keeps [] t h = h
  reopened-keeps (c ∷ cs) t h =
      reopened-keeps cs (reopen c.0 t)
      (if_case P (nat_le c.0 t.configuration.channel_max) (await c.0 ChannelOpened None (queue c.0 (channel_open c.0) t)) (remove_channel c.0 t)
      (rows.reopens c.0 t h) (channels.removed c.0 t h))

  connection-closed-keeps : (o : Option (Option ℕ)) (t : Talk) → P t → P (connection_closed o t)
  connection-closed-keeps None t h = rows.closes t h
  connection-closed-keeps (Some promise) t h = rows.answers_close promise t h

  secret-taken-keeps : (o : Option (Option ℕ)) (t : Talk) → awaited_promise 0 SecretDone t.outbox ≡ o → P t → P (secret_taken o t)
  secret-taken-keeps None t is h = channels.lost (InvalidConnectionState Connected) t h
  secret-taken-keeps (Some None) t is h = rows.refreshes t is h
  secret-taken-keeps (Some (Some number)) t is h = rows.renews number t is h

  connection-keeps : (s : ConnectionState) (p : Phase) (m : AnyMethod) (t : Talk) → t.state ≡ s → t.phase ≡ p → P t → P (connection_rule s p m answers t)
  connection-keeps s p (Close code text class method) t hs hp h = rows.server_closes code text t h
  connection-keeps s p (Blocked reason) t hs hp h = rows.blocks reason t h
  connection-keeps s p Unblocked t hs hp h = rows.unblocks t h
  connection-keeps Closing p CloseOk t hs hp h = connection-closed-keeps (awaited_promise 0 ConnectionClosed t.outbox) t h
  connection-keeps Closing p m t hs hp h = h
  connection-keeps Connecting AwaitStart (Start a b c d e) t hs hp h = rows.starts t hs h
  connection-keeps Connecting AwaitTune (Secure challenge) t hs hp h = rows.secures t h
  connection-keeps Connecting AwaitTune (Tune a b c) t hs hp h = rows.tunes (record { channel_max = a; frame_max = b; heartbeat = c }) t h
  connection-keeps Connecting AwaitOpenOk OpenOk t hs hp h = reopened-keeps t.channels (connected t) (rows.connects t hs hp h)
  connection-keeps Connected p UpdateSecretOk t hs hp h = secret-taken-keeps (awaited_promise 0 SecretDone t.outbox) t refl h
  connection-keeps held p m t hs hp h = channels.lost (InvalidConnectionState held) t h

  -- a method
  pub method-keeps : (n : ℕ) (m : AnyMethod) (t : Talk) → P t → P (method_rule n m answers t)
  method-keeps zero m t h =
      if_case P (is_of_a_channel m) (misplaced (stray_channel_frame RawMethod) t) (connection_rule t.state t.phase m answers t)
      (misplaced-keeps P channels.lost (stray_channel_frame RawMethod) t h) (connection-keeps t.state t.phase m t refl refl h)
  method-keeps (suc n) m t h = channel-method-keeps P channels (suc n) m t h

  closed-rule-keeps : (f : Frame) (t : Talk) → P t → P (closed_rule f t)
  closed-rule-keeps (Method zero (Blocked reason)) t h = rows.blocks reason t h
  closed-rule-keeps (Method zero Unblocked) t h = rows.unblocks t h
  closed-rule-keeps f t h = h

  -- a frame, by the rule that it goes by where frames act
  pub acting-keeps : (f : Frame) (t : Talk) → P t → P (frame_rule f answers t) → P (on_frame f answers t)
  acting-keeps f t h k =
      if_case P (acts t) (frame_rule f answers t) (if hears_on t then closed_rule f t else t) k
      (if_case P (hears_on t) (closed_rule f t) t (closed-rule-keeps f t h) h)

  rule-keeps : PassedRows P → (f : Frame) (t : Talk) → P t → P (frame_rule f answers t)
  rule-keeps passed (ProtocolHeader version) t h = channels.lost (InvalidProtocolVersion version) t h
  rule-keeps passed Heartbeat t h = h
  rule-keeps passed (Method n m) t h = method-keeps n m t h
  rule-keeps passed (Raw zero kind bytes) t h = misplaced-keeps P channels.lost (stray_channel_frame kind) t h
  rule-keeps passed (Raw (suc n) kind bytes) t h = raw-keeps P channels.lost passed (suc n) kind bytes t h

  -- a frame
  pub frame-keeps : PassedRows P → (f : Frame) (t : Talk) → P t → P (on_frame f answers t)
  frame-keeps passed f t h = acting-keeps f t h (rule-keeps passed f t h)

-- ---- ticks

module _ (P : Talk → Type 0) (rows : TickRows P) where
  beat-keeps : (t : Talk) → P t → P (beat t)
  beat-keeps t h =
      let x : Talk = missing_heartbeat t in
      let missed : P x = if_case P (is_missed t) (lose MissingHeartbeatError t) t (rows.lost MissingHeartbeatError t h) h in
      if_case P (is_heartbeat_due x) (record (queue 0 Heartbeat x) { last_write = x.present }) x (rows.beats x missed) missed

  refreshed-keeps : (said : Result (List ℕ) (List ℕ)) (t : Talk) → P t → P (refreshed said t)
  refreshed-keeps (Ok secret) t h = rows.refreshes secret t h
  refreshed-keeps (Err text) t h = rows.retains text t h

  pub tick-keeps : (answers : List Asked) (t : Talk) → P t → P (tick answers t)
  tick-keeps answers t h =
      rows.wants (timed answers t) (secret-case P answers (beat t) (beat-keeps t h) (λ asks said. refreshed-keeps said (beat t) (beat-keeps t h)))

-- ---- commands

-- where no connection is open, a command is refused, or does nothing but listen
pub refused-keeps : (P : Talk → Type 0) → ((e : ErrorKind) (t : Talk) → P t → P (refuse e t)) → ((t : Talk) → P t → P (listen t))
    → (s : ConnectionState) (c : Cmd) (t : Talk) → is_connected s ≡ false → P t → P (command_rule s c t)
refused-keeps P refuses listens Connected c t off h = absurd (true≢false off)
refused-keeps P refuses listens s (DropChannel r) t off h = h
refused-keeps P refuses listens s DropConnection t off h = h
refused-keeps P refuses listens s Listen t off h = listens t h
refused-keeps P refuses listens s OpenChannel t off h = refuses (InvalidConnectionState s) t h
refused-keeps P refuses listens s (CloseChannel r code text) t off h = refuses (InvalidConnectionState s) t h
refused-keeps P refuses listens s (CloseConnection code text) t off h = refuses (InvalidConnectionState s) t h
refused-keeps P refuses listens s (UpdateSecret secret reason) t off h = refuses (InvalidConnectionState s) t h
refused-keeps P refuses listens s (Send r method) t off h = refuses (InvalidConnectionState s) t h
refused-keeps P refuses listens s (Publish r method properties body) t off h = refuses (InvalidConnectionState s) t h
refused-keeps P refuses listens s (Flow r active) t off h = refuses (InvalidConnectionState s) t h

-- a command that closes the connection
abbrev pub leaves : Cmd → Bool
leaves (CloseConnection code text) = true
leaves DropConnection = true
leaves _ = false

module _ (P : Talk → Type 0) (rows : CommandRows P) where
  drawn-keeps : (o : Option ℕ) (first : ℕ) (t : Talk) → P t → P (open_drawn o first t)
  drawn-keeps None first t h = rows.opens_none first t h
  drawn-keeps (Some n) first t h = rows.opens n t h

  close-keeps : (o : Result Channel ErrorKind) (n code : ℕ) (text : List ℕ) (t : Talk) → P t → P (close_target o n code text t)
  close-keeps (Err e) n code text t h = rows.refuses e t h
  close-keeps (Ok c) n code text t h = rows.promises _ (rows.leaves_channel n code text c (Some (next_promise t)) t h)

  drop-keeps : (o : Result Channel ErrorKind) (n : ℕ) (t : Talk) → P t → P (drop_target o n t)
  drop-keeps (Err e) n t h = h
  drop-keeps (Ok c) n t h = rows.leaves_channel n 200 (codes "OK") c None t h

  flow-target-keeps : (o : Result Channel ErrorKind) (n : ℕ) (active : Bool) (t : Talk) → P t → P (flow_target o n active t)
  flow-target-keeps (Err e) n active t h = rows.refuses e t h
  flow-target-keeps (Ok c) n active t h = rows.flows n active t h

  unless-keeps : (o : Option Frame) (rule : Talk → Talk) (t : Talk) → P t → P (rule t) → P (unless_too_long o rule t)
  unless-keeps None rule t h k = k
  unless-keeps (Some f) rule t h k = rows.refuses _ t h

  room-keeps : (o : Option ℕ) (rule : Talk → Talk) (t : Talk) → P t → P (rule t) → P (unless_full o rule t)
  room-keeps None rule t h k = k
  room-keeps (Some octets) rule t h k = rows.refuses _ t h

  send-keeps : (o : Result Channel ErrorKind) (n : ℕ) (m : OtherMethod) (t : Talk) → P t → P (send_target o n m t)
  send-keeps (Err e) n m t h = rows.refuses e t h
  send-keeps (Ok c) n m t h =
      let f : Frame = method_frame n m in
      unless-keeps (too_long (f ∷ []) t) (unless_full (too_full (f ∷ []) t) (queue_send n f)) t h
      (room-keeps (too_full (f ∷ []) t) (queue_send n f) t h (rows.sends n m t h))

  publish-keeps : (o : Result Channel ErrorKind) (n : ℕ) (m : OtherMethod) (properties body : List ℕ) (t : Talk) → P t → P (publish_target o n m properties body t)
  publish-keeps (Err e) n m properties body t h = rows.refuses e t h
  publish-keeps (Ok c) n m properties body t h =
      let fs : List Frame = publish_frames n m properties body (body_limit t) in
      unless-keeps (too_long fs t) (unless_full (too_full fs t) (queue_publish n fs)) t h
      (room-keeps (too_full fs t) (queue_publish n fs) t h (rows.publishes n m properties body t h))

  -- while the connection is open, by what our close of it does
  pub told-keeps : (c : Cmd) (t : Talk) → (leaves c ≡ true → P (command_rule Connected c t)) → P t → P (command_rule Connected c t)
  told-keeps OpenChannel t left h =
      let first = first_number t.configuration.channel_max t.cursor in drawn-keeps (drawn t.configuration.channel_max first t.channels) first t h
  told-keeps (CloseChannel r code text) t left h = close-keeps (target r word.ChannelClose t) r.id code text t h
  told-keeps (CloseConnection code text) t left h = left refl
  told-keeps (UpdateSecret secret reason) t left h =
      let f : Frame = new_secret secret reason in
      unless-keeps (too_long (f ∷ []) t) (queue_secret f) t h (rows.tells_secret secret reason t h)
  told-keeps (Send r method) t left h = send-keeps (target r word.Send t) r.id method t h
  told-keeps (Publish r method properties body) t left h = publish-keeps (target r word.Publish t) r.id method properties body t h
  told-keeps (Flow r active) t left h = flow-target-keeps (target r word.ChannelFlow t) r.id active t h
  told-keeps (DropChannel r) t left h = drop-keeps (target r word.ChannelClose t) r.id t h
  told-keeps DropConnection t left h = left refl
  told-keeps Listen t left h = rows.listens t h

  -- our close of the connection
  left-keeps : ((code : ℕ) (text : List ℕ) (answers : Option ℕ) (t : Talk) → P t → P (leave_connection code text answers t))
      → (c : Cmd) (t : Talk) → leaves c ≡ true → P t → P (command_rule Connected c t)
  left-keeps left (CloseConnection code text) t is h = rows.promises _ (left code text (Some (next_promise t)) t h)
  left-keeps left DropConnection t is h = left 200 (codes "OK") None t h
  left-keeps left c t is h = absurd (true≢false (sym is))

  -- a command, by what our close of the connection does
  pub command-keeps : ((code : ℕ) (text : List ℕ) (answers : Option ℕ) (t : Talk) → P t → P (leave_connection code text answers t))
      → (c : Cmd) (t : Talk) → P t → P (command c t)
  command-keeps left c t h = by t.state where
    by : (s : ConnectionState) → P (command_rule s c t)
    by Connected = told-keeps c t (λ is. left-keeps left c t is h) h
    by s = refused-keeps P rows.refuses rows.listens s c t refl h

-- ---- our close-ok of a channel was sent

-- by whether its channel is listed, owes it, and awaits close-ok
pub pay-case : (P : Talk → Type 0) (o : Option Channel) (n : ℕ) (t : Talk) → (o ≡ None → P t) → ((c : Channel) → o ≡ Some c → is_owed c.debt ≡ false → P t)
    → ((c : Channel) → o ≡ Some c → c.debt ≡ debt.Owed → c.awaits_close_ok ≡ true → P (set_channel n (record c { debt = debt.Paid }) (tell_owed n t)))
    → ((c : Channel) → o ≡ Some c → c.debt ≡ debt.Owed → c.awaits_close_ok ≡ false → P (remove_channel n (tell_owed n t))) → P (pay o n t)
pay-case P None n t none unowed stays goes = none refl
pay-case P (Some c) n t none unowed stays goes = by c.debt refl where
  by : (d : Debt) → c.debt ≡ d → P (paid_by d n c t)
  by debt.Owed owes =
      if_by P c.awaits_close_ok (set_channel n (record c { debt = debt.Paid }) (tell_owed n t)) (remove_channel n (tell_owed n t))
      (λ awaits. stays c refl owes awaits) (λ left. goes c refl owes left)
  by debt.Nothing owes = unowed c refl (ap is_owed owes)
  by debt.Paid owes = unowed c refl (ap is_owed owes)
