-- That nothing but the server's flow changes the flow of a channel.
use Rattle.std.proofs.Common.{◌≡◌, ◌≢◌, ◌⊎◌, inl, inr, ◌-◌, ◌==◌, ◌&&◌, not, ℕ, zero, suc, nat_le, Bool, true, false, true≢false, cond, if◌then◌else◌, List, [], ◌∷◌, Option, option_map, Some, None, is_some, Result, Ok, Err, refl, ap, sym, ◌∙◌, subst}
use Rattle.std.specs.Prelude.{codes, drop}
use Rattle.std.specs.Ordering.{nat_cmp}
use Rattle.std.specs.BTreeMap.{is_at}
use Rattle.std.specs.Map.{keys_of}
use Rattle.amqp_types.specs.declared.word.Word.TheVariants as word
use Rattle.amqp_frame.specs.declared.frame.Frame.{Frame}
use Rattle.amqp_frame.specs.declared.frame.Frame.TheVariants.{ProtocolHeader, Method, Raw, Heartbeat}
use Rattle.amqp_frame.specs.declared.frame.RawKind.{RawKind}
use Rattle.amqp_frame.specs.declared.frame.RawKind.TheVariants.{RawMethod}
use Rattle.amqp_frame.specs.declared.method.Method.{Method as AnyMethod}
use Rattle.amqp_frame.specs.declared.method.Method.TheVariants.{Start, Secure, Tune, OpenOk, Close, CloseOk, Blocked, Unblocked, UpdateSecretOk, ChannelOpenOk, ChannelClose, ChannelCloseOk, ChannelFlow, ChannelFlowOk}
use Rattle.amqp_frame.specs.Methods.{is_of_a_channel}
use Rattle.amqp_frame.specs.RawMethods.{OtherMethod}
use Rattle.amqp_outbox.specs.declared.item.Item.{Item}
use Rattle.amqp_outbox.specs.declared.reply.Reply.TheVariants.{ChannelOpened, ChannelClosed, FlowDone, SecretDone, ConnectionClosed}
use Rattle.amqp_outbox.specs.Queued.{awaited_promise}
use Rattle.amqp_promise.specs.declared.io_fault.IoFault.{IoFault}
use Rattle.amqp_promise.specs.declared.state.ConnectionState.{ConnectionState}
use Rattle.amqp_promise.specs.declared.state.ConnectionState.TheVariants.{Connecting, Connected, Closing, Reconnecting}
use Rattle.amqp_promise.specs.declared.state.ChannelState.{ChannelState}
use Rattle.amqp_promise.specs.declared.state.ChannelState.TheVariants as channel
use Rattle.amqp_promise.specs.declared.error.ErrorKind.{ErrorKind}
use Rattle.amqp_promise.specs.declared.error.ErrorKind.TheVariants.{InvalidChannel, InvalidConnectionState, InvalidProtocolVersion, AuthProviderError, IOError, MissingHeartbeatError, ProtocolError}
use Rattle.amqp_promise.specs.Kinds.{can_be_recovered}
use Rattle.amqp_auth.specs.declared.asked.Asked.{Asked}
use Rattle.amqp_channels.specs.declared.channels.Channel.{Channel}
use Rattle.amqp_channels.specs.declared.channels.Debt.{Debt}
use Rattle.amqp_channels.specs.declared.channels.Debt.TheVariants as debt
use Rattle.amqp_answers.specs.declared.answer.Answer.TheVariants.{Sent}
use Rattle.amqp_commands.specs.declared.command.Cmd.{Cmd}
use Rattle.amqp_commands.specs.declared.command.Cmd.TheVariants.{OpenChannel, CloseChannel, CloseConnection, UpdateSecret, Send, Publish, Flow, DropChannel, DropConnection, Listen}
use Rattle.amqp_outgoing.specs.declared.committed.Mark.{Mark}
use Rattle.amqp_outgoing.specs.declared.committed.Then.{Then}
use Rattle.amqp_outgoing.specs.declared.committed.Then.TheVariants.{Nothing, Answer, Pays, Finish}
use Rattle.amqp_answers.specs.declared.event.Event.{Event}
use Rattle.amqp_violations.specs.declared.misread.Misread.{Misread}
use Rattle.amqp_violations.specs.declared.server_close.ServerClose.{ServerClose}
use Rattle.amqp_violations.specs.declared.server_close.ServerClose.TheVariants.{WithoutError, WithError}
use Rattle.amqp_rules.specs.declared.state.Input.{Input}
use Rattle.amqp_rules.specs.declared.state.Phase.{Phase}
use Rattle.amqp_rules.specs.declared.state.Phase.TheVariants.{AwaitStart, AwaitTune, AwaitOpenOk}
use Rattle.amqp_maps.specs.Listed.{at, put, without, map_values}
use Rattle.amqp_rules.specs.Talk.{Talk, acts, end_of, has_ended, hears_on, is_asked, is_closing, is_open}
use Rattle.amqp_rules.specs.Recovery.{next_delay, recovery_delay, was_up}
use Rattle.amqp_rules.specs.Changes.{await, finish, finish_by, give, lose, misplaced, queue, starve}
use Rattle.amqp_rules.specs.Channels.{channel_at}
use Rattle.amqp_channels.specs.Channels.{made_closing}
use Rattle.amqp_rules.specs.ChannelMethods.{channel_close_by, channel_closed, channel_flowed, channel_method, channel_method_by, channel_opened, channel_rule, closed_by_server, confirmed, crossing_close, hand_out, heard_on, is_select_ok, on_channel_flow, raw_by, remove_channel, remove_unless_owed, unawaited_channel_method}
use Rattle.amqp_rules.specs.Commands.{body_limit, close_target, command_rule, drop_target, flow_target, leave_channel, open_as, open_drawn, publish_target, queue_publish, queue_secret, queue_send, send_target, target, too_full, too_long, unless_full, unless_too_long}
use Rattle.amqp_rules.specs.ConnectionMethods.{connected, connection_closed, connection_rule, reopen, reopen_each, secret_taken, started, challenged}
use Rattle.amqp_rules.specs.Frames.{closed_rule, frame_rule, method_rule, on_frame}
use Rattle.amqp_settings.specs.Handshake.{channel_open, new_secret}
use Rattle.amqp_rules.specs.Links.{dropped, link_failed, linked, lost, misread, refused_after}
use Rattle.amqp_channels.specs.Numbering.{first_number, drawn}
use Rattle.amqp_commands.specs.Publishing.{method_frame, publish_frames}
use Rattle.amqp_rules.specs.Sound.{Ascend, IsSound}
use Rattle.amqp_rules.specs.Ticks.{beat, is_heartbeat_due, is_missed, missing_heartbeat, refreshed, tick}
use Rattle.amqp_violations.specs.Violations.{channel_closed_with, misread_error, stray_channel_frame, stray_connection_method, unawaited}
use Rattle.amqp_rules.specs.Writing.{channel_close_ok_sent, commit, committed_as, end_overlong, follow, next_frame, next_within, overlong, pay, sent, sent_among, taken}
use Rattle.amqp_rules.specs.Answers.{answer_of, end_event, without_event}
use Rattle.amqp_rules.proofs.Ascending.{ascend-from, at-gone, put-ascends, without-ascends}
use Rattle.amqp_channels.proofs.Drawn.{drawn-free}
use Rattle.amqp_rules.proofs.Heard.{secret-case, secure-case, start-case}
use Rattle.amqp_rules.proofs.Keeping.{off-finish}
use Rattle.amqp_maps.proofs.Numbered.{put-other, put-same, without-other}
use Rattle.amqp_rules.proofs.Recovering.{lose-by}
use Rattle.amqp_rules.proofs.Sending.{sent_among-closed}
use Rattle.amqp_rules.proofs.SoundCommands.{target-listed}
use Rattle.amqp_rules.proofs.SoundFrames.{heard-listed}
use Rattle.amqp_rules.proofs.Walk.{close_answered, pay-case}
use Rattle.amqp_types.proofs.Small.{if_case, same-number}
use Rattle.amqp_answer_rules.proofs.Slots.{same-or-not}
use Rattle.amqp_outcome_rules.specs.Heeding.{HeedsFlow, KeepsFlowOn, flow_on, is_flow_on}
use Rattle.amqp_outcome_rules.proofs.Heeded.{flow-dropped, flow-heeded}

-- ---- lists of channels

abbrev Listing : Type 0
Listing = List (ℕ × Channel)

-- the flow of a channel in a list
abbrev flow_in : ℕ → Listing → Option Bool
flow_in m cs = option_map (λ (c : Channel). c.flow) (at m cs)

-- a channel that changes, but for its flow
put-flow : (m n : ℕ) (c d : Channel) (cs : Listing) → at n cs ≡ Some c → d.flow ≡ c.flow → flow_in m (put n d cs) ≡ flow_in m cs
put-flow m n c d cs there same = by (same-or-not m n) where
  flow_of : Option Channel → Option Bool
  flow_of o = option_map (λ (x : Channel). x.flow) o

  here : option_map (λ (x : Channel). x.flow) (at n (put n d cs)) ≡ option_map (λ (x : Channel). x.flow) (at n cs)
  here =
      ap (λ (o : Option Channel). option_map (λ (x : Channel). x.flow) o) (put-same n d cs) ∙ ap (λ (b : Bool). Some b) same
      ∙ sym (ap (λ (o : Option Channel). option_map (λ (x : Channel). x.flow) o) there)

  by : (m ≡ n) ⊎ (m ≢ n) → flow_in m (put n d cs) ≡ flow_in m cs
  by (inl is) = subst (λ (k : ℕ). flow_in k (put n d cs) ≡ flow_in k cs) (sym is) here
  by (inr other) = ap (λ (o : Option Channel). option_map (λ (x : Channel). x.flow) o) (put-other m n d cs other)

-- another channel that changes
other-flow : (m n : ℕ) (d : Channel) (cs : Listing) → m ≢ n → flow_in m (put n d cs) ≡ flow_in m cs
other-flow m n d cs other = ap (λ (o : Option Channel). option_map (λ (x : Channel). x.flow) o) (put-other m n d cs other)

-- a channel that goes
drop-flow : (m n : ℕ) (cs : Listing) → Ascend (keys_of cs) → (flow_in m (without n cs) ≡ flow_in m cs) ⊎ (flow_in m (without n cs) ≡ None)
drop-flow m n cs sorted = by (same-or-not m n) where
  by : (m ≡ n) ⊎ (m ≢ n) → (flow_in m (without n cs) ≡ flow_in m cs) ⊎ (flow_in m (without n cs) ≡ None)
  by (inl is) =
      inr (ap (λ (k : ℕ). flow_in k (without n cs)) is ∙ ap (λ (o : Option Channel). option_map (λ (x : Channel). x.flow) o) (at-gone n cs sorted))
  by (inr other) = inl (ap (λ (o : Option Channel). option_map (λ (x : Channel). x.flow) o) (without-other m n cs other))

-- all channels are closing
closing-flow : (m : ℕ) (cs : Listing) → flow_in m (map_values made_closing cs) ≡ flow_in m cs
closing-flow m [] = refl
closing-flow m (e ∷ cs) = by (is_at (nat_cmp m) e.0) (closing-flow m cs) where
  by : (b : Bool) → flow_in m (map_values made_closing cs) ≡ flow_in m cs
      → option_map (λ (x : Channel). x.flow) (cond b (Some (made_closing e.1)) (at m (map_values made_closing cs)))
      ≡ option_map (λ (x : Channel). x.flow) (cond b (Some e.1) (at m cs))
  by true rest = refl
  by false rest = rest

-- ---- losses

up-state : (s : ConnectionState) (i : Input) → was_up s i ≡ true → s ≢ Reconnecting
up-state Connecting i h = λ k. cc
up-state Connected i h = λ k. cc
up-state Closing i h = λ k. cc
up-state _ i h = absurd (true≢false (sym h))

-- a session recovers only where the connection was up
recovers-up : (e : ErrorKind) (t : Talk) (delay : ℕ) → recovery_delay e t ≡ Some delay → t.state ≢ Reconnecting
recovers-up e t delay is = up-state t.state t.input (by (can_be_recovered e) t.config.options.recover (is_open t) (was_up t.state t.input) refl is) where
  by : (c r o w : Bool) → was_up t.state t.input ≡ w → (if c then (if r && (o && w) then next_delay t else None) else None) ≡ Some delay
      → was_up t.state t.input ≡ true
  by true true true true same h = same
  by true true true false same h = absurd cc
  by true true false w same h = absurd cc
  by true false o w same h = absurd cc
  by false r o w same h = absurd cc

module _ (m : ℕ) (t : Talk) where
  -- the channel keeps its flow
  abbrev Kept : Talk → Type 0
  Kept x = KeepsFlowOn m t x

  kept : Kept t
  kept = inl refl

  -- a list of channels in which it does
  abbrev Same : Listing → Type 0
  Same cs = (flow_in m cs ≡ flow_on m t) ⊎ (flow_in m cs ≡ None)

  from-same : (x : Talk) → Same x.channels → Kept x
  from-same x (inl h) = inl h
  from-same x (inr h) = inr (inl h)

  -- in the midst of a rule
  record Midst (x : Talk) : Type 0 where
    state : x.state ≡ t.state
    same : Same x.channels
    sorted : Ascend (keys_of x.channels)

  lose-midst : (e : ErrorKind) (x : Talk) → x.state ≡ t.state → Kept (lose e x)
  lose-midst e x held =
      lose-by Kept e x (λ delay is. inr (inr ((λ k. recovers-up e x delay is (held ∙ k)), refl))) (λ none. inr (inl refl))

  lose-kept : (e : ErrorKind) → Kept (lose e t)
  lose-kept e = lose-midst e t refl

  finish-midst : (o : Option ServerClose) (x : Talk) → x.state ≡ t.state → Kept (finish_by o x)
  finish-midst None x held = inr (inl refl)
  finish-midst (Some WithoutError) x held = inr (inl refl)
  finish-midst (Some (WithError e)) x held = lose-midst (ProtocolError e) x held

  misplaced-kept : (e : ErrorKind) → Kept (misplaced e t)
  misplaced-kept e = if_case Kept (is_closing t.state) t (lose e t) kept (lose-kept e)

  -- ---- frames

  module _ (sorted : Ascend (keys_of t.channels)) where
    put-kept : (n : ℕ) (c d : Channel) → channel_at n t ≡ Some c → d.flow ≡ c.flow → Same (put n d t.channels)
    put-kept n c d there same = inl (put-flow m n c d t.channels there same)

    unawaited-kept : (n : ℕ) (s : ChannelState) (method : AnyMethod) → Kept (unawaited_channel_method n s method t)
    unawaited-kept n channel.Closing method = kept
    unawaited-kept n _ method = lose-kept (unawaited method n)

    opened-kept : (n : ℕ) (c : Channel) (o : Option (Option ℕ)) → channel_at n t ≡ Some c → Kept (channel_opened n c o t)
    opened-kept n c None there = unawaited-kept n c.state ChannelOpenOk
    opened-kept n c (Some promise) there = from-same (channel_opened n c (Some promise) t) (put-kept n c (record c { state = channel.Connected }) there refl)

    owed-kept : (d : Debt) (n : ℕ) (c : Channel) (x : Talk) → x.channels ≡ t.channels → channel_at n t ≡ Some c → Kept (remove_unless_owed d n c x)
    owed-kept debt.Owed n c x is there =
        from-same (remove_unless_owed debt.Owed n c x)
        (subst (λ (cs : Listing). Same (put n (record c { awaits_close_ok = false }) cs)) (sym is) (put-kept n c (record c { awaits_close_ok = false }) there refl))
    owed-kept d n c x is there = from-same (remove_unless_owed d n c x) (subst (λ (cs : Listing). Same (without n cs)) (sym is) (drop-flow m n t.channels sorted))

    closed-kept : (n : ℕ) (c : Channel) (o : Option (Option ℕ)) → channel_at n t ≡ Some c → Kept (channel_closed n c o t)
    closed-kept n c None there = unawaited-kept n c.state ChannelCloseOk
    closed-kept n c (Some promise) there = owed-kept c.debt n c (close_answered n promise t) refl there

    flowed-kept : (n : ℕ) (c : Channel) (active : Bool) (o : Option (Option ℕ)) → Kept (channel_flowed n c active o t)
    flowed-kept n c active None = unawaited-kept n c.state (ChannelFlowOk active)
    flowed-kept n c active (Some promise) = inl refl

    flow-kept : (s : ChannelState) (n : ℕ) (c : Channel) (active : Bool) → m ≢ n → Kept (on_channel_flow s n c active t)
    flow-kept channel.Closing n c active other = kept
    flow-kept _ n c active other = inl (other-flow m n (record c { flow = active }) t.channels other)

    server-kept : (d : Debt) (n : ℕ) (e : ErrorKind) (c : Channel) → channel_at n t ≡ Some c → Kept (channel_close_by d n e c t)
    server-kept debt.Nothing n e c there =
        if_case Kept c.awaits_close_ok (crossing_close n e c t) (closed_by_server n e c t)
        (from-same (crossing_close n e c t) (put-kept n c (record c { debt = debt.Owed }) there refl))
        (from-same (closed_by_server n e c t) (put-kept n c (record c { state = channel.Closing; debt = debt.Owed }) there refl))
    server-kept _ n e c there = kept

    channel-kept : (s : ConnectionState) (n : ℕ) (c : Channel) (method : AnyMethod) → is_flow_on m (Method n method) ≡ false → channel_at n t ≡ Some c
        → Kept (channel_rule s n c method t)
    channel-kept Closing n c method other there = kept
    channel-kept _ n c ChannelOpenOk other there = opened-kept n c (awaited_promise n ChannelOpened t.outbox) there
    channel-kept _ n c ChannelCloseOk other there = closed-kept n c (awaited_promise n ChannelClosed t.outbox) there
    channel-kept _ n c (ChannelClose code text class method) other there = server-kept c.debt n (channel_closed_with code text) c there
    channel-kept _ n c (ChannelFlow active) other there = flow-kept c.state n c active (λ k. true≢false (sym (same-number n) ∙ ap (λ (j : ℕ). j == n) (sym k) ∙ other))
    channel-kept _ n c (ChannelFlowOk active) other there = flowed-kept n c active (awaited_promise n FlowDone t.outbox)
    channel-kept _ n c method other there = unawaited-kept n c.state method

    by-channel : (o : Option Channel) (n : ℕ) (method : AnyMethod) → is_flow_on m (Method n method) ≡ false → heard_on t.state (channel_at n t) ≡ o
        → Kept (channel_method_by o n method t)
    by-channel None n method other heard = misplaced-kept (InvalidChannel n)
    by-channel (Some c) n method other heard = channel-kept t.state n c method other (heard-listed t.state (channel_at n t) c heard)

    raw-kept : (o : Option Channel) (n : ℕ) (kind : RawKind) (bytes : List ℕ) → heard_on t.state (channel_at n t) ≡ o → Kept (raw_by o n kind bytes t)
    raw-kept None n kind bytes heard = misplaced-kept (InvalidChannel n)
    raw-kept (Some c) n kind bytes heard =
        if_case (λ (x : Talk). Kept (hand_out c.opened (record { channel = n; kind = kind; bytes = bytes }) x)) (is_select_ok kind bytes) (confirmed n c t) t
        (from-same (confirmed n c t) (put-kept n c (record c { confirm = true }) (heard-listed t.state (channel_at n t) c heard) refl)) kept

    then-same : (cs cs' : Listing) → (flow_in m cs' ≡ flow_in m cs) ⊎ (flow_in m cs' ≡ None) → Same cs → Same cs'
    then-same cs cs' (inl k) (inl h) = inl (k ∙ h)
    then-same cs cs' (inl k) (inr h) = inr (k ∙ h)
    then-same cs cs' (inr k) h = inr k

    reopened-same : (cs : Listing) (x : Talk) → Same x.channels → Ascend (keys_of x.channels) → Same (reopen_each cs x).channels
    reopened-same [] x h k = h
    reopened-same (c ∷ cs) x h k =
        let awaits : Talk = await c.0 ChannelOpened None (queue c.0 (channel_open c.0) x) in
        reopened-same cs (reopen c.0 x)
        (if_case (λ (y : Talk). Same y.channels) (nat_le c.0 x.configuration.channel_max) awaits (remove_channel c.0 x) h
        (then-same x.channels (without c.0 x.channels) (drop-flow m c.0 x.channels k) h))
        (if_case (λ (y : Talk). Ascend (keys_of y.channels)) (nat_le c.0 x.configuration.channel_max) awaits (remove_channel c.0 x) k
        (without-ascends c.0 x.channels k))

    secret-kept : (o : Option (Option ℕ)) → Kept (secret_taken o t)
    secret-kept None = lose-kept (InvalidConnectionState Connected)
    secret-kept (Some None) = kept
    secret-kept (Some (Some number)) = inl refl

    ended-kept : (o : Option (Option ℕ)) → Kept (connection_closed o t)
    ended-kept None = inr (inl refl)
    ended-kept (Some promise) = inr (inl refl)

    started-kept : (mechanism : List ℕ) (said : Result (List ℕ) (List ℕ)) → Kept (started mechanism said t)
    started-kept mechanism (Ok response) = inl refl
    started-kept mechanism (Err text) = lose-kept (AuthProviderError text)

    challenged-kept : (said : Result (List ℕ) (List ℕ)) → Kept (challenged said t)
    challenged-kept (Ok response) = inl refl
    challenged-kept (Err text) = lose-kept (AuthProviderError text)

    module _ (answers : List Asked) where
      connection-kept : (s : ConnectionState) (p : Phase) (method : AnyMethod) → Kept (connection_rule s p method answers t)
      connection-kept s p (Close code text class method) = inl refl
      connection-kept s p (Blocked reason) = inl refl
      connection-kept s p Unblocked = inl refl
      connection-kept Closing p CloseOk = ended-kept (awaited_promise 0 ConnectionClosed t.outbox)
      connection-kept Closing p method = kept
      connection-kept Connecting AwaitStart (Start a b c d e) = start-case Kept answers t kept started-kept
      connection-kept Connecting AwaitTune (Secure challenge) = secure-case Kept answers t kept challenged-kept
      connection-kept Connecting AwaitTune (Tune a b c) = inl refl
      connection-kept Connecting AwaitOpenOk OpenOk =
          from-same (reopen_each t.channels (connected t)) (reopened-same t.channels (connected t) (inl refl) sorted)
      connection-kept Connected p UpdateSecretOk = secret-kept (awaited_promise 0 SecretDone t.outbox)
      connection-kept held p method = lose-kept (InvalidConnectionState held)

      method-kept : (n : ℕ) (method : AnyMethod) → is_flow_on m (Method n method) ≡ false → Kept (method_rule n method answers t)
      method-kept zero method other =
          if_case Kept (is_of_a_channel method) (misplaced (stray_channel_frame RawMethod) t) (connection_rule t.state t.phase method answers t)
          (misplaced-kept (stray_channel_frame RawMethod)) (connection-kept t.state t.phase method)
      method-kept (suc n) method other =
          if_case Kept (is_of_a_channel method) (channel_method (suc n) method t) (misplaced (stray_connection_method (suc n)) t)
          (by-channel (heard_on t.state (channel_at (suc n) t)) (suc n) method other refl) (misplaced-kept (stray_connection_method (suc n)))

      rule-kept : (f : Frame) → is_flow_on m f ≡ false → Kept (frame_rule f answers t)
      rule-kept (ProtocolHeader version) other = lose-kept (InvalidProtocolVersion version)
      rule-kept Heartbeat other = kept
      rule-kept (Method n method) other = method-kept n method other
      rule-kept (Raw zero kind bytes) other = misplaced-kept (stray_channel_frame kind)
      rule-kept (Raw (suc n) kind bytes) other = raw-kept (heard_on t.state (channel_at (suc n) t)) (suc n) kind bytes refl

      closed-rule-kept : (f : Frame) → Kept (closed_rule f t)
      closed-rule-kept (Method zero (Blocked reason)) = inl refl
      closed-rule-kept (Method zero Unblocked) = inl refl
      closed-rule-kept f = kept

      frame-kept : (f : Frame) → is_flow_on m f ≡ false → Kept (on_frame f answers t)
      frame-kept f other =
          if_case Kept (acts t) (frame_rule f answers t) (if hears_on t then closed_rule f t else t) (rule-kept f other)
          (if_case Kept (hears_on t) (closed_rule f t) t (closed-rule-kept f) kept)

    -- ---- bytes that were taken

    sent-kept : (ms : List Mark) (n : ℕ) (x : Talk) → Midst x → Kept (sent_among ms n x)
    sent-kept [] n x k = from-same x k.same
    sent-kept (mark ∷ ms) n x k =
        if_case Kept (is_open x)
        (if nat_le mark.left n then sent_among ms (n - mark.left) (sent mark x) else record x { committed = record mark { left = mark.left - n } ∷ ms }) x
        (if_case Kept (nat_le mark.left n) (sent_among ms (n - mark.left) (sent mark x)) (record x { committed = record mark { left = mark.left - n } ∷ ms })
        (follows ms (n - mark.left) (record x { committed = drop 1 x.committed }) (record { state = k.state; same = k.same; sorted = k.sorted })
        (λ v there. sent-kept ms (n - mark.left) v there) mark.then)
        (from-same (record x { committed = record mark { left = mark.left - n } ∷ ms }) k.same))
        (from-same x k.same)
      where
        paid : (o : Option Channel) (c : ℕ) (y : Talk) → channel_at c y ≡ o → Midst y → Midst (pay o c y)
        paid o c y there h =
            pay-case Midst o c y (λ none. h) (λ d found unowed. h)
            (λ d found owes awaits. record {
              state = h.state;
              same = then-same y.channels (put c (record d { debt = debt.Paid }) y.channels) (inl (put-flow m c d (record d { debt = debt.Paid }) y.channels (there ∙ found) refl)) h.same;
              sorted = put-ascends c (record d { debt = debt.Paid }) y.channels h.sorted;
            })
            (λ d found owes left. record {
              state = h.state;
              same = then-same y.channels (without c y.channels) (drop-flow m c y.channels h.sorted) h.same;
              sorted = without-ascends c y.channels h.sorted;
            })

        follows : (ms : List Mark) (n : ℕ) (y : Talk) → Midst y → ((v : Talk) → Midst v → Kept (sent_among ms n v)) → (th : Then) → Kept (sent_among ms n (follow th y))
        follows ms n y h later Nothing = later y h
        follows ms n y h later (Answer j) = later (give j (Ok Sent) y) (record { state = h.state; same = h.same; sorted = h.sorted })
        follows ms n y h later (Pays c) = later (channel_close_ok_sent c y) (paid (channel_at c y) c y refl h)
        follows ms n y h later Finish =
            subst Kept (sym (sent_among-closed ms n (finish y) (off-finish y.server_close y).opened)) (finish-midst y.server_close y h.state)

    taken-kept : (n : ℕ) → Kept (taken n t)
    taken-kept n =
        let u : Talk = record t { last_write = t.present } in
        if_case Kept (is_open t && not (n == 0)) (sent_among t.committed n u) t
        (sent-kept t.committed n u (record { state = refl; same = inl refl; sorted = sorted })) kept

    -- ---- commands

    drawn-kept : (o : Option ℕ) (first : ℕ) → drawn t.configuration.channel_max (first_number t.configuration.channel_max t.cursor) t.channels ≡ o
        → is_some (flow_on m t) ≡ true → Kept (open_drawn o first t)
    drawn-kept None first is there = inl refl
    drawn-kept (Some n) first is there = by (same-or-not m n) where
      free : at n t.channels ≡ None
      free = (drawn-free t.configuration.channel_max t.cursor n t.channels is).2

      by : (m ≡ n) ⊎ (m ≢ n) → Kept (open_as n t)
      by (inl same) =
          let none : is_some (flow_on n t) ≡ false = ap (λ (o : Option Channel). is_some (option_map (λ (c : Channel). c.flow) o)) free in
          absurd (true≢false (sym (ap (λ (k : ℕ). is_some (flow_on k t)) (sym same) ∙ there) ∙ none))
      by (inr other) = inl (other-flow m n _ t.channels other)

    leave-kept : (n code : ℕ) (text : List ℕ) (c : Channel) (promise : Option ℕ) → channel_at n t ≡ Some c → Kept (leave_channel n code text c promise t)
    leave-kept n code text c promise there =
        from-same (leave_channel n code text c promise t) (put-kept n c (record c { state = channel.Closing; awaits_close_ok = true }) there refl)

    close-kept : (o : Result Channel ErrorKind) (n code : ℕ) (text : List ℕ) → ((c : Channel) → o ≡ Ok c → channel_at n t ≡ Some c) → Kept (close_target o n code text t)
    close-kept (Err e) n code text there = inl refl
    close-kept (Ok c) n code text there = from-same (close_target (Ok c) n code text t) (put-kept n c (record c { state = channel.Closing; awaits_close_ok = true }) (there c refl) refl)

    let-kept : (o : Result Channel ErrorKind) (n : ℕ) → ((c : Channel) → o ≡ Ok c → channel_at n t ≡ Some c) → Kept (drop_target o n t)
    let-kept (Err e) n there = kept
    let-kept (Ok c) n there = leave-kept n 200 (codes "OK") c None (there c refl)

    flow-told-kept : (o : Result Channel ErrorKind) (n : ℕ) (active : Bool) → Kept (flow_target o n active t)
    flow-told-kept (Err e) n active = inl refl
    flow-told-kept (Ok c) n active = inl refl

    unless-kept : (o : Option Frame) (rule : Talk → Talk) → Kept (rule t) → Kept (unless_too_long o rule t)
    unless-kept None rule h = h
    unless-kept (Some f) rule h = inl refl

    room-kept : (o : Option ℕ) (rule : Talk → Talk) → Kept (rule t) → Kept (unless_full o rule t)
    room-kept None rule h = h
    room-kept (Some octets) rule h = inl refl

    send-kept : (o : Result Channel ErrorKind) (n : ℕ) (method : OtherMethod) → Kept (send_target o n method t)
    send-kept (Err e) n method = inl refl
    send-kept (Ok c) n method =
        let fs : List Frame = method_frame n method ∷ [] in
        let rule : Talk → Talk = queue_send n (method_frame n method) in
        unless-kept (too_long fs t) (unless_full (too_full fs t) rule) (room-kept (too_full fs t) rule (inl refl))

    publish-kept : (o : Result Channel ErrorKind) (n : ℕ) (method : OtherMethod) (properties body : List ℕ) → Kept (publish_target o n method properties body t)
    publish-kept (Err e) n method properties body = inl refl
    publish-kept (Ok c) n method properties body =
        let fs : List Frame = publish_frames n method properties body (body_limit t) in
        unless-kept (too_long fs t) (unless_full (too_full fs t) (queue_publish n fs)) (room-kept (too_full fs t) (queue_publish n fs) (inl refl))

    told-kept : (s : ConnectionState) (cmd : Cmd) → is_some (flow_on m t) ≡ true → Kept (command_rule s cmd t)
    told-kept Connected OpenChannel there =
        let first : ℕ = first_number t.configuration.channel_max t.cursor in
        drawn-kept (drawn t.configuration.channel_max first t.channels) first refl there
    told-kept Connected (CloseChannel r code text) there = close-kept (target r word.ChannelClose t) r.id code text (target-listed r word.ChannelClose t)
    told-kept Connected (CloseConnection code text) there = inl (closing-flow m t.channels)
    told-kept Connected (UpdateSecret secret reason) there =
        let f : Frame = new_secret secret reason in unless-kept (too_long (f ∷ []) t) (queue_secret f) (inl refl)
    told-kept Connected (Send r method) there = send-kept (target r word.Send t) r.id method
    told-kept Connected (Publish r method properties body) there = publish-kept (target r word.Publish t) r.id method properties body
    told-kept Connected (Flow r active) there = flow-told-kept (target r word.ChannelFlow t) r.id active
    told-kept Connected (DropChannel r) there = let-kept (target r word.ChannelClose t) r.id (target-listed r word.ChannelClose t)
    told-kept Connected DropConnection there = inl (closing-flow m t.channels)
    told-kept Connected Listen there = inl refl
    told-kept s (DropChannel r) there = kept
    told-kept s DropConnection there = kept
    told-kept s Listen there = inl refl
    told-kept s cmd there = inl refl

  -- ---- links and time

  misread-kept : (why : Misread) → Kept (misread why t)
  misread-kept why =
      if_case Kept (acts t) (lose (misread_error why) t) (if is_open t then record t { input = dropped t.input } else t) (lose-kept (misread_error why))
      (if_case Kept (is_open t) (record t { input = dropped t.input }) t (inl refl) kept)

  lost-kept : (fault : IoFault) → Kept (lost fault t)
  lost-kept fault =
      if_case Kept (acts t) (lose (IOError fault) t) (if is_open t then finish t else t) (lose-kept (IOError fault))
      (if_case Kept (is_open t) (finish t) t (finish-midst t.server_close t refl) kept)

  linked-kept : Kept (linked t)
  linked-kept = if_case Kept (is_asked t) _ t (inl refl) kept

  failed-kept : Kept (link_failed t)
  failed-kept = if_case Kept (is_asked t) (refused_after (next_delay t) t) t (by (next_delay t)) kept where
    by : (o : Option ℕ) → KeepsFlowOn m t (refused_after o t)
    by (Some delay) = inl refl
    by None = inr (inl refl)

  tick-kept : (answers : List Asked) → Kept (tick answers t)
  tick-kept answers =
      let x : Talk = missing_heartbeat t in
      let missed : Kept x = if_case Kept (is_missed t) (lose MissingHeartbeatError t) t (lose-kept MissingHeartbeatError) kept in
      let beats : Kept (beat t) = if_case Kept (is_heartbeat_due x) (record (queue 0 Heartbeat x) { last_write = x.present }) x missed missed in
      secret-case Kept answers (beat t) beats (λ asks said. by said beats)
    where
      by : (said : Result (List ℕ) (List ℕ)) → KeepsFlowOn m t (beat t) → KeepsFlowOn m t (refreshed said (beat t))
      by (Ok secret) h = h
      by (Err text) h = h

  next-kept : (space : ℕ) → Kept (next_frame space t)
  next-kept space = by (overlong t) (same (next_within space t)) where
    same : (o : Option Item) → KeepsFlowOn m t (committed_as o t)
    same None = inl refl
    same (Some item) = inl refl

    by : (o : Option ℕ) → KeepsFlowOn m t (commit space t) → KeepsFlowOn m t (end_overlong o (commit space t))
    by None h = h
    by (Some size) h = inr (inl refl)

  starved-kept : Kept (starve t)
  starved-kept = if_case Kept (has_ended t) t _ kept (inr (inl refl))

event-kept : (m : ℕ) (t : Talk) (events at_end : List Event) → KeepsFlowOn m t (without_event events at_end t)
event-kept m t (event ∷ later) at_end = inl refl
event-kept m t [] (event ∷ later) = inl refl
event-kept m t [] [] = inl refl

pub flows-kept : (t : Talk) → IsSound t → HeedsFlow t
flows-kept t sound =
    let sorted : Ascend (keys_of t.channels) = ascend-from 0 (keys_of t.channels) sound.listed in
    record {
      here = λ n active answers on going used. flow-heeded t n active answers on going used;
      dropped = λ n c active answers on out there is. flow-dropped t n c active answers on out there is;
      frame = λ f answers m other. frame-kept m t sorted answers f other;
      moment = λ at m. if_case (KeepsFlowOn m t) (has_ended t) t _ (inl refl) (inl refl);
      asked = λ m. inl refl;
      piece = λ m. if_case (KeepsFlowOn m t) (is_open t) _ t (inl refl) (inl refl);
      answer = λ number m. if_case (KeepsFlowOn m t) (is_some (answer_of number t)) _ t (inl refl) (inl refl);
      event = λ m. event-kept m t t.noted.events (end_event t.noted.tells_end (end_of t));
      frames = λ opened m. inl refl;
      linked = λ m. linked-kept m t;
      link_failed = λ m. failed-kept m t;
      misread = λ why m. misread-kept m t why;
      lost = λ fault m. lost-kept m t fault;
      tick = λ answers m. tick-kept m t answers;
      next_frame = λ space m. next-kept m t space;
      taken = λ n m. taken-kept m t sorted n;
      starve = λ m. starved-kept m t;
      command = λ cmd m there. told-kept m t sorted t.state cmd there;
    }
