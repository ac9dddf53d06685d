-- What the frames that are read leave of what waited.
use Rattle.std.proofs.Common.{◌≡◌, inl, inr, ℕ, zero, suc, ◌&&◌, Bool, true, false, if◌then◌else◌, List, [], ◌∷◌, ◌++◌, Option, Some, None, Ok, Err, refl, ◌∙◌, ap, sym, subst, append_assoc, append-nil}
use Rattle.amqp_frame.specs.declared.frame.Frame.{Frame}
use Rattle.amqp_frame.specs.declared.frame.Frame.TheVariants.{ProtocolHeader, Method, Raw, Heartbeat}
use Rattle.amqp_frame.specs.declared.frame.RawKind.{RawKind}
use Rattle.amqp_frame.specs.declared.frame.RawKind.TheVariants.{RawMethod}
use Rattle.amqp_frame.specs.declared.method.Method.{Method as AnyMethod}
use Rattle.amqp_frame.specs.declared.method.Method.TheVariants.{Start, Secure, Tune, OpenOk, Close, CloseOk, Blocked, Unblocked, UpdateSecretOk, ChannelOpenOk, ChannelClose, ChannelCloseOk, ChannelFlow, ChannelFlowOk}
use Rattle.amqp_frame.specs.Methods.{is_of_a_channel}
use Rattle.amqp_outbox.specs.declared.item.Item.{Item}
use Rattle.amqp_outbox.specs.declared.reply.Reply.TheVariants.{ChannelOpened, ChannelClosed, FlowDone, SecretDone, ConnectionClosed}
use Rattle.amqp_outbox.specs.Items.{plain_item}
use Rattle.amqp_outbox.specs.Queued.{Queued, nothing_queued, awaited_promise, only}
use Rattle.amqp_promise.specs.declared.error.ErrorKind.{ErrorKind}
use Rattle.amqp_promise.specs.declared.error.ErrorKind.TheVariants.{AuthProviderError, InvalidChannel, InvalidConnectionState, InvalidProtocolVersion}
use Rattle.amqp_promise.specs.declared.state.ConnectionState.{ConnectionState}
use Rattle.amqp_promise.specs.declared.state.ConnectionState.TheVariants.{Connecting, Connected, Closing}
use Rattle.amqp_promise.specs.declared.state.ChannelState.{ChannelState}
use Rattle.amqp_promise.specs.declared.state.ChannelState.TheVariants as channel
use Rattle.amqp_auth.specs.declared.asked.Asked.{Asked}
use Rattle.amqp_auth.specs.declared.asked.Asked.TheVariants as answer
use Rattle.amqp_channels.specs.declared.channels.Channel.{Channel}
use Rattle.amqp_channels.specs.declared.channels.Debt.{Debt}
use Rattle.amqp_channels.specs.declared.channels.Debt.TheVariants as debt
use Rattle.amqp_settings.specs.declared.configuration.Configuration.{Configuration}
use Rattle.amqp_rules.specs.declared.state.Phase.{Phase}
use Rattle.amqp_rules.specs.declared.state.Phase.TheVariants.{AwaitStart, AwaitTune, AwaitOpenOk}
use Rattle.amqp_rules.specs.Talk.{Talk, acts, hears_on, is_closing}
use Rattle.amqp_settings.specs.Negotiation.{tune}
use Rattle.amqp_settings.specs.Handshake.{start_ok, secure_ok, tune_ok, open_vhost, close_ok, flow_ok, channel_close_ok}
use Rattle.amqp_violations.specs.Violations.{channel_closed_with, stray_channel_frame, stray_connection_method, unawaited}
use Rattle.amqp_rules.specs.Changes.{lose, misplaced, without_all_on}
use Rattle.amqp_rules.specs.Channels.{channel_at}
use Rattle.amqp_rules.specs.ChannelMethods.{heard_on, unawaited_channel_method, channel_opened, remove_unless_owed, channel_closed, on_channel_flow, channel_flowed, closed_by_server, crossing_close, channel_close_by, channel_rule, channel_method_by, channel_method, is_select_ok, hand_out, confirmed, raw_by}
use Rattle.amqp_rules.specs.ConnectionMethods.{started, on_start, challenged, on_secure, on_tune, connected, on_open_ok, secret_taken, connection_closed, connection_rule}
use Rattle.amqp_rules.specs.Frames.{method_on, method_rule, frame_rule, closed_rule, on_frame}
use Rattle.amqp_rules.proofs.Recovering.{lose-case}
use Rattle.amqp_rules.proofs.Walk.{close_answered}
use Rattle.amqp_rules.proofs.SoundFrames.{heard-listed}
use Rattle.amqp_types.proofs.Small.{if_case, if_by}
use Rattle.amqp_queued_rules.specs.Queued.{start_reply, secure_reply, tune_reply, reopenings, reply_to}
use Rattle.amqp_queued_rules.specs.Left.{GainsBehind, Stays, StaysOrDrops, is_left, left_by_frame, AddsWhere, answers_flow, answers_close, says_start, says_secure, is_replied_on_0, is_replied_on, is_replied}
use Rattle.amqp_queued_rules.proofs.Replying.{reopened-control, reopened-publish, reopened-begun}

-- ---- what waits

pub stays : (q q' : Queued) → q'.control ≡ q.control → q'.publish ≡ q.publish → q'.begun ≡ q.begun → Stays q q'
stays q q' control publish begun =
    record { control = control ∙ sym (append-nil q.control); publish = publish ∙ sym (append-nil q.publish); begun = begun }

pub same : (q : Queued) → Stays q q
same q = stays q q refl refl refl

pub stays-then : (q r s : Queued) → Stays q r → Stays r s → Stays q s
stays-then q r s h k =
    record {
      control = k.control ∙ ap (λ (items : List Item). items ++ []) h.control ∙ append-nil (q.control ++ []);
      publish = k.publish ∙ ap (λ (groups : List (List Item)). groups ++ []) h.publish ∙ append-nil (q.publish ++ []);
      begun = k.begun ∙ h.begun;
    }

-- one frame goes last
pub one-more : (left q' : Queued) (item : Item) → q'.control ≡ left.control ++ item ∷ [] → q'.publish ≡ left.publish → q'.begun ≡ left.begun → GainsBehind (item ∷ []) [] left q'
one-more left q' item control publish begun = record { control = control; publish = publish ∙ sym (append-nil left.publish); begun = begun }

-- and one more behind those
pub adds-then : (frames : List Item) (item : Item) (left r s : Queued) → s.control ≡ r.control ++ item ∷ [] → s.publish ≡ r.publish → s.begun ≡ r.begun
    → GainsBehind frames [] left r → GainsBehind (frames ++ item ∷ []) [] left s
adds-then frames item left r s control publish begun h =
    record {
      control = control ∙ ap (λ (items : List Item). items ++ item ∷ []) h.control ∙ append_assoc left.control frames (item ∷ []);
      publish = publish ∙ h.publish;
      begun = begun ∙ h.begun;
    }

-- ---- losses

-- all stays
abbrev pub Still : Talk → Talk → Type 0
Still t x = Stays t.outbox x.outbox

pub still : (t : Talk) → StaysOrDrops t t
still t = inl (same t.outbox, λ h. h)

-- all stays, in a session that goes on as it did
as-before : (t x : Talk) → x.state ≡ t.state → Still t x → StaysOrDrops t x
as-before t x held h = inl (h, λ waits. sym held ∙ waits)

pub kept-lose : (e : ErrorKind) (t : Talk) → StaysOrDrops t (lose e t)
kept-lose e t = lose-case (StaysOrDrops t) e t (λ delay. inr (record { state = refl; nothing = refl })) (inl (same t.outbox, λ waits. absurd cc))

kept-misplaced : (e : ErrorKind) (t : Talk) → StaysOrDrops t (misplaced e t)
kept-misplaced e t = if_case (StaysOrDrops t) (is_closing t.state) t (lose e t) (still t) (kept-lose e t)

-- ---- channels

-- what is not heard on a channel is not replied to
unheard-silent : (s : ConnectionState) (o : Option Channel) (m : AnyMethod) → heard_on s o ≡ None → is_replied_on s o m ≡ false
unheard-silent Connecting o m h = refl
unheard-silent _ None m h = refl
unheard-silent _ (Some c) m h = absurd cc

-- nor is a method of the connection class there
stray-silent : (s : ConnectionState) (o : Option Channel) (m : AnyMethod) → is_of_a_channel m ≡ false → is_replied_on s o m ≡ false
stray-silent Connecting o m h = refl
stray-silent Closing o m h = refl
stray-silent _ None m h = refl
stray-silent _ (Some c) (ChannelFlow active) h = absurd cc
stray-silent _ (Some c) (ChannelClose code text class method) h = absurd cc
stray-silent _ (Some c) m h = refl

-- nor one of the channel class on channel 0
stray-on-0 : (s : ConnectionState) (p : Phase) (m : AnyMethod) (answers : List Asked) → is_of_a_channel m ≡ true → is_replied_on_0 s p m answers ≡ false
stray-on-0 s p (Close code text class method) answers h = absurd cc
stray-on-0 Connecting AwaitStart (Start a b c d e) answers h = absurd cc
stray-on-0 Connecting AwaitTune (Secure challenge) answers h = absurd cc
stray-on-0 Connecting AwaitTune (Tune a b d) answers h = absurd cc
stray-on-0 Connecting AwaitOpenOk OpenOk answers h = absurd cc
stray-on-0 s p m answers h = refl

kept-unawaited : (n : ℕ) (s : ChannelState) (m : AnyMethod) (t : Talk) → StaysOrDrops t (unawaited_channel_method n s m t)
kept-unawaited n channel.Closing m t = still t
kept-unawaited n _ m t = kept-lose (unawaited m n) t

kept-opened : (n : ℕ) (c : Channel) (o : Option (Option ℕ)) (t : Talk) → StaysOrDrops t (channel_opened n c o t)
kept-opened n c None t = kept-unawaited n c.state ChannelOpenOk t
kept-opened n c (Some promise) t =
    let x : Talk = channel_opened n c (Some promise) t in as-before t x refl (stays t.outbox x.outbox refl refl refl)

kept-owed : (d : Debt) (n : ℕ) (c : Channel) (t x : Talk) → x.state ≡ t.state → Still t x → StaysOrDrops t (remove_unless_owed d n c x)
kept-owed debt.Owed n c t x held h = as-before t (remove_unless_owed debt.Owed n c x) held h
kept-owed d n c t x held h = as-before t (remove_unless_owed d n c x) held h

kept-closed : (n : ℕ) (c : Channel) (o : Option (Option ℕ)) (t : Talk) → StaysOrDrops t (channel_closed n c o t)
kept-closed n c None t = kept-unawaited n c.state ChannelCloseOk t
kept-closed n c (Some promise) t =
    let x : Talk = close_answered n promise t in kept-owed c.debt n c t x refl (stays t.outbox x.outbox refl refl refl)

kept-flowed : (n : ℕ) (c : Channel) (active : Bool) (o : Option (Option ℕ)) (t : Talk) → StaysOrDrops t (channel_flowed n c active o t)
kept-flowed n c active None t = kept-unawaited n c.state (ChannelFlowOk active) t
kept-flowed n c active (Some promise) t =
    let x : Talk = channel_flowed n c active (Some promise) t in as-before t x refl (stays t.outbox x.outbox refl refl refl)

added-flow : (s : ChannelState) (n : ℕ) (c : Channel) (active : Bool) (t : Talk)
    → AddsWhere (answers_flow s) (plain_item n (flow_ok n active) ∷ []) t.outbox t (on_channel_flow s n c active t)
added-flow channel.Closing n c active t = still t
added-flow _ n c active t = one-more t.outbox (on_channel_flow channel.Connected n c active t).outbox (plain_item n (flow_ok n active)) refl refl refl

-- the server's close of a channel leaves nothing that goes with it, where we did not close it too
added-close : (d : Debt) (n : ℕ) (e : ErrorKind) (c : Channel) (t : Talk) → channel_at n t ≡ Some c
    → AddsWhere (answers_close d) (plain_item n (channel_close_ok n) ∷ []) (if is_left (channel_at n t) then t.outbox else without_all_on n t.outbox) t
    (channel_close_by d n e c t)
added-close debt.Nothing n e c t there =
    let y : Talk = channel_close_by debt.Nothing n e c t in
    let L : Bool → Type 0 = λ b. GainsBehind (plain_item n (channel_close_ok n) ∷ []) [] (if b then t.outbox else without_all_on n t.outbox) y.outbox in
    subst L (sym (ap is_left there)) (by c.awaits_close_ok)
  where
    item : Item
    item = plain_item n (channel_close_ok n)

    by : (b : Bool) → GainsBehind (item ∷ []) [] (if b then t.outbox else without_all_on n t.outbox) (if b then crossing_close n e c t else closed_by_server n e c t).outbox
    by true = one-more t.outbox (crossing_close n e c t).outbox item refl refl refl
    by false = one-more (without_all_on n t.outbox) (closed_by_server n e c t).outbox item refl refl refl
added-close _ n e c t there = still t

module _ (n : ℕ) (answers : List Asked) where
  -- a method is replied to, where it is due
  abbrev Answered : Bool → AnyMethod → Talk → Talk → Type 0
  Answered due m t x = AddsWhere due (reply_to (Method (suc n) m) answers t) (left_by_frame (Method (suc n) m) t) t x

  added-on-channel : (s : ConnectionState) (c : Channel) (m : AnyMethod) (t : Talk) → heard_on s (channel_at (suc n) t) ≡ Some c
      → Answered (is_replied_on s (Some c) m) m t (channel_rule s (suc n) c m t)
  added-on-channel Connecting c m t heard = absurd cc
  added-on-channel Closing c m t heard = still t
  added-on-channel _ c ChannelOpenOk t heard = kept-opened (suc n) c (awaited_promise (suc n) ChannelOpened t.outbox) t
  added-on-channel _ c ChannelCloseOk t heard = kept-closed (suc n) c (awaited_promise (suc n) ChannelClosed t.outbox) t
  added-on-channel _ c (ChannelClose code text class method) t heard = added-close c.debt (suc n) (channel_closed_with code text) c t heard
  added-on-channel _ c (ChannelFlow active) t heard = added-flow c.state (suc n) c active t
  added-on-channel _ c (ChannelFlowOk active) t heard = kept-flowed (suc n) c active (awaited_promise (suc n) FlowDone t.outbox) t
  added-on-channel _ c m t heard = kept-unawaited (suc n) c.state m t

  added-by-channel : (o : Option Channel) (m : AnyMethod) (t : Talk) → heard_on t.state (channel_at (suc n) t) ≡ o
      → Answered (is_replied_on t.state (channel_at (suc n) t) m) m t (channel_method_by o (suc n) m t)
  added-by-channel None m t heard =
      subst (λ (b : Bool). Answered b m t (channel_method_by None (suc n) m t)) (sym (unheard-silent t.state (channel_at (suc n) t) m heard))
      (kept-misplaced (InvalidChannel (suc n)) t)
  added-by-channel (Some c) m t heard =
      subst (λ (o : Option Channel). Answered (is_replied_on t.state o m) m t (channel_method_by (Some c) (suc n) m t))
      (sym (heard-listed t.state (channel_at (suc n) t) c heard)) (added-on-channel t.state c m t heard)

  added-method-on : (m : AnyMethod) (t : Talk) → Answered (is_replied_on t.state (channel_at (suc n) t) m) m t (method_on (suc n) m t)
  added-method-on m t =
      let o : Option Channel = channel_at (suc n) t in
      if_by (Answered (is_replied_on t.state o m) m t) (is_of_a_channel m) (channel_method (suc n) m t) (misplaced (stray_connection_method (suc n)) t)
      (λ h. added-by-channel (heard_on t.state o) m t refl)
      (λ h. subst (λ (b : Bool). Answered b m t (misplaced (stray_connection_method (suc n)) t)) (sym (stray-silent t.state o m h))
      (kept-misplaced (stray_connection_method (suc n)) t))

kept-raw : (o : Option Channel) (n : ℕ) (kind : RawKind) (bytes : List ℕ) (t : Talk) → StaysOrDrops t (raw_by o n kind bytes t)
kept-raw None n kind bytes t = kept-misplaced (InvalidChannel n) t
kept-raw (Some c) n kind bytes t =
    if_case (λ (x : Talk). StaysOrDrops t (hand_out c.opened (record { channel = n; kind = kind; bytes = bytes }) x)) (is_select_ok kind bytes) (confirmed n c t) t
    (inl (same t.outbox, λ h. h)) (inl (same t.outbox, λ h. h))

-- ---- the connection

added-start : (answers : List Asked) (t : Talk) → AddsWhere (says_start answers) (start_reply answers t.config.options) t.outbox t (on_start answers t)
added-start (answer.Mechanism mechanism ∷ answer.Starter (Ok response) ∷ later) t =
    one-more t.outbox (started mechanism (Ok response) t).outbox (plain_item 0 (start_ok t.config.options mechanism response)) refl refl refl
added-start (answer.Mechanism mechanism ∷ answer.Starter (Err text) ∷ later) t = kept-lose (AuthProviderError text) t
added-start _ t = still t

added-secure : (answers : List Asked) (t : Talk) → AddsWhere (says_secure answers) (secure_reply answers) t.outbox t (on_secure answers t)
added-secure (answer.Challenge (Ok response) ∷ later) t =
    one-more t.outbox (challenged (Ok response) t).outbox (plain_item 0 (secure_ok response)) refl refl refl
added-secure (answer.Challenge (Err text) ∷ later) t = kept-lose (AuthProviderError text) t
added-secure _ t = still t

added-tune : (server : Configuration) (t : Talk) → GainsBehind (tune_reply server t) [] t.outbox (on_tune server t).outbox
added-tune server t =
    let first : Item = plain_item 0 (tune_ok (tune t.configuration server)) in
    let second : Item = plain_item 0 (open_vhost t.config.uri.vhost) in
    record { control = append_assoc t.outbox.control (first ∷ []) (second ∷ []); publish = sym (append-nil t.outbox.publish); begun = refl }

added-reopenings : (t : Talk) → GainsBehind (reopenings t.configuration.channel_max t.channels) [] t.outbox (on_open_ok t).outbox
added-reopenings t =
    record {
      control = reopened-control t.channels (connected t);
      publish = reopened-publish t.channels (connected t) ∙ sym (append-nil t.outbox.publish);
      begun = reopened-begun t.channels (connected t);
    }

kept-secret : (o : Option (Option ℕ)) (t : Talk) → StaysOrDrops t (secret_taken o t)
kept-secret None t = kept-lose (InvalidConnectionState Connected) t
kept-secret (Some None) t = let x : Talk = secret_taken (Some None) t in as-before t x refl (stays t.outbox x.outbox refl refl refl)
kept-secret (Some (Some number)) t =
    let x : Talk = secret_taken (Some (Some number)) t in as-before t x refl (stays t.outbox x.outbox refl refl refl)

kept-answered : (o : Option (Option ℕ)) (t : Talk) → StaysOrDrops t (connection_closed o t)
kept-answered None t = inl (same t.outbox, λ waits. absurd cc)
kept-answered (Some promise) t = inl (stays t.outbox (connection_closed (Some promise) t).outbox refl refl refl, λ waits. absurd cc)

-- the server's close leaves nothing but its answer
added-close-ok : GainsBehind (plain_item 0 close_ok ∷ []) [] nothing_queued (only (plain_item 0 close_ok))
added-close-ok = record { control = refl; publish = refl; begun = refl }

module _ (answers : List Asked) where
  -- a frame is replied to, where it is due
  abbrev Answers : Bool → Frame → Talk → Talk → Type 0
  Answers due f t x = AddsWhere due (reply_to f answers t) (left_by_frame f t) t x

  added-connection : (s : ConnectionState) (p : Phase) (m : AnyMethod) (t : Talk)
      → Answers (is_replied_on_0 s p m answers) (Method 0 m) t (connection_rule s p m answers t)
  added-connection s p (Close code text class method) t = added-close-ok
  added-connection s p (Blocked reason) t = inl (same t.outbox, λ h. h)
  added-connection s p Unblocked t = inl (same t.outbox, λ h. h)
  added-connection Closing p CloseOk t = kept-answered (awaited_promise 0 ConnectionClosed t.outbox) t
  added-connection Closing p m t = still t
  added-connection Connecting AwaitStart (Start a b c d e) t = added-start answers t
  added-connection Connecting AwaitTune (Secure challenge) t = added-secure answers t
  added-connection Connecting AwaitTune (Tune a b d) t = added-tune (record { channel_max = a; frame_max = b; heartbeat = d }) t
  added-connection Connecting AwaitOpenOk OpenOk t = added-reopenings t
  added-connection Connected p UpdateSecretOk t = kept-secret (awaited_promise 0 SecretDone t.outbox) t
  added-connection held p m t = kept-lose (InvalidConnectionState held) t

  added-method : (n : ℕ) (m : AnyMethod) (t : Talk) → Answers (is_replied (Method n m) answers t) (Method n m) t (method_rule n m answers t)
  added-method zero m t =
      if_by (Answers (is_replied_on_0 t.state t.phase m answers) (Method 0 m) t) (is_of_a_channel m) (misplaced (stray_channel_frame RawMethod) t)
      (connection_rule t.state t.phase m answers t)
      (λ h. subst (λ (b : Bool). Answers b (Method 0 m) t (misplaced (stray_channel_frame RawMethod) t)) (sym (stray-on-0 t.state t.phase m answers h))
      (kept-misplaced (stray_channel_frame RawMethod) t)) (λ h. added-connection t.state t.phase m t)
  added-method (suc n) m t = added-method-on n answers m t

  added-rule : (f : Frame) (t : Talk) → Answers (is_replied f answers t) f t (frame_rule f answers t)
  added-rule (ProtocolHeader version) t = kept-lose (InvalidProtocolVersion version) t
  added-rule Heartbeat t = still t
  added-rule (Method n m) t = added-method n m t
  added-rule (Raw zero kind bytes) t = kept-misplaced (stray_channel_frame kind) t
  added-rule (Raw (suc n) kind bytes) t = kept-raw (heard_on t.state (channel_at (suc n) t)) (suc n) kind bytes t

kept-after-close : (f : Frame) (t : Talk) → StaysOrDrops t (closed_rule f t)
kept-after-close (Method zero (Blocked reason)) t = inl (same t.outbox, λ h. h)
kept-after-close (Method zero Unblocked) t = inl (same t.outbox, λ h. h)
kept-after-close f t = still t

-- a frame adds its reply to what it leaves, where one is due; else all stays, or the link is lost
pub frame-added : (f : Frame) (answers : List Asked) (t : Talk)
    → AddsWhere (acts t && is_replied f answers t) (reply_to f answers t) (left_by_frame f t) t (on_frame f answers t)
frame-added f answers t = by (acts t) where
  by : (b : Bool)
      → AddsWhere (b && is_replied f answers t) (reply_to f answers t) (left_by_frame f t) t (if b then frame_rule f answers t else if hears_on t then closed_rule f t else t)
  by true = added-rule answers f t
  by false = if_case (StaysOrDrops t) (hears_on t) (closed_rule f t) t (kept-after-close f t) (still t)
