-- How a frame that is read may end a session, or make it wait for another link, row by row.
use Rattle.std.proofs.Common.{◌≡◌, ◌≢◌, ◌⊎◌, inl, inr, ℕ, zero, suc, not, Bool, false, if◌then◌else◌, List, [], ◌∷◌, Option, Some, None, Ok, Err, is_some, refl, ap, sym, ◌∙◌}
use Rattle.amqp_frame.specs.declared.frame.Frame.{Frame}
use Rattle.amqp_frame.specs.declared.frame.Frame.TheVariants.{ProtocolHeader, Method, Raw, Heartbeat}
use Rattle.amqp_frame.specs.declared.frame.RawKind.{RawKind}
use Rattle.amqp_frame.specs.declared.frame.RawKind.TheVariants.{RawMethod}
use Rattle.amqp_frame.specs.declared.method.Method.{Method as AnyMethod}
use Rattle.amqp_frame.specs.declared.method.Method.TheVariants.{Start, Secure, Tune, OpenOk, Close, CloseOk, Blocked, Unblocked, UpdateSecretOk, ChannelOpenOk, ChannelClose, ChannelCloseOk, ChannelFlow, ChannelFlowOk}
use Rattle.amqp_outbox.specs.declared.reply.Reply.TheVariants.{ChannelOpened, ChannelClosed, FlowDone, SecretDone, ConnectionClosed}
use Rattle.amqp_outbox.specs.Queued.{awaited_promise}
use Rattle.amqp_channels.specs.declared.channels.Channel.{Channel}
use Rattle.amqp_channels.specs.declared.channels.Debt.{Debt}
use Rattle.amqp_channels.specs.declared.channels.Debt.TheVariants as debt
use Rattle.amqp_promise.specs.declared.state.ConnectionState.{ConnectionState}
use Rattle.amqp_promise.specs.declared.state.ConnectionState.TheVariants.{Connecting, Connected, Closing, Reconnecting}
use Rattle.amqp_promise.specs.declared.state.ChannelState.{ChannelState}
use Rattle.amqp_promise.specs.declared.state.ChannelState.TheVariants as channel
use Rattle.amqp_rules.specs.declared.state.Phase.{Phase}
use Rattle.amqp_rules.specs.declared.state.Phase.TheVariants.{AwaitStart, AwaitTune, AwaitOpenOk}
use Rattle.amqp_violations.specs.declared.misread.Misread.{Misread}
use Rattle.amqp_promise.specs.declared.error.ErrorKind.{ErrorKind}
use Rattle.amqp_promise.specs.declared.error.ErrorKind.TheVariants.{InvalidProtocolVersion, InvalidChannel, InvalidConnectionState, AuthProviderError}
use Rattle.amqp_auth.specs.declared.asked.Question.TheVariants as question
use Rattle.amqp_auth.specs.declared.asked.Asked.{Asked}
use Rattle.amqp_auth.specs.declared.asked.Asked.TheVariants as answer
use Rattle.amqp_rules.specs.Talk.{Talk, hears_on, is_open, is_closing, acts, end_of}
use Rattle.amqp_rules.specs.Changes.{lose, misplaced}
use Rattle.amqp_rules.specs.Links.{misread, dropped}
use Rattle.amqp_violations.specs.Violations.{channel_closed_with, misread_error, stray_channel_frame, stray_connection_method, unawaited}
use Rattle.amqp_rules.specs.ConnectionMethods.{connected, connection_rule, connection_closed, secret_taken, on_start, on_secure, on_open_ok}
use Rattle.amqp_rules.specs.Channels.{channel_at}
use Rattle.amqp_rules.specs.ChannelMethods.{heard_on, unawaited_channel_method, channel_opened, channel_closed, channel_flowed, channel_close_by, closed_by_server, crossing_close, remove_unless_owed, on_channel_flow, channel_rule, channel_method_by, channel_method, hand_out, confirmed, is_select_ok, pass_through, raw_by}
use Rattle.amqp_frame.specs.Methods.{is_of_a_channel}
use Rattle.amqp_rules.specs.Frames.{method_questions, method_rule, frame_rule, closed_rule, on_frame}
use Rattle.amqp_rules.specs.Causes.{IsFrameError, is_awaited, is_due, is_secret_told, refused_in}
use Rattle.amqp_types.proofs.Small.{if_case, if_by}
use Rattle.amqp_rules.proofs.Recovering.{reopened-keeps}
use Rattle.amqp_rules.proofs.Ends.{Ends, ends-kept, ends-lose, ends-ok}

-- the session ends with an error, or waits for another link, as it did before, or one of these errors is brought
record Brings (P : ErrorKind → Type 0) (t t' : Talk) : Type 0 where
  ends : Ends P t t'
  waits : t'.state ≡ Reconnecting → (t.state ≡ Reconnecting) ⊎ ((k : ErrorKind) × P k)

brings-kept : (P : ErrorKind → Type 0) (t t' : Talk) → end_of t' ≡ end_of t → t'.state ≡ t.state → Brings P t t'
brings-kept P t t' same held = record { ends = ends-kept P t t' same; waits = λ h. inl (sym held ∙ h) }

brings-none : (P : ErrorKind → Type 0) (t : Talk) → Brings P t t
brings-none P t = brings-kept P t t refl refl

-- what waits for no other link
brings-other : (P : ErrorKind → Type 0) (t t' : Talk) → Ends P t t' → t'.state ≢ Reconnecting → Brings P t t'
brings-other P t t' e other = record { ends = e; waits = λ h. absurd (other h) }

brings-lose : (P : ErrorKind → Type 0) (e : ErrorKind) (t : Talk) → P e → Brings P t (lose e t)
brings-lose P e t p = record { ends = ends-lose P e t t p; waits = λ h. inr (e, p) }

brings-misplaced : (P : ErrorKind → Type 0) (e : ErrorKind) (t : Talk) → (is_closing t.state ≡ false → P e) → Brings P t (misplaced e t)
brings-misplaced P e t p = if_by (Brings P t) (is_closing t.state) t (lose e t) (λ h. brings-none P t) (λ h. brings-lose P e t (p h))

brings-unawaited : (P : ErrorKind → Type 0) (n : ℕ) (s : ChannelState) (m : AnyMethod) (t : Talk) → (s ≢ channel.Closing → P (unawaited m n)) → Brings P t (unawaited_channel_method n s m t)
brings-unawaited P n channel.Closing m t p = brings-none P t
brings-unawaited P n _ m t p = brings-lose P (unawaited m n) t (p (λ e. cc))

brings-opened : (P : ErrorKind → Type 0) (n : ℕ) (c : Channel) (a : Option (Option ℕ)) (t : Talk)
    → (is_some a ≡ false → c.state ≢ channel.Closing → P (unawaited ChannelOpenOk n)) → Brings P t (channel_opened n c a t)
brings-opened P n c None t p = brings-unawaited P n c.state ChannelOpenOk t (p refl)
brings-opened P n c (Some promise) t p = brings-kept P t (channel_opened n c (Some promise) t) refl refl

-- a channel that goes ends nothing
end-owed : (d : Debt) (n : ℕ) (c : Channel) (t : Talk) → end_of (remove_unless_owed d n c t) ≡ end_of t
end-owed debt.Owed n c t = refl
end-owed _ n c t = refl

state-owed : (d : Debt) (n : ℕ) (c : Channel) (t : Talk) → (remove_unless_owed d n c t).state ≡ t.state
state-owed debt.Owed n c t = refl
state-owed _ n c t = refl

brings-closed : (P : ErrorKind → Type 0) (n : ℕ) (c : Channel) (a : Option (Option ℕ)) (t : Talk)
    → (is_some a ≡ false → c.state ≢ channel.Closing → P (unawaited ChannelCloseOk n)) → Brings P t (channel_closed n c a t)
brings-closed P n c None t p = brings-unawaited P n c.state ChannelCloseOk t (p refl)
brings-closed P n c (Some promise) t p = brings-kept P t (channel_closed n c (Some promise) t) (end-owed c.debt n c _) (state-owed c.debt n c _)

brings-flow : (P : ErrorKind → Type 0) (s : ChannelState) (n : ℕ) (c : Channel) (active : Bool) (t : Talk) → Brings P t (on_channel_flow s n c active t)
brings-flow P channel.Closing n c active t = brings-none P t
brings-flow P _ n c active t = brings-kept P t _ refl refl

brings-flowed : (P : ErrorKind → Type 0) (n : ℕ) (c : Channel) (active : Bool) (a : Option (Option ℕ)) (t : Talk)
    → (is_some a ≡ false → c.state ≢ channel.Closing → P (unawaited (ChannelFlowOk active) n)) → Brings P t (channel_flowed n c active a t)
brings-flowed P n c active None t p = brings-unawaited P n c.state (ChannelFlowOk active) t (p refl)
brings-flowed P n c active (Some promise) t p = brings-kept P t (channel_flowed n c active (Some promise) t) refl refl

brings-server-close : (P : ErrorKind → Type 0) (d : Debt) (n : ℕ) (e : ErrorKind) (c : Channel) (t : Talk) → Brings P t (channel_close_by d n e c t)
brings-server-close P debt.Nothing n e c t =
    if_case (Brings P t) c.awaits_close_ok (crossing_close n e c t) (closed_by_server n e c t) (brings-kept P t _ refl refl) (brings-kept P t _ refl refl)
brings-server-close P _ n e c t = brings-none P t

brings-connection-closed : (P : ErrorKind → Type 0) (a : Option (Option ℕ)) (t : Talk) → Brings P t (connection_closed a t)
brings-connection-closed P None t = brings-other P t _ (ends-ok P t _ refl) (λ h. cc)
brings-connection-closed P (Some promise) t = brings-other P t _ (ends-ok P t _ refl) (λ h. cc)

brings-secret-taken : (P : ErrorKind → Type 0) (a : Option (Option ℕ)) (t : Talk) → (is_some a ≡ false → P (InvalidConnectionState Connected))
    → Brings P t (secret_taken a t)
brings-secret-taken P None t p = brings-lose P (InvalidConnectionState Connected) t (p refl)
brings-secret-taken P (Some None) t p = brings-kept P t _ refl refl
brings-secret-taken P (Some (Some number)) t p = brings-kept P t _ refl refl

-- a start ends a session where the provider refused it
brings-start : (P : ErrorKind → Type 0) (answers : List Asked) (t : Talk)
    → ((text : List ℕ) → refused_in (question.Mechanism ∷ question.Starter ∷ []) answers ≡ Some text → P (AuthProviderError text))
    → Brings P t (on_start answers t)
brings-start P (answer.Mechanism mechanism ∷ answer.Starter (Ok response) ∷ later) t p = brings-kept P t _ refl refl
brings-start P (answer.Mechanism mechanism ∷ answer.Starter (Err text) ∷ later) t p = brings-lose P (AuthProviderError text) t (p text refl)
brings-start P _ t p = brings-none P t

-- and so does a challenge
brings-secure : (P : ErrorKind → Type 0) (challenge : List ℕ) (answers : List Asked) (t : Talk)
    → ((text : List ℕ) → refused_in (question.Challenge challenge ∷ []) answers ≡ Some text → P (AuthProviderError text))
    → Brings P t (on_secure answers t)
brings-secure P challenge (answer.Challenge (Ok response) ∷ later) t p = brings-kept P t _ refl refl
brings-secure P challenge (answer.Challenge (Err text) ∷ later) t p = brings-lose P (AuthProviderError text) t (p text refl)
brings-secure P challenge _ t p = brings-none P t

-- the connection is open, which ends nothing
brings-open-ok : (P : ErrorKind → Type 0) (t : Talk) → Brings P t (on_open_ok t)
brings-open-ok P t =
    let held : (on_open_ok t).state ≡ Connected = reopened-keeps (λ (x : Talk). x.state) (λ x q cs. refl) t.channels (connected t) in
    brings-other P t (on_open_ok t) (ends-kept P t (on_open_ok t) (reopened-keeps end_of (λ x q cs. refl) t.channels (connected t))) (λ h. cc)

brings-connection : (P : ErrorKind → Type 0) (s : ConnectionState) (p : Phase) (m : AnyMethod) (answers : List Asked) (t : Talk)
    → (is_closing s ≡ false → is_due m (is_secret_told t) s p ≡ false → P (InvalidConnectionState s))
    → ((text : List ℕ) → refused_in (method_questions s p m) answers ≡ Some text → P (AuthProviderError text))
    → Brings P t (connection_rule s p m answers t)
brings-connection P s p (Close code text class method) answers t e r = brings-other P t _ (ends-kept P t _ refl) (λ h. cc)
brings-connection P s p (Blocked reason) answers t e r = brings-kept P t _ refl refl
brings-connection P s p Unblocked answers t e r = brings-kept P t _ refl refl
brings-connection P Closing p CloseOk answers t e r = brings-connection-closed P (awaited_promise 0 ConnectionClosed t.outbox) t
brings-connection P Closing p m answers t e r = brings-none P t
brings-connection P Connecting AwaitStart (Start a b c d x) answers t e r = brings-start P answers t r
brings-connection P Connecting AwaitTune (Secure challenge) answers t e r = brings-secure P challenge answers t r
brings-connection P Connecting AwaitTune (Tune a b c) answers t e r = brings-kept P t _ refl refl
brings-connection P Connecting AwaitOpenOk OpenOk answers t e r = brings-open-ok P t
brings-connection P Connected p UpdateSecretOk answers t e r = brings-secret-taken P (awaited_promise 0 SecretDone t.outbox) t (e refl)
brings-connection P held p m answers t e r = brings-lose P (InvalidConnectionState held) t (e refl refl)

brings-channel : (P : ErrorKind → Type 0) (s : ConnectionState) (n : ℕ) (c : Channel) (m : AnyMethod) (t : Talk)
    → (is_closing s ≡ false → is_awaited m n t ≡ false → c.state ≢ channel.Closing → P (unawaited m n)) → Brings P t (channel_rule s n c m t)
brings-channel P Closing n c m t p = brings-none P t
brings-channel P _ n c ChannelOpenOk t p = brings-opened P n c (awaited_promise n ChannelOpened t.outbox) t (p refl)
brings-channel P _ n c ChannelCloseOk t p = brings-closed P n c (awaited_promise n ChannelClosed t.outbox) t (p refl)
brings-channel P _ n c (ChannelClose code text class method) t p =
    brings-server-close P c.debt n (channel_closed_with code text) c t
brings-channel P _ n c (ChannelFlow active) t p = brings-flow P c.state n c active t
brings-channel P _ n c (ChannelFlowOk active) t p = brings-flowed P n c active (awaited_promise n FlowDone t.outbox) t (p refl)
brings-channel P _ n c m t p = brings-unawaited P n c.state m t (p refl refl)

brings-channel-by : (P : ErrorKind → Type 0) (o : Option Channel) (n : ℕ) (m : AnyMethod) (t : Talk)
    → (o ≡ None → is_closing t.state ≡ false → P (InvalidChannel n))
    → ((c : Channel) → o ≡ Some c → is_closing t.state ≡ false → is_awaited m n t ≡ false → c.state ≢ channel.Closing → P (unawaited m n))
    → Brings P t (channel_method_by o n m t)
brings-channel-by P None n m t none p = brings-misplaced P (InvalidChannel n) t (none refl)
brings-channel-by P (Some c) n m t none p = brings-channel P t.state n c m t (p c refl)

-- a frame is heard on a listed channel, and not while Connecting
pub none-heard : (s : ConnectionState) (o : Option Channel) → heard_on s o ≡ None → (o ≡ None) ⊎ (s ≡ Connecting)
none-heard Connecting o h = inr refl
none-heard _ o h = inl h

pub some-heard : (s : ConnectionState) (o : Option Channel) (c : Channel) → heard_on s o ≡ Some c → (s ≢ Connecting) × (o ≡ Some c)
some-heard Connecting o c h = cc
some-heard _ o c h = (λ e. cc, h)

brings-pass : (P : ErrorKind → Type 0) (n : ℕ) (c : Channel) (kind : RawKind) (bytes : List ℕ) (t : Talk) → Brings P t (pass_through n c kind bytes t)
brings-pass P n c kind bytes t =
    if_case (λ (x : Talk). Brings P t (hand_out c.opened (record { channel = n; kind = kind; bytes = bytes }) x)) (is_select_ok kind bytes) (confirmed n c t) t
    (brings-kept P t _ refl refl) (brings-kept P t _ refl refl)

brings-raw : (P : ErrorKind → Type 0) (o : Option Channel) (n : ℕ) (kind : RawKind) (bytes : List ℕ) (t : Talk)
    → (o ≡ None → is_closing t.state ≡ false → P (InvalidChannel n)) → Brings P t (raw_by o n kind bytes t)
brings-raw P None n kind bytes t p = brings-misplaced P (InvalidChannel n) t (p refl)
brings-raw P (Some c) n kind bytes t p = brings-pass P n c kind bytes t

-- the errors of a frame that is read so
abbrev pub FrameError : Frame → List Asked → Talk → ErrorKind → Type 0
FrameError f answers t k = IsFrameError k f answers t

brings-method : (n : ℕ) (m : AnyMethod) (answers : List Asked) (t : Talk) → Brings (FrameError (Method n m) answers t) t (method_rule n m answers t)
brings-method zero m answers t =
    let P : ErrorKind → Type 0 = FrameError (Method zero m) answers t in
    if_by (Brings P t) (is_of_a_channel m) (misplaced (stray_channel_frame RawMethod) t) (connection_rule t.state t.phase m answers t)
    (λ h. brings-misplaced P (stray_channel_frame RawMethod) t (λ going. (ap not going, inl (h, refl))))
    (λ h. brings-connection P t.state t.phase m answers t (λ going undue. (ap not going, ((h, undue), refl))) (λ text refused. refused))
brings-method (suc n) m answers t =
    let P : ErrorKind → Type 0 = FrameError (Method (suc n) m) answers t in
    let o : Option Channel = channel_at (suc n) t in
    if_by (Brings P t) (is_of_a_channel m) (channel_method (suc n) m t) (misplaced (stray_connection_method (suc n)) t)
    (λ h. brings-channel-by P (heard_on t.state o) (suc n) m t
    (λ none going. (ap not going, ((refl, h), none-heard t.state o none)))
    (λ c some going free kept.
    let heard = some-heard t.state o c some in
    (ap not going, inr (h, (heard.0, (c, heard.1, kept)), free, refl))))
    (λ h. brings-misplaced P (stray_connection_method (suc n)) t (λ going. (ap not going, inl (h, refl))))

brings-rule : (f : Frame) (answers : List Asked) (t : Talk) → Brings (FrameError f answers t) t (frame_rule f answers t)
brings-rule (ProtocolHeader version) answers t = brings-lose (FrameError (ProtocolHeader version) answers t) (InvalidProtocolVersion version) t refl
brings-rule Heartbeat answers t = brings-none (FrameError Heartbeat answers t) t
brings-rule (Method n m) answers t = brings-method n m answers t
brings-rule (Raw zero kind bytes) answers t =
    brings-misplaced (FrameError (Raw zero kind bytes) answers t) (stray_channel_frame kind) t (λ going. (ap not going, inl refl))
brings-rule (Raw (suc n) kind bytes) answers t =
    let o : Option Channel = channel_at (suc n) t in
    brings-raw (FrameError (Raw (suc n) kind bytes) answers t) (heard_on t.state o) (suc n) kind bytes t
    (λ h going. (ap not going, (refl, none-heard t.state o h)))

pub end-closed : (f : Frame) (t : Talk) → end_of (closed_rule f t) ≡ end_of t
end-closed (Method zero (Blocked reason)) t = refl
end-closed (Method zero Unblocked) t = refl
end-closed f t = refl

state-closed : (f : Frame) (t : Talk) → (closed_rule f t).state ≡ t.state
state-closed (Method zero (Blocked reason)) t = refl
state-closed (Method zero Unblocked) t = refl
state-closed f t = refl

brings-frame : (f : Frame) (answers : List Asked) (t : Talk) → Brings (FrameError f answers t) t (on_frame f answers t)
brings-frame f answers t =
    let P : ErrorKind → Type 0 = FrameError f answers t in
    if_case (Brings P t) (acts t) (frame_rule f answers t) (if hears_on t then closed_rule f t else t)
    (brings-rule f answers t)
    (if_case (Brings P t) (hears_on t) (closed_rule f t) t (brings-kept P t (closed_rule f t) (end-closed f t) (state-closed f t)) (brings-none P t))

-- a frame ends a session by its own errors alone
pub ends-frame : (f : Frame) (answers : List Asked) (t : Talk) → Ends (FrameError f answers t) t (on_frame f answers t)
ends-frame f answers t = (brings-frame f answers t).ends

-- a frame after which the session waits for another link, as it did not before, brings an error
pub waits-frame : (f : Frame) (answers : List Asked) (t : Talk) → t.state ≢ Reconnecting → (on_frame f answers t).state ≡ Reconnecting
    → (k : ErrorKind) × IsFrameError k f answers t
waits-frame f answers t other h = elim ((brings-frame f answers t).waits h) [ inl before ↦ absurd (other before) | inr brought ↦ brought ]

-- what is no frame ends it by its own error alone
pub ends-misread : (P : ErrorKind → Type 0) (w : Misread) (t : Talk) → P (misread_error w) → Ends P t (misread w t)
ends-misread P w t p =
    if_case (Ends P t) (acts t) (lose (misread_error w) t) (if is_open t then record t { input = dropped t.input } else t)
    (ends-lose P (misread_error w) t t p)
    (if_case (Ends P t) (is_open t) (record t { input = dropped t.input }) t (ends-kept P t _ refl) (ends-kept P t t refl))
