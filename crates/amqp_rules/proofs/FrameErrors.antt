-- By each error that is said to be brought by a frame the link is lost where frames act, and by no other error.
use Rattle.std.proofs.Common.{◌≡◌, ◌≢◌, ◌⊎◌, ◌↔◌, inl, inr, if◌then◌else◌, ℕ, zero, suc, not, Bool, true, false, List, [], ◌∷◌, Option, Some, None, Ok, Err, is_some, refl, ap, sym, ◌∙◌, subst}
use Rattle.amqp_types.specs.declared.version.ProtocolVersion.{ProtocolVersion}
use Rattle.amqp_frame.specs.declared.frame.Frame.{Frame}
use Rattle.amqp_frame.specs.declared.frame.Frame.TheVariants.{ProtocolHeader, Method, Raw, Heartbeat}
use Rattle.amqp_frame.specs.declared.frame.RawKind.{RawKind}
use Rattle.amqp_frame.specs.declared.frame.RawKind.TheVariants.{RawMethod}
use Rattle.amqp_frame.specs.declared.method.Method.{Method as AnyMethod}
use Rattle.amqp_frame.specs.declared.method.Method.TheVariants.{Start, Secure, Tune, OpenOk, Close, Blocked, Unblocked, UpdateSecretOk, ChannelOpenOk, ChannelClose, ChannelCloseOk, ChannelFlow, ChannelFlowOk}
use Rattle.amqp_outbox.specs.declared.reply.Reply.TheVariants.{ChannelOpened, ChannelClosed, FlowDone, SecretDone}
use Rattle.amqp_outbox.specs.Queued.{awaited_promise}
use Rattle.amqp_channels.specs.declared.channels.Channel.{Channel}
use Rattle.amqp_promise.specs.declared.state.ConnectionState.{ConnectionState}
use Rattle.amqp_promise.specs.declared.state.ConnectionState.TheVariants.{Connecting, Connected, Closing}
use Rattle.amqp_promise.specs.declared.state.ChannelState.{ChannelState}
use Rattle.amqp_promise.specs.declared.state.ChannelState.TheVariants as channel
use Rattle.amqp_rules.specs.declared.state.Phase.{Phase}
use Rattle.amqp_rules.specs.declared.state.Phase.TheVariants.{AwaitStart, AwaitTune, AwaitOpenOk}
use Rattle.amqp_promise.specs.declared.error.ErrorKind.{ErrorKind}
use Rattle.amqp_promise.specs.declared.error.ErrorKind.TheVariants.{InvalidProtocolVersion, InvalidChannel, InvalidConnectionState, ProtocolError, AuthProviderError}
use Rattle.amqp_auth.specs.declared.asked.Question.{Question}
use Rattle.amqp_auth.specs.declared.asked.Question.TheVariants as question
use Rattle.amqp_auth.specs.declared.asked.Asked.{Asked}
use Rattle.amqp_auth.specs.declared.asked.Asked.TheVariants as answer
use Rattle.amqp_rules.specs.Talk.{Talk, hears_on, is_open, is_acting, is_closing, acts, end_of}
use Rattle.amqp_rules.specs.Recovery.{recovery_delay}
use Rattle.amqp_rules.specs.Changes.{lose, misplaced}
use Rattle.amqp_violations.specs.Violations.{stray_channel_frame, stray_connection_method, unawaited}
use Rattle.amqp_rules.specs.ConnectionMethods.{connection_rule, secret_taken, on_start, on_secure}
use Rattle.amqp_rules.specs.Channels.{channel_at}
use Rattle.amqp_rules.specs.ChannelMethods.{heard_on, unawaited_channel_method, channel_opened, channel_closed, channel_flowed, channel_rule, channel_method_by, channel_method, raw_by, raw_frame}
use Rattle.amqp_frame.specs.Methods.{is_of_a_channel}
use Rattle.amqp_rules.specs.Frames.{method_questions, questions_in, frame_rule, closed_rule, on_frame}
use Rattle.amqp_rules.specs.Causes.{IsFrameError, IsJudgedError, IsMisplaced, IsUnawaited, IsOfChannel, IsUndue, IsUnheard, IsInUse, is_awaited, is_due, is_secret_told, is_judged, refused_in}
use Rattle.amqp_types.proofs.Small.{if_by, if-true, if-false, and-left, from-not-true}
use Rattle.amqp_rules.proofs.LostLinks.{open-goes_on, lose-ends}
use Rattle.amqp_rules.proofs.FrameEnds.{ends-frame}

misplaced-lost : (e : ErrorKind) (t : Talk) → is_closing t.state ≡ false → misplaced e t ≡ lose e t
misplaced-lost e t from-not-true = if-false (is_closing t.state) t (lose e t) from-not-true

secret-lost : (a : Option (Option ℕ)) (t : Talk) → is_some a ≡ false → secret_taken a t ≡ lose (InvalidConnectionState Connected) t
secret-lost None t free = refl
secret-lost (Some promise) t free = cc

undue-lost : (s : ConnectionState) (p : Phase) (m : AnyMethod) (answers : List Asked) (t : Talk) → is_closing s ≡ false → is_due m (is_secret_told t) s p ≡ false
    → connection_rule s p m answers t ≡ lose (InvalidConnectionState s) t
undue-lost s p (Close code text class method) answers t from-not-true undue = cc
undue-lost s p (Blocked reason) answers t from-not-true undue = cc
undue-lost s p Unblocked answers t from-not-true undue = cc
undue-lost Closing p m answers t from-not-true undue = cc
undue-lost Connecting AwaitStart (Start a b c d e) answers t from-not-true undue = cc
undue-lost Connecting AwaitTune (Secure challenge) answers t from-not-true undue = cc
undue-lost Connecting AwaitTune (Tune a b c) answers t from-not-true undue = cc
undue-lost Connecting AwaitOpenOk OpenOk answers t from-not-true undue = cc
undue-lost Connected p UpdateSecretOk answers t from-not-true undue = secret-lost (awaited_promise 0 SecretDone t.outbox) t undue
undue-lost s p m answers t from-not-true undue = refl

-- by the refusal of a start or of a challenge the link is lost
refused-lost : (s : ConnectionState) (p : Phase) (m : AnyMethod) (answers : List Asked) (text : List ℕ) (t : Talk) → refused_in (method_questions s p m) answers ≡ Some text
    → connection_rule s p m answers t ≡ lose (AuthProviderError text) t
refused-lost Connecting AwaitStart (Start a b c d e) answers text t h = start answers h
  where
    start : (answers : List Asked) → refused_in (question.Mechanism ∷ question.Starter ∷ []) answers ≡ Some text
        → on_start answers t ≡ lose (AuthProviderError text) t
    start (answer.Mechanism mechanism ∷ answer.Starter (Err said) ∷ later) h = let same : said ≡ text = cc in ap (λ (x : List ℕ). lose (AuthProviderError x) t) same
    start (answer.Mechanism mechanism ∷ answer.Starter (Ok response) ∷ later) h = cc
    start _ h = cc
refused-lost Connecting AwaitTune (Secure challenge) answers text t h = secure answers h
  where
    secure : (answers : List Asked) → refused_in (question.Challenge challenge ∷ []) answers ≡ Some text
        → on_secure answers t ≡ lose (AuthProviderError text) t
    secure (answer.Challenge (Err said) ∷ later) h = let same : said ≡ text = cc in ap (λ (x : List ℕ). lose (AuthProviderError x) t) same
    secure (answer.Challenge (Ok response) ∷ later) h = cc
    secure _ h = cc
refused-lost s p m answers text t h = cc

-- what asks is of no channel
asks-nothing : (s : ConnectionState) (p : Phase) (m : AnyMethod) → is_of_a_channel m ≡ true → method_questions s p m ≡ []
asks-nothing Connecting AwaitStart (Start a b c d e) h = cc
asks-nothing Connecting AwaitTune (Secure challenge) h = cc
asks-nothing s p m h = refl

refused-none : (answers : List Asked) (text : List ℕ) → refused_in [] answers ≡ Some text → ⊥
refused-none answers text h = cc

unheard : (s : ConnectionState) (o : Option Channel) → (o ≡ None) ⊎ (s ≡ Connecting) → heard_on s o ≡ None
unheard Connecting o h = refl
unheard _ o h = elim h [ inl none ↦ none | inr e ↦ cc ]

heard : (s : ConnectionState) (o : Option Channel) (c : Channel) → s ≢ Connecting → o ≡ Some c → heard_on s o ≡ Some c
heard Connecting o c other some = absurd (other refl)
heard _ o c other some = some

unawaited-lost : (n : ℕ) (s : ChannelState) (m : AnyMethod) (t : Talk) → s ≢ channel.Closing → unawaited_channel_method n s m t ≡ lose (unawaited m n) t
unawaited-lost n channel.Closing m t kept = absurd (kept refl)
unawaited-lost n _ m t kept = refl

opened-lost : (n : ℕ) (c : Channel) (a : Option (Option ℕ)) (t : Talk) → is_some a ≡ false → c.state ≢ channel.Closing
    → channel_opened n c a t ≡ lose (unawaited ChannelOpenOk n) t
opened-lost n c None t free kept = unawaited-lost n c.state ChannelOpenOk t kept
opened-lost n c (Some promise) t free kept = cc

closed-lost : (n : ℕ) (c : Channel) (a : Option (Option ℕ)) (t : Talk) → is_some a ≡ false → c.state ≢ channel.Closing
    → channel_closed n c a t ≡ lose (unawaited ChannelCloseOk n) t
closed-lost n c None t free kept = unawaited-lost n c.state ChannelCloseOk t kept
closed-lost n c (Some promise) t free kept = cc

flowed-lost : (n : ℕ) (c : Channel) (active : Bool) (a : Option (Option ℕ)) (t : Talk) → is_some a ≡ false → c.state ≢ channel.Closing
    → channel_flowed n c active a t ≡ lose (unawaited (ChannelFlowOk active) n) t
flowed-lost n c active None t free kept = unawaited-lost n c.state (ChannelFlowOk active) t kept
flowed-lost n c active (Some promise) t free kept = cc

channel-lost : (s : ConnectionState) (n : ℕ) (c : Channel) (m : AnyMethod) (t : Talk) → is_closing s ≡ false → is_awaited m n t ≡ false → c.state ≢ channel.Closing
    → channel_rule s n c m t ≡ lose (unawaited m n) t
channel-lost Closing n c m t from-not-true free kept = cc
channel-lost _ n c ChannelOpenOk t from-not-true free kept = opened-lost n c (awaited_promise n ChannelOpened t.outbox) t free kept
channel-lost _ n c ChannelCloseOk t from-not-true free kept = closed-lost n c (awaited_promise n ChannelClosed t.outbox) t free kept
channel-lost _ n c (ChannelClose code text class method) t from-not-true free kept = cc
channel-lost _ n c (ChannelFlow active) t from-not-true free kept = cc
channel-lost _ n c (ChannelFlowOk active) t from-not-true free kept = flowed-lost n c active (awaited_promise n FlowDone t.outbox) t free kept
channel-lost _ n c m t from-not-true free kept = unawaited-lost n c.state m t kept

undue-method : (m : AnyMethod) (answers : List Asked) (t : Talk) → is_closing t.state ≡ false → is_of_a_channel m ≡ false → is_due m (is_secret_told t) t.state t.phase ≡ false
    → frame_rule (Method zero m) answers t ≡ lose (InvalidConnectionState t.state) t
undue-method m answers t on of undue =
    if-false (is_of_a_channel m) (misplaced (stray_channel_frame RawMethod) t) (connection_rule t.state t.phase m answers t) of
    ∙ undue-lost t.state t.phase m answers t on undue

on-channel : (n : ℕ) (m : AnyMethod) (answers : List Asked) (t : Talk) → is_of_a_channel m ≡ true
    → frame_rule (Method (suc n) m) answers t ≡ channel_method (suc n) m t
on-channel n m answers t of =
    if-true (is_of_a_channel m) (channel_method (suc n) m t) (misplaced (stray_connection_method (suc n)) t) of

unheard-method : (n : ℕ) (m : AnyMethod) (answers : List Asked) (t : Talk) → is_closing t.state ≡ false → is_of_a_channel m ≡ true → IsUnheard (suc n) t
    → frame_rule (Method (suc n) m) answers t ≡ lose (InvalidChannel (suc n)) t
unheard-method n m answers t on of none =
    on-channel n m answers t of
    ∙ ap (λ (o : Option Channel). channel_method_by o (suc n) m t) (unheard t.state (channel_at (suc n) t) none)
    ∙ misplaced-lost (InvalidChannel (suc n)) t on

unheard-raw : (n : ℕ) (kind : RawKind) (bytes : List ℕ) (t : Talk) → is_closing t.state ≡ false → IsUnheard (suc n) t
    → raw_frame (suc n) kind bytes t ≡ lose (InvalidChannel (suc n)) t
unheard-raw n kind bytes t on none =
    ap (λ (o : Option Channel). raw_by o (suc n) kind bytes t) (unheard t.state (channel_at (suc n) t) none)
    ∙ misplaced-lost (InvalidChannel (suc n)) t on

unawaited-method : (n : ℕ) (m : AnyMethod) (answers : List Asked) (t : Talk) → is_closing t.state ≡ false → is_of_a_channel m ≡ true
    → IsInUse (suc n) t → is_awaited m (suc n) t ≡ false → frame_rule (Method (suc n) m) answers t ≡ lose (unawaited m (suc n)) t
unawaited-method n m answers t on of kept free =
    on-channel n m answers t of
    ∙ ap (λ (o : Option Channel). channel_method_by o (suc n) m t) (heard t.state (channel_at (suc n) t) kept.1.0 kept.0 kept.1.1)
    ∙ channel-lost t.state (suc n) kept.1.0 m t on free kept.1.2

misplaced-method : (n : ℕ) (m : AnyMethod) (answers : List Asked) (e : ErrorKind) (t : Talk) → is_closing t.state ≡ false → IsMisplaced e (Method n m)
    → frame_rule (Method n m) answers t ≡ lose e t
misplaced-method zero m answers e t on h =
    if-true (is_of_a_channel m) (misplaced (stray_channel_frame RawMethod) t) (connection_rule t.state t.phase m answers t) h.0
    ∙ misplaced-lost (stray_channel_frame RawMethod) t on
    ∙ ap (λ (k : ErrorKind). lose k t) (sym h.1)
misplaced-method (suc n) m answers e t on h =
    if-false (is_of_a_channel m) (channel_method (suc n) m t) (misplaced (stray_connection_method (suc n)) t) h.0
    ∙ misplaced-lost (stray_connection_method (suc n)) t on
    ∙ ap (λ (k : ErrorKind). lose k t) (sym h.1)

-- the same, where the frame is any
misplaced-brings : (f : Frame) (answers : List Asked) (e : ErrorKind) (t : Talk) → is_judged t ≡ true → IsMisplaced e f → frame_rule f answers t ≡ lose e t
misplaced-brings (Method n m) answers e t on h =
    let free = from-not-true (is_closing t.state) on in
    misplaced-method n m answers e t free h
misplaced-brings (Raw zero kind bytes) answers e t on h =
    misplaced-lost (stray_channel_frame kind) t (from-not-true (is_closing t.state) on) ∙ ap (λ (k : ErrorKind). lose k t) (sym h)
misplaced-brings _ answers e t on h = absurd h

unawaited-brings : (f : Frame) (answers : List Asked) (e : ErrorKind) (t : Talk) → is_judged t ≡ true → IsUnawaited e f t → frame_rule f answers t ≡ lose e t
unawaited-brings (Method (suc n) m) answers e t on h =
    let free = from-not-true (is_closing t.state) on in
    unawaited-method n m answers t free h.0 h.1 h.2 ∙ ap (λ (k : ErrorKind). lose k t) (sym h.3)
unawaited-brings _ answers e t on h = absurd h

undue-brings : (f : Frame) (answers : List Asked) (t : Talk) → is_judged t ≡ true → IsUndue f t → frame_rule f answers t ≡ lose (InvalidConnectionState t.state) t
undue-brings (Method zero m) answers t on h =
    let free = from-not-true (is_closing t.state) on in
    undue-method m answers t free h.0 h.1
undue-brings _ answers t on h = absurd h

unheard-brings : (n : ℕ) (f : Frame) (answers : List Asked) (t : Talk) → is_judged t ≡ true → IsOfChannel n f → IsUnheard n t → frame_rule f answers t ≡ lose (InvalidChannel n) t
unheard-brings (suc n) (Method zero m) answers t on of none = cc
unheard-brings (suc n) (Method (suc c) m) answers t on of none =
    let free = from-not-true (is_closing t.state) on in
    let same : suc n ≡ suc c = sym of.0 in
    unheard-method c m answers t free of.1 (subst (λ (x : ℕ). IsUnheard x t) same none) ∙ ap (λ (x : ℕ). lose (InvalidChannel x) t) of.0
unheard-brings (suc n) (Raw zero kind bytes) answers t on of none = cc
unheard-brings (suc n) (Raw (suc c) kind bytes) answers t on of none =
    unheard-raw c kind bytes t (from-not-true (is_closing t.state) on) (subst (λ (x : ℕ). IsUnheard x t) (sym of) none) ∙ ap (λ (x : ℕ). lose (InvalidChannel x) t) of
unheard-brings _ f answers t on of none = absurd of

judged-brings : (k : ErrorKind) (f : Frame) (answers : List Asked) (t : Talk) → is_judged t ≡ true → IsJudgedError k f t → frame_rule f answers t ≡ lose k t
judged-brings (InvalidConnectionState s) f answers t on h = undue-brings f answers t on h.0 ∙ ap (λ (x : ConnectionState). lose (InvalidConnectionState x) t) h.1
judged-brings (InvalidChannel n) f answers t on h = unheard-brings n f answers t on h.0 h.1
judged-brings (ProtocolError e) f answers t on h =
    elim h [ inl m ↦ misplaced-brings f answers (ProtocolError e) t on m | inr u ↦ unawaited-brings f answers (ProtocolError e) t on u ]
judged-brings _ f answers t on h = absurd h

rule-brings : (k : ErrorKind) (f : Frame) (answers : List Asked) (t : Talk) → IsFrameError k f answers t → frame_rule f answers t ≡ lose k t
rule-brings (InvalidProtocolVersion version) (ProtocolHeader v) answers t h = ap (λ (x : ProtocolVersion). lose (InvalidProtocolVersion x) t) h
rule-brings (AuthProviderError text) (Method zero m) answers t h =
    if_by (λ (x : Talk). x ≡ lose (AuthProviderError text) t) (is_of_a_channel m) (misplaced (stray_channel_frame RawMethod) t) (connection_rule t.state t.phase m answers t)
    (λ of. absurd (refused-none answers text (subst (λ (q : List Question). refused_in q answers ≡ Some text) (asks-nothing t.state t.phase m of) h)))
    (λ of. refused-lost t.state t.phase m answers text t h)
rule-brings (AuthProviderError text) (Method (suc n) m) answers t h = absurd (refused-none answers text h)
rule-brings (AuthProviderError text) (ProtocolHeader v) answers t h = absurd (refused-none answers text h)
rule-brings (AuthProviderError text) (Raw n kind bytes) answers t h = absurd (refused-none answers text h)
rule-brings (AuthProviderError text) Heartbeat answers t h = absurd (refused-none answers text h)
rule-brings k f answers t h = judged-brings k f answers t h.0 h.1

-- where frames act, the link is lost by the error that a frame brings
pub frame-lost : (k : ErrorKind) (f : Frame) (answers : List Asked) (t : Talk) → acts t ≡ true → IsFrameError k f answers t → on_frame f answers t ≡ lose k t
frame-lost k f answers t on h =
    if-true (acts t) (frame_rule f answers t) (if hears_on t then closed_rule f t else t) on ∙ rule-brings k f answers t h

-- where frames act, a frame ends a session by its own errors from which the session does not recover, and each of them
-- ends it
pub frame-errors : (k : ErrorKind) (f : Frame) (answers : List Asked) (t : Talk) → acts t ≡ true
    → (end_of (on_frame f answers t) ≡ Some (Err k)) ↔ (IsFrameError k f answers t × (recovery_delay k t ≡ None))
frame-errors k f answers t on = (there, back)
  where
    cause : end_of (on_frame f answers t) ≡ Some (Err k) → IsFrameError k f answers t
    cause h =
        let goes_on : end_of t ≡ None = open-goes_on t.link (and-left (is_open t) (is_acting t.input) on) in
        elim ((ends-frame f answers t).by k h) [ inl before ↦ cc | inr brought ↦ brought ]

    there : end_of (on_frame f answers t) ≡ Some (Err k) → IsFrameError k f answers t × (recovery_delay k t ≡ None)
    there h = (cause h, ((lose-ends k k t).0 (sym (ap end_of (frame-lost k f answers t on (cause h))) ∙ h)).1)

    back : IsFrameError k f answers t × (recovery_delay k t ≡ None) → end_of (on_frame f answers t) ≡ Some (Err k)
    back h = ap end_of (frame-lost k f answers t on h.0) ∙ (lose-ends k k t).1 (refl, h.1)

-- where frames act, a refusal ends a session by its text
pub refused-by : (text : List ℕ) (f : Frame) (answers : List Asked) (t : Talk) → acts t ≡ true → end_of (frame_rule f answers t) ≡ Some (Err (AuthProviderError text))
    → refused_in (questions_in f t) answers ≡ Some text
refused-by text f answers t on h =
    ((frame-errors (AuthProviderError text) f answers t on).0
    (ap end_of (if-true (acts t) (frame_rule f answers t) (if hears_on t then closed_rule f t else t) on) ∙ h)).0
