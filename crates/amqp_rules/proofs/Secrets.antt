-- When a new secret is asked for, and from which moment one is valid.
use Rattle.std.proofs.Common.{◌≡◌, inl, inr, ◌-◌, ℕ, zero, suc, ◌&&◌, not, nat_le, Bool, true, false, if◌then◌else◌, List, [], ◌∷◌, Option, Some, None, Result, Ok, Err, is_some, All, Contains, refl, ap, sym, ◌∙◌, arith}
use Rattle.std.proofs.lemmas.Bool.Decides.{nat_tests}
use Rattle.std.proofs.lemmas.List.Elements.{All-nil, All-cons, All-contains}
use Rattle.amqp_frame.specs.declared.frame.Frame.{Frame}
use Rattle.amqp_frame.specs.declared.frame.Frame.TheVariants.{ProtocolHeader, Method, Raw, Heartbeat}
use Rattle.amqp_frame.specs.declared.frame.RawKind.TheVariants.{RawMethod}
use Rattle.amqp_frame.specs.declared.method.Method.{Method as AnyMethod}
use Rattle.amqp_frame.specs.declared.method.Method.TheVariants.{Start, Secure, Tune, OpenOk, Close, CloseOk, Blocked, Unblocked, UpdateSecretOk}
use Rattle.amqp_outbox.specs.declared.item.Item.{Item}
use Rattle.amqp_outbox.specs.declared.reply.Reply.TheVariants.{SecretDone, ConnectionClosed}
use Rattle.amqp_outbox.specs.Queued.{awaited_promise}
use Rattle.amqp_promise.specs.declared.state.ConnectionState.{ConnectionState}
use Rattle.amqp_promise.specs.declared.state.ConnectionState.TheVariants.{Connecting, Connected, Closing}
use Rattle.amqp_rules.specs.declared.state.Phase.{Phase}
use Rattle.amqp_rules.specs.declared.state.Phase.TheVariants.{AwaitStart, AwaitTune, AwaitOpenOk}
use Rattle.amqp_commands.specs.declared.command.Cmd.{Cmd}
use Rattle.amqp_violations.specs.declared.misread.Misread.{Misread}
use Rattle.amqp_promise.specs.declared.error.ErrorKind.{ErrorKind}
use Rattle.amqp_promise.specs.declared.error.ErrorKind.TheVariants.{InvalidConnectionState, NoMemory, MissingHeartbeatError}
use Rattle.amqp_auth.specs.declared.asked.Question.{Question}
use Rattle.amqp_auth.specs.declared.asked.Question.TheVariants as question
use Rattle.amqp_auth.specs.declared.asked.Asked.{Asked}
use Rattle.amqp_auth.specs.declared.asked.Asked.TheVariants as answer
use Rattle.amqp_answers.specs.declared.event.Event.{Event}
use Rattle.amqp_rules.specs.Talk.{Talk, has_ended, end_of, is_open, is_asked, acts, hears_on}
use Rattle.amqp_rules.specs.Changes.{queue, lose, misplaced, fail}
use Rattle.amqp_rules.specs.Links.{linked, misread}
use Rattle.amqp_violations.specs.Violations.{stray_channel_frame}
use Rattle.amqp_rules.specs.ConnectionMethods.{connected, connection_rule, connection_closed, secret_taken, started, challenged}
use Rattle.amqp_rules.specs.Frames.{method_rule, frame_rule, closed_rule, on_frame}
use Rattle.amqp_frame.specs.Methods.{is_of_a_channel}
use Rattle.amqp_rules.specs.Commands.{command}
use Rattle.amqp_rules.specs.Ticks.{is_connected, is_missed, is_heartbeat_due, missing_heartbeat, beat, asks_validity, has_expired, refresh, validity_told, tick, refresh_questions, secret_questions, tick_questions}
use Rattle.amqp_rules.specs.Writing.{next_within, committed_as, commit, overlong, end_overlong, next_frame}
use Rattle.amqp_rules.specs.Answers.{answer_of, end_event, without_event}
use Rattle.amqp_rules.specs.Parts.{awaits_open_ok}
use Rattle.amqp_rules.specs.Secrets.{HasExpired, is_refresh, renews, refuses, IsSameSecret, IsSameOrNew, KeepsSecret}
use Rattle.amqp_rules.proofs.Heard.{start-case, secure-case}
use Rattle.amqp_rules.proofs.Walk.{ChannelRows, misplaced-keeps, misread-keeps, channel-method-keeps, raw-keeps}
use Rattle.amqp_rules.proofs.Keeping.{present-keeps, loss-keeps, lost-keeps, failed-keeps, stays-command}
use Rattle.amqp_rules.proofs.Sending.{taken-keeps}
use Rattle.amqp_types.proofs.Small.{if_case, if_by, if-false}
use Rattle.amqp_rules.proofs.Recovering.{lose-case, reopened-keeps}

-- ---- frames

-- where a link is lost, the secret is valid from the same moment as before
lose-secret : (e : ErrorKind) (t : Talk) → IsSameSecret t (lose e t)
lose-secret e t = loss-keeps (λ (x : Talk). x.secret_at) (λ x s l cs ps b q ms n o ns. refl) e t

-- where a secret is new it is valid from now on, and else from the same moment as before
abbrev IsSecretBy : Bool → Talk → Talk → Type 0
IsSecretBy renewed t t' = t'.secret_at ≡ (if renewed then t.present else t.secret_at)

-- a method of the connection class from which on a secret is valid
abbrev renews_by : AnyMethod → ConnectionState → Phase → Talk → Bool
renews_by OpenOk s p t = awaits_open_ok s p
renews_by UpdateSecretOk s p t = is_connected s && is_refresh (awaited_promise 0 SecretDone t.outbox)
renews_by m s p t = false

renews-method : (m : AnyMethod) (t : Talk) → renews_by m t.state t.phase t ≡ renews (Method 0 m) t
renews-method OpenOk t = refl
renews-method UpdateSecretOk t = refl
renews-method _ t = refl

secret-taken : (o : Option (Option ℕ)) (t : Talk) → IsSecretBy (is_refresh o) t (secret_taken o t)
secret-taken None t = lose-secret (InvalidConnectionState Connected) t
secret-taken (Some None) t = refl
secret-taken (Some (Some number)) t = refl

connection-closed-secret : (o : Option (Option ℕ)) (t : Talk) → IsSameSecret t (connection_closed o t)
connection-closed-secret None t = refl
connection-closed-secret (Some promise) t = refl

started-secret : (mechanism : List ℕ) (said : Result (List ℕ) (List ℕ)) (t : Talk) → IsSameSecret t (started mechanism said t)
started-secret mechanism (Ok response) t = refl
started-secret mechanism (Err text) t = refl

challenged-secret : (said : Result (List ℕ) (List ℕ)) (t : Talk) → IsSameSecret t (challenged said t)
challenged-secret (Ok response) t = refl
challenged-secret (Err text) t = refl

connection-secret : (s : ConnectionState) (p : Phase) (m : AnyMethod) (answers : List Asked) (t : Talk) → IsSecretBy (renews_by m s p t) t (connection_rule s p m answers t)
connection-secret s p (Close code text class method) answers t = refl
connection-secret s p (Blocked reason) answers t = refl
connection-secret s p Unblocked answers t = refl
connection-secret Closing p CloseOk answers t = connection-closed-secret (awaited_promise 0 ConnectionClosed t.outbox) t
connection-secret Closing p m answers t = refl
connection-secret Connecting AwaitStart (Start a b c d e) answers t = start-case (IsSameSecret t) answers t refl (λ mechanism said. started-secret mechanism said t)
connection-secret Connecting AwaitTune (Secure challenge) answers t = secure-case (IsSameSecret t) answers t refl (λ said. challenged-secret said t)
connection-secret Connecting AwaitTune (Tune a b c) answers t = refl
connection-secret Connecting AwaitOpenOk OpenOk answers t = reopened-keeps (λ (x : Talk). x.secret_at) (λ x q cs. refl) t.channels (connected t)
connection-secret Connected p UpdateSecretOk answers t = secret-taken (awaited_promise 0 SecretDone t.outbox) t
connection-secret held p m answers t = lose-secret (InvalidConnectionState held) t

then-lost : (t : Talk) (e : ErrorKind) (u : Talk) → IsSameSecret t u → IsSameSecret t (lose e u)
then-lost t e u h = lose-secret e u ∙ h

on-channels : (t : Talk) → ChannelRows (IsSameSecret t)
on-channels t = record {
  lost = then-lost t;
  opened = λ n c promise u is h. h;
  closed = λ n promise u is h. h;
  answered = λ n c u h. h;
  removed = λ n u h. h;
  flow = λ n c active u h. h;
  flowed = λ n c active promise u is h. h;
  server_closed = λ n e c u h. h;
  crossed = λ n e c u h. h;
}

misplaced-secret : (e : ErrorKind) (t : Talk) → IsSameSecret t (misplaced e t)
misplaced-secret e t = misplaced-keeps (IsSameSecret t) (then-lost t) e t refl

-- a method of the channel class makes no secret valid
channel-renews : (m : AnyMethod) (s : ConnectionState) (p : Phase) (t : Talk) → is_of_a_channel m ≡ true → renews_by m s p t ≡ false
channel-renews OpenOk s p t h = cc
channel-renews UpdateSecretOk s p t h = cc
channel-renews _ s p t h = refl

secret-same : (b : Bool) (t x : Talk) → b ≡ false → IsSameSecret t x → IsSecretBy b t x
secret-same b t x h same = same ∙ sym (if-false b t.present t.secret_at h)

method-secret : (n : ℕ) (m : AnyMethod) (answers : List Asked) (t : Talk) → IsSecretBy (renews (Method n m) t) t (method_rule n m answers t)
method-secret zero m answers t =
    let by : IsSecretBy (renews_by m t.state t.phase t) t (method_rule 0 m answers t) =
    if_by (IsSecretBy (renews_by m t.state t.phase t) t) (is_of_a_channel m) (misplaced (stray_channel_frame RawMethod) t) (connection_rule t.state t.phase m answers t)
    (λ h. secret-same (renews_by m t.state t.phase t) t (misplaced (stray_channel_frame RawMethod) t) (channel-renews m t.state t.phase t h) (misplaced-secret (stray_channel_frame RawMethod) t))
    (λ h. connection-secret t.state t.phase m answers t) in
    by ∙ ap (λ (b : Bool). if b then t.present else t.secret_at) (renews-method m t)
method-secret (suc n) m answers t = channel-method-keeps (IsSameSecret t) (on-channels t) (suc n) m t refl

rule-secret : (f : Frame) (answers : List Asked) (t : Talk) → IsSecretBy (renews f t) t (frame_rule f answers t)
rule-secret (ProtocolHeader version) answers t = refl
rule-secret Heartbeat answers t = refl
rule-secret (Method n m) answers t = method-secret n m answers t
rule-secret (Raw zero kind bytes) answers t = misplaced-secret (stray_channel_frame kind) t
rule-secret (Raw (suc n) kind bytes) answers t =
    raw-keeps (IsSameSecret t) (then-lost t) (record { confirms = λ m c u h. h; hands = λ opened x u h. h }) (suc n) kind bytes t refl

closed-rule-secret : (f : Frame) (t : Talk) → IsSameSecret t (closed_rule f t)
closed-rule-secret (Method zero (Blocked reason)) t = refl
closed-rule-secret (Method zero Unblocked) t = refl
closed-rule-secret f t = refl

frame-secret : (f : Frame) (answers : List Asked) (t : Talk) → IsSecretBy (acts t && renews f t) t (on_frame f answers t)
frame-secret f answers t = by (acts t)
  where
    by : (b : Bool) → IsSecretBy (b && renews f t) t (if b then frame_rule f answers t else if hears_on t then closed_rule f t else t)
    by true = rule-secret f answers t
    by false = if_case (IsSameSecret t) (hears_on t) (closed_rule f t) t (closed-rule-secret f t) refl

-- ---- ticks

-- what is due but the secret leaves what a secret goes by
beat-keeps : {A : Type 0} (f : Talk → A) (t : Talk) → ((e : ErrorKind) (x : Talk) → f (lose e x) ≡ f x) → ((x : Talk) → f (record (queue 0 Heartbeat x) { last_write = x.present }) ≡ f x) → f (beat t) ≡ f t
beat-keeps f t ends beats =
    let x : Talk = missing_heartbeat t in
    if_case (λ (y : Talk). f y ≡ f x) (is_heartbeat_due x) (record (queue 0 Heartbeat x) { last_write = x.present }) x (beats x) refl
    ∙ if_case (λ (y : Talk). f y ≡ f t) (is_missed t) (lose MissingHeartbeatError t) t (ends MissingHeartbeatError t) refl

refresh-secret : (time : Option ℕ) (later : List Asked) (t : Talk) → IsSameOrNew (refuses (answer.ValidFor time ∷ later)) t (refresh later t)
refresh-secret time (answer.Refreshed (Err text) ∷ more) t = inr (refl, refl)
refresh-secret time (answer.Refreshed (Ok secret) ∷ more) t = inl refl
refresh-secret time _ t = inl refl

told-secret : (answers : List Asked) (t : Talk) → IsSameOrNew (refuses answers) t (validity_told answers t)
told-secret (answer.ValidFor time ∷ later) t =
    if_case (IsSameOrNew (refuses (answer.ValidFor time ∷ later)) t) (has_expired time t) (refresh later t) t (refresh-secret time later t) (inl refl)
told-secret _ t = inl refl

tick-secret : (answers : List Asked) (t : Talk) → IsSameOrNew (refuses answers) t (tick answers t)
tick-secret answers t =
    let x : Talk = beat t in
    let secret : x.secret_at ≡ t.secret_at = beat-keeps (λ (y : Talk). y.secret_at) t lose-secret (λ y. refl) in
    let present : x.present ≡ t.present = beat-keeps (λ (y : Talk). y.present) t (loss-keeps (λ (y : Talk). y.present) (λ x s l cs ps b q ms n o ns. refl)) (λ y. refl) in
    elim (if_case (IsSameOrNew (refuses answers) x) (asks_validity x) (validity_told answers x) x (told-secret answers x) (inl refl)) [
      | inl same ↦ inl (same ∙ secret)
      | inr new ↦ inr (new.0, new.1 ∙ present)
    ]

-- ---- commands

command-secret : (c : Cmd) (t : Talk) → IsSameSecret t (command c t)
command-secret c t = (stays-command c t).secret_at

-- ---- what else happens

committed-secret : (o : Option Item) (t : Talk) → IsSameSecret t (committed_as o t)
committed-secret None t = refl
committed-secret (Some item) t = refl

overlong-secret : (o : Option ℕ) (t : Talk) → IsSameSecret t (end_overlong o t)
overlong-secret None t = refl
overlong-secret (Some size) t = refl

next-secret : (space : ℕ) (t : Talk) → IsSameSecret t (next_frame space t)
next-secret space t = overlong-secret (overlong t) (commit space t) ∙ committed-secret (next_within space t) t

misread-secret : (why : Misread) (t : Talk) → IsSameSecret t (misread why t)
misread-secret why t = misread-keeps (IsSameSecret t) (then-lost t) (λ u h. h) why t refl

linked-secret : (t : Talk) → IsSameSecret t (linked t)
linked-secret t = if_case (IsSameSecret t) (is_asked t) _ t refl refl

event-secret : (events at_end : List Event) (t : Talk) → IsSameSecret t (without_event events at_end t)
event-secret (event ∷ later) at_end t = refl
event-secret [] (event ∷ later) t = refl
event-secret [] [] t = refl

pub keeps-secret : (t : Talk) → KeepsSecret t
keeps-secret t = record {
  frame = λ f answers. frame-secret f answers t;
  tick = λ answers. tick-secret answers t;
  moment = λ at. present-keeps (λ (x : Talk). x.secret_at) at t (λ n. refl);
  asked = refl;
  linked = linked-secret t;
  link_failed = failed-keeps (λ (x : Talk). x.secret_at) (λ x s l cs ps ns. refl) (λ x n. refl) t;
  piece = if_case (IsSameSecret t) (is_open t) (record t { last_read = t.present }) t refl refl;
  misread = λ why. misread-secret why t;
  lost = λ fault. lost-keeps (λ (x : Talk). x.secret_at) (λ x s l cs ps b q ms n o ns. refl) fault t;
  next_frame = λ space. next-secret space t;
  taken = λ n. taken-keeps (λ (x : Talk). x.secret_at) (record { ends = λ x s l cs ps b q ms n o ns. refl; writes = λ x w ms. refl; moments = λ x n. refl }) n t;
  starve = if_case (IsSameSecret t) (has_ended t) t (fail NoMemory t) refl refl;
  command = λ cmd. command-secret cmd t;
  answer = λ number. if_case (IsSameSecret t) (is_some (answer_of number t)) _ t refl refl;
  event = event-secret t.noted.events (end_event t.noted.tells_end (end_of t)) t;
  frames = λ opened. refl;
}

-- ---- when a new secret is asked for

connected-idle : (s : ConnectionState) (b : Bool) → (is_connected s && not b) ≡ true → (s ≡ Connected) × (b ≡ false)
connected-idle Connected false h = (refl, refl)
connected-idle Connected true h = cc
connected-idle _ b h = cc

-- an open connection was open before what is due but the secret
beat-connected : (t : Talk) → (beat t).state ≡ Connected → t.state ≡ Connected
beat-connected t h =
    let x : Talk = missing_heartbeat t in
    let due : (beat t).state ≡ x.state = if_case (λ (y : Talk). y.state ≡ x.state) (is_heartbeat_due x) (record (queue 0 Heartbeat x) { last_write = x.present }) x refl refl in
    if_case (λ (y : Talk). y.state ≡ Connected → t.state ≡ Connected) (is_missed t) (lose MissingHeartbeatError t) t (lose-case (λ (y : Talk). y.state ≡ Connected → t.state ≡ Connected) MissingHeartbeatError t (λ delay on. cc) (λ over. cc)) (λ same. same) (sym due ∙ h)

-- each question for a new secret is one where the secret has expired
abbrev AsksWhenExpired : List Asked → Talk → Question → Type 0
AsksWhenExpired answers t asked = asked ≡ question.Refresh → HasExpired answers t

expired-by : (answers : List Asked) (x : Talk) → asks_validity x ≡ true → All (AsksWhenExpired answers x) (refresh_questions answers x)
expired-by (answer.ValidFor (Some time) ∷ later) x asks =
    let P : Question → Type 0 = AsksWhenExpired (answer.ValidFor (Some time) ∷ later) x in
    let idle = connected-idle x.state x.refreshing asks in
    if_by (All P) (nat_le time (x.present - x.secret_at)) (question.Refresh ∷ []) []
    (λ gone. All-cons P question.Refresh []
    (λ is. record { opened = idle.0; idle = idle.1; time = time; later = later; told = refl; gone = grind (arith, nat_tests) }) (All-nil P))
    (λ valid. All-nil P)
expired-by (answer.ValidFor None ∷ later) x asks = All-nil _
expired-by _ x asks = All-nil _

asks-by : (answers : List Asked) (x : Talk) → All (AsksWhenExpired answers x) (secret_questions answers x)
asks-by answers x =
    let P : Question → Type 0 = AsksWhenExpired answers x in
    if_by (All P) (asks_validity x) (question.ValidFor ∷ refresh_questions answers x) []
    (λ asks. All-cons P question.ValidFor (refresh_questions answers x) (λ is. absurd (other is)) (expired-by answers x asks))
    (λ idle. All-nil P)
  where
    other : question.ValidFor ≡ question.Refresh → ⊥
    other is = cc

pub asks-expired : (answers : List Asked) (t : Talk) → Contains (tick_questions answers t) question.Refresh → HasExpired answers t
asks-expired answers t h =
    let x : Talk = beat t in
    let e : HasExpired answers x = All-contains (AsksWhenExpired answers x) (tick_questions answers t) question.Refresh (asks-by answers x) h refl in
    let secret : x.secret_at ≡ t.secret_at = beat-keeps (λ (y : Talk). y.secret_at) t lose-secret (λ y. refl) in
    let present : x.present ≡ t.present = beat-keeps (λ (y : Talk). y.present) t (loss-keeps (λ (y : Talk). y.present) (λ x s l cs ps b q ms n o ns. refl)) (λ y. refl) in
    let refreshing : x.refreshing ≡ t.refreshing = beat-keeps (λ (y : Talk). y.refreshing) t (loss-keeps (λ (y : Talk). y.refreshing) (λ x s l cs ps b q ms n o ns. refl)) (λ y. refl) in
    record {
      opened = beat-connected t e.opened;
      idle = sym refreshing ∙ e.idle;
      time = e.time;
      later = e.later;
      told = e.told;
      gone = omega (arith, e.gone, secret, present);
    }
