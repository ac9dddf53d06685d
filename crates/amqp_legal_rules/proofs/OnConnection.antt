-- Each frame of the connection keeps a session tied to what was said.
use Rattle.std.proofs.Common.{◌≡◌, ◌≢◌, ◌≤◌, ℕ, nat_le, true, List, [], ◌∷◌, Option, Some, None, Result, Ok, Err, refl, ap, sym, ◌∙◌, subst, true≢false, arith}
use Rattle.std.specs.List.{AllByRecursion}
use Rattle.amqp_frame.specs.declared.frame.Frame.{Frame}
use Rattle.amqp_frame.specs.declared.method.Method.{Method as AnyMethod}
use Rattle.amqp_frame.specs.declared.method.Method.TheVariants.{Start, Secure, Tune, OpenOk, Close, CloseOk, Blocked, Unblocked, UpdateSecretOk}
use Rattle.amqp_outbox.specs.declared.item.Item.{Item}
use Rattle.amqp_outbox.specs.declared.reply.Reply.TheVariants.{ChannelOpened, SecretDone, ConnectionClosed}
use Rattle.amqp_outbox.specs.Items.{plain_item}
use Rattle.amqp_outbox.specs.Queued.{Queued, pushed_control, awaited_promise}
use Rattle.amqp_settings.specs.declared.configuration.Configuration.{Configuration}
use Rattle.amqp_promise.specs.declared.state.ConnectionState.{ConnectionState}
use Rattle.amqp_promise.specs.declared.state.ConnectionState.TheVariants.{Connecting, Connected, Closing}
use Rattle.amqp_rules.specs.declared.state.Phase.{Phase}
use Rattle.amqp_rules.specs.declared.state.Phase.TheVariants.{AwaitStart, AwaitTune, AwaitOpenOk}
use Rattle.amqp_rules.specs.declared.state.Input.TheVariants as input
use Rattle.amqp_promise.specs.declared.error.ErrorKind.TheVariants.{InvalidConnectionState, AuthProviderError}
use Rattle.amqp_auth.specs.declared.asked.Asked.{Asked as ProviderAnswer}
use Rattle.amqp_rules.specs.Talk.{Talk, has_ended, is_open}
use Rattle.amqp_rules.specs.Changes.{queue, await}
use Rattle.amqp_settings.specs.Capacities.{frame_min_size}
use Rattle.amqp_settings.specs.Negotiation.{tune}
use Rattle.amqp_settings.specs.Handshake.{start_ok, secure_ok, tune_ok, open_vhost, close_ok, channel_open}
use Rattle.amqp_rules.specs.ConnectionMethods.{connection_rule, on_connection_close, started, challenged, on_tune, connected, reopen_each, on_open_ok, on_connection_close_ok, connection_closed, secret_taken}
use Rattle.amqp_rules.specs.ChannelMethods.{remove_channel}
use Rattle.amqp_legal.specs.Decider.{Speech, now_on, greeted, say}
use Rattle.amqp_legal.specs.declared.progress.Stage.{Stage}
use Rattle.amqp_legal.specs.declared.progress.Stage.TheVariants.{HeaderSaid, StartOkSaid, TuneOkSaid, OpenSaid, CloseSaid, CloseOkSaid}
use Rattle.amqp_legal.specs.declared.progress.Usage.TheVariants.{InUse}
use Rattle.amqp_rules.proofs.Heard.{start-case, secure-case}
use Rattle.amqp_types.proofs.Small.{if_case}
use Rattle.amqp_legal.proofs.Sayable.{IsComplete}
use Rattle.amqp_legal_rules.proofs.Ties.{LeadsTo, first_out, IsReady, IsOfControl, unpaid, TiesPhase, TiesActing}
use Rattle.amqp_legal_rules.proofs.Ready.{open-ready, never-ready}
use Rattle.amqp_legal_rules.proofs.Paying.{none-more}
use Rattle.amqp_legal_rules.proofs.OnChannels.{Listed, Replies, on-answered-untied}
use Rattle.amqp_legal_rules.proofs.KeptChannels.{Reopening, none-reopened, all-reopened, on-reopened, on-passed, reopening-due}
use Rattle.amqp_legal_rules.proofs.Conversing.{Now, pushed, closed-over, now-ended, now-lose, now-open, tied-as, In, still-new, due_in, now-ties, ties-phase}
use Rattle.amqp_channels.proofs.Walking.{all-append}

not-over-phase : (p : Phase) (v : Speech) → TiesPhase p v → v.stage ≢ CloseOkSaid
not-over-phase AwaitStart v h over = none (sym (ap (λ (x : Speech). x.stage) h) ∙ over) where
  none : HeaderSaid ≡ CloseOkSaid → ⊥
  none h = cc
not-over-phase AwaitTune v h over = none (sym (ap (λ (x : Speech). x.stage) h) ∙ over) where
  none : StartOkSaid ≡ CloseOkSaid → ⊥
  none h = cc
not-over-phase AwaitOpenOk v h over = none (sym (ap (λ (x : Speech). x.stage) h) ∙ over) where
  none : OpenSaid ≡ CloseOkSaid → ⊥
  none h = cc

not-over : (s : ConnectionState) (p : Phase) (cs : Listed) (ws : Replies) (due : ℕ → ℕ) (v : Speech) → TiesActing s p cs ws due v → v.stage ≢ CloseOkSaid
not-over Connecting p cs ws due v h over = not-over-phase p v h.0 over
not-over Connected p cs ws due v h over = none (sym h.speaking ∙ over) where
  none : OpenSaid ≡ CloseOkSaid → ⊥
  none h = cc
not-over Closing p cs ws due v h over = none (sym h ∙ over) where
  none : CloseSaid ≡ CloseOkSaid → ⊥
  none h = cc
not-over _ p cs ws due v h over = h

-- a session with an open link on which something was committed, and whose frames act
pub record Hears (s : ConnectionState) (t : Talk) (fs : List Frame) : Type 0 where
  pub opened : is_open t ≡ true
  pub acting : t.input ≡ input.Acting
  pub state : t.state ≡ s
  pub now : Now t fs
  pub tied : In s t.phase t fs

-- our close-ok is the last that is said
now-server-close : (s : ConnectionState) (p : Phase) (t : Talk) (g : Frame) (fs : List Frame) (code : ℕ) (text : List ℕ)
    → is_open t ≡ true → In s p t (g ∷ fs) → Now (on_connection_close code text t) (g ∷ fs)
now-server-close s p t g fs code text o h =
    let r = closed-over (first_out t.outbox) (plain_item 0 close_ok) g fs h.later refl h.leads (not-over s p t.channels t.outbox.awaited (unpaid t.committed (first_out t.outbox)) h.later h.ties) in
    now-open (on_connection_close code text t) (g ∷ fs) o
    (record { later = r.0; leads = r.1; lane = ((tt, refl), tt); groups = tt; ties = tt; agreed = λ k. absurd (true≢false (sym k)); listed = h.listed; room = h.room })

-- before the connection is opened, no group waits
not-opened : (v : Speech) (g : Stage) → v ≡ record greeted { stage = g } → g ≢ OpenSaid → v.stage ≢ OpenSaid
not-opened v g is ne h = ne (sym (ap (λ (x : Speech). x.stage) is) ∙ h)

now-started : (mechanism : List ℕ) (reply : Result (List ℕ) (List ℕ)) (t : Talk) (fs : List Frame) → is_open t ≡ true → t.input ≡ input.Acting → t.state ≡ Connecting
    → Now t fs → In Connecting AwaitStart t fs → Now (started mechanism reply t) fs
now-started mechanism (Err text) t fs o hi hs now h = now-lose (AuthProviderError text) t fs now
now-started mechanism (Ok response) t fs o hi hs now h =
    let f : Frame = start_ok t.config.options mechanism response in
    let v : Speech = record greeted { stage = StartOkSaid } in
    let said : say f h.later ≡ Some v = ap (say f) h.ties.0 in
    let x : Talk = started mechanism (Ok response) t in
    now-open x fs o
    (tied-as Connecting AwaitTune input.Acting x fs hs refl hi
    (record {
      later = v;
      leads = pushed t.outbox (plain_item 0 f) fs h.later v h.leads said;
      lane = all-append IsOfControl t.outbox.control (plain_item 0 f ∷ []) h.lane ((tt, refl), tt);
      groups = never-ready h.later v t.outbox.publish (not-opened h.later HeaderSaid h.ties.0 (λ k. cc)) h.groups;
      ties = (refl, still-new t.channels t.outbox.awaited (unpaid t.committed (first_out t.outbox)) _ (none-more t.committed t.outbox (plain_item 0 f) tt) h.ties.1);
      agreed = λ k. absurd (true≢false (sym k));
      listed = h.listed;
      room = h.room;
    }))

-- an answer to a challenge may be said as often as the server challenges
now-challenged : (reply : Result (List ℕ) (List ℕ)) (t : Talk) (fs : List Frame) → is_open t ≡ true → t.input ≡ input.Acting → t.state ≡ Connecting → t.phase ≡ AwaitTune
    → Now t fs → In Connecting AwaitTune t fs → Now (challenged reply t) fs
now-challenged (Err text) t fs o hi hs hp now h = now-lose (AuthProviderError text) t fs now
now-challenged (Ok response) t fs o hi hs hp now h =
    let f : Frame = secure_ok response in
    let v : Speech = record greeted { stage = StartOkSaid } in
    let said : say f h.later ≡ Some v = ap (say f) h.ties.0 in
    let x : Talk = challenged (Ok response) t in
    now-open x fs o
    (tied-as Connecting AwaitTune input.Acting x fs hs hp hi
    (record {
      later = v;
      leads = pushed t.outbox (plain_item 0 f) fs h.later v h.leads said;
      lane = all-append IsOfControl t.outbox.control (plain_item 0 f ∷ []) h.lane ((tt, refl), tt);
      groups = never-ready h.later v t.outbox.publish (not-opened h.later StartOkSaid h.ties.0 (λ k. cc)) h.groups;
      ties = (refl, still-new t.channels t.outbox.awaited (unpaid t.committed (first_out t.outbox)) _ (none-more t.committed t.outbox (plain_item 0 f) tt) h.ties.1);
      agreed = λ k. absurd (true≢false (sym k));
      listed = h.listed;
      room = h.room;
    }))

now-tune : (server : Configuration) (t : Talk) (fs : List Frame) → is_open t ≡ true → t.input ≡ input.Acting → t.state ≡ Connecting → In Connecting AwaitTune t fs
    → Now (on_tune server t) fs
now-tune server t fs o hi hs h =
    let f = tune_ok (tune t.configuration server) in
    let tuned : Speech = record greeted { stage = TuneOkSaid } in
    let first : say f h.later ≡ Some tuned = ap (say f) h.ties.0 in
    let r = pushed t.outbox (plain_item 0 f) fs h.later tuned h.leads first in
    let q : Queued = pushed_control (plain_item 0 f) t.outbox in
    let v : Speech = record greeted { stage = OpenSaid } in
    let x : Talk = on_tune server t in
    now-open x fs o
    (tied-as Connecting AwaitOpenOk input.Acting x fs hs refl hi
    (record {
      later = v;
      leads = pushed q (plain_item 0 (open_vhost t.config.uri.vhost)) fs tuned v r refl;
      lane =
          all-append IsOfControl q.control (plain_item 0 (open_vhost t.config.uri.vhost) ∷ [])
          (all-append IsOfControl t.outbox.control (plain_item 0 f ∷ []) h.lane ((tt, refl), tt)) ((tt, refl), tt);
      groups = never-ready h.later v t.outbox.publish (not-opened h.later StartOkSaid h.ties.0 (λ k. cc)) h.groups;
      ties = (
        refl,
        still-new t.channels t.outbox.awaited (unpaid t.committed (first_out t.outbox)) _
            (λ n. none-more t.committed q (plain_item 0 (open_vhost t.config.uri.vhost)) tt n ∙ none-more t.committed t.outbox (plain_item 0 f) tt n) h.ties.1,
      );
      agreed = λ k. tuned-size t.configuration server;
      listed = h.listed;
      room = h.room;
    }))
  where
    tuned-size : (own server : Configuration) → frame_min_size ≤ (tune own server).frame_max
    tuned-size own server = omega arith

-- channels that were kept are opened again
now-reopened : (pending : Listed) (t : Talk) (fs : List Frame) (v : Speech) → is_open t ≡ true → t.input ≡ input.Acting → t.state ≡ Connected
    → frame_min_size ≤ t.configuration.frame_max → 8 ≤ t.capacity → LeadsTo (first_out t.outbox) fs v → AllByRecursion IsOfControl t.outbox.control
    → AllByRecursion (IsReady v) t.outbox.publish → Reopening pending t.channels t.outbox.awaited (due_in t) v → Now (reopen_each pending t) fs
now-reopened [] t fs v o hi hs agreed room r lane ready ties =
    now-ties t t fs v o hi refl hs agreed room r lane ready (all-reopened t.channels t.outbox.awaited (due_in t) v ties)
now-reopened (e ∷ pending) t fs v o hi hs agreed room r lane ready ties =
    let n : ℕ = e.0 in
    let item : Item = plain_item n (channel_open n) in
    let x : Talk = await n ChannelOpened None (queue n (channel_open n) t) in
    let y : Talk = remove_channel n t in
    let k = on-reopened n e.1 pending t.channels t.outbox.awaited (due_in t) v ties in
    if_case (λ (z : Talk). Now (reopen_each pending z) fs) (nat_le n t.configuration.channel_max) x y
    (now-reopened pending x fs (now_on n InUse v) o hi hs agreed room (pushed t.outbox item fs v (now_on n InUse v) r k.may)
    (all-append IsOfControl t.outbox.control (item ∷ []) lane ((tt, refl), tt)) (open-ready n v t.outbox.publish ties.speaking ready)
    (reopening-due pending x.channels x.outbox.awaited (due_in t) (due_in x) (now_on n InUse v) (none-more t.committed t.outbox item tt) k.ties))
    (now-reopened pending y fs v o hi hs agreed room r lane ready (on-passed n e.1 pending t.channels t.outbox.awaited (due_in t) v ties))

now-open-ok : (t : Talk) (fs : List Frame) → is_open t ≡ true → t.input ≡ input.Acting → In Connecting AwaitOpenOk t fs → Now (on_open_ok t) fs
now-open-ok t fs o hi h =
    let v : Speech = h.later in
    let x : Talk = connected t in
    let whole : IsComplete v.content = (let Q : Speech → Type 0 = λ y. IsComplete y.content in subst Q (sym h.ties.0) tt) in
    let none : Reopening t.channels t.channels [] (due_in t) v =
    none-reopened t.channels (due_in t) v (ap (λ (y : Speech). y.stage) h.ties.0) whole (λ n used. ties-phase AwaitOpenOk n v used h.ties.0)
    h.listed h.ties.1.kept h.ties.1.none_due in
    let Q : Replies → Type 0 = λ ws. Reopening t.channels t.channels ws (due_in t) v in
    now-reopened t.channels x fs v o hi refl (h.agreed refl) (omega (arith, h.room)) h.leads h.lane h.groups (subst Q (sym h.ties.1.none_awaited) none)

close-ok-ends : (a : Option (Option ℕ)) (t : Talk) → has_ended (connection_closed a t) ≡ true
close-ok-ends None t = refl
close-ok-ends (Some promise) t = refl

-- update-secret-ok came
now-secret-taken : (promise : Option (Option ℕ)) (p : Phase) (t : Talk) (fs : List Frame) → is_open t ≡ true → t.input ≡ input.Acting → t.state ≡ Connected
    → Now t fs → In Connected p t fs → Now (secret_taken promise t) fs
now-secret-taken None p t fs o hi hs now h = now-lose (InvalidConnectionState Connected) t fs now
now-secret-taken (Some None) p t fs o hi hs now h =
    let x : Talk = secret_taken (Some None) t in
    now-ties t x fs h.later o hi refl hs (h.agreed refl) h.room h.leads h.lane h.groups
    (on-answered-untied 0 SecretDone t.channels t.outbox.awaited (due_in t) h.later refl h.ties)
now-secret-taken (Some (Some number)) p t fs o hi hs now h =
    let x : Talk = secret_taken (Some (Some number)) t in
    now-ties t x fs h.later o hi refl hs (h.agreed refl) h.room h.leads h.lane h.groups
    (on-answered-untied 0 SecretDone t.channels t.outbox.awaited (due_in t) h.later refl h.ties)

pub now-connection : (s : ConnectionState) (p : Phase) (m : AnyMethod) (answers : List ProviderAnswer) (t : Talk) (g : Frame) (fs : List Frame) → is_open t ≡ true → t.input ≡ input.Acting → t.state ≡ s → t.phase ≡ p
    → Now t (g ∷ fs) → In s p t (g ∷ fs) → Now (connection_rule s p m answers t) (g ∷ fs)
now-connection s p (Close code text class method) answers t g fs o hi hs hp now h = now-server-close s p t g fs code text o h
now-connection s p (Blocked reason) answers t g fs o hi hs hp now h = now
now-connection s p Unblocked answers t g fs o hi hs hp now h = now
now-connection Closing p CloseOk answers t g fs o hi hs hp now h = now-ended (on_connection_close_ok t) (g ∷ fs) (close-ok-ends (awaited_promise 0 ConnectionClosed t.outbox) t)
now-connection Closing p m answers t g fs o hi hs hp now h = now
now-connection Connecting AwaitStart (Start a b c d e) answers t g fs o hi hs hp now h =
    start-case (λ (x : Talk). Now x (g ∷ fs)) answers t now (λ mechanism said. now-started mechanism said t (g ∷ fs) o hi hs now h)
now-connection Connecting AwaitTune (Secure challenge) answers t g fs o hi hs hp now h =
    secure-case (λ (x : Talk). Now x (g ∷ fs)) answers t now (λ said. now-challenged said t (g ∷ fs) o hi hs hp now h)
now-connection Connecting AwaitTune (Tune a b c) answers t g fs o hi hs hp now h = now-tune (record { channel_max = a; frame_max = b; heartbeat = c }) t (g ∷ fs) o hi hs h
now-connection Connecting AwaitOpenOk OpenOk answers t g fs o hi hs hp now h = now-open-ok t (g ∷ fs) o hi h
now-connection Connected p UpdateSecretOk answers t g fs o hi hs hp now h = now-secret-taken (awaited_promise 0 SecretDone t.outbox) p t (g ∷ fs) o hi hs now h
now-connection held p m answers t g fs o hi hs hp now h = now-lose (InvalidConnectionState held) t (g ∷ fs) now
