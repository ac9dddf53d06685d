-- What the rules leave as it is.
use Rattle.std.proofs.Common.{◌≡◌, ◌⊎◌, inl, inr, ℕ, zero, suc, ◌+◌, ◌&&◌, not, nat_le, max, Bool, true, false, if◌then◌else◌, List, [], ◌∷◌, Option, Some, None, Result, Ok, Err, is_some, true≢false, refl, ap, sym, ◌∙◌, arith}
use Rattle.amqp_frame.specs.declared.frame.Frame.{Frame}
use Rattle.amqp_frame.specs.declared.frame.Frame.TheVariants.{ProtocolHeader, Method, Raw, Heartbeat}
use Rattle.amqp_frame.specs.declared.frame.RawKind.TheVariants.{RawMethod}
use Rattle.amqp_frame.specs.declared.method.Method.{Method as AnyMethod}
use Rattle.amqp_frame.specs.declared.method.Method.TheVariants.{Start, Secure, Tune, OpenOk, Close, CloseOk, Blocked, Unblocked, UpdateSecretOk}
use Rattle.amqp_outbox.specs.declared.reply.Reply.TheVariants.{SecretDone, ConnectionClosed}
use Rattle.amqp_outbox.specs.Queued.{Queued, awaited_promise, without_awaited}
use Rattle.amqp_channels.specs.declared.channels.Channel.{Channel}
use Rattle.amqp_outgoing.specs.declared.committed.Mark.{Mark}
use Rattle.amqp_promise.specs.declared.state.ConnectionState.{ConnectionState}
use Rattle.amqp_promise.specs.declared.state.ConnectionState.TheVariants.{Connecting, Connected, Closing}
use Rattle.amqp_rules.specs.declared.state.Phase.{Phase}
use Rattle.amqp_rules.specs.declared.state.Phase.TheVariants.{AwaitStart, AwaitTune, AwaitOpenOk}
use Rattle.amqp_rules.specs.declared.state.Link.{Link}
use Rattle.amqp_rules.specs.declared.state.Input.{Input}
use Rattle.amqp_settings.specs.declared.configuration.Configuration.{Configuration}
use Rattle.amqp_rules.specs.declared.state.Link.TheVariants.{Due, Wanted, Asked, Open, Ended}
use Rattle.amqp_promise.specs.declared.io_fault.IoFault.{IoFault}
use Rattle.amqp_violations.specs.declared.server_close.ServerClose.{ServerClose}
use Rattle.amqp_violations.specs.declared.server_close.ServerClose.TheVariants.{WithoutError, WithError}
use Rattle.amqp_violations.specs.declared.misread.Misread.{Misread}
use Rattle.amqp_commands.specs.declared.command.Cmd.{Cmd}
use Rattle.amqp_answers.specs.declared.answer.Answer.TheVariants.{Done}
use Rattle.amqp_promise.specs.declared.error.ErrorKind.{ErrorKind}
use Rattle.amqp_promise.specs.declared.error.ErrorKind.TheVariants.{InvalidProtocolVersion, InvalidConnectionState, AuthProviderError, ProtocolError, NoMemory, IOError, MissingHeartbeatError}
use Rattle.amqp_promise.specs.declared.io_fault.IoFault.TheVariants.{Refused}
use Rattle.amqp_auth.specs.declared.asked.Asked.{Asked as ProviderAnswer}
use Rattle.amqp_answers.specs.Events.{Noted}
use Rattle.amqp_answers.specs.declared.handed.Handed.{Handed}
use Rattle.amqp_settings.specs.Config.{Config}
use Rattle.amqp_rules.specs.Talk.{Talk, has_ended, hears_on, is_open, is_open_link, is_asked, is_asked_link, acts, end_of_link}
use Rattle.amqp_answers.specs.Settled.{Promises}
use Rattle.amqp_rules.specs.Changes.{present_at, queue, give_to, fail, lose, misplaced, close, finish, finish_by, starve}
use Rattle.amqp_rules.specs.Recovery.{next_delay, recovery_delay, reconnect}
use Rattle.amqp_rules.specs.Links.{lost, misread, refused_after, link_failed}
use Rattle.amqp_violations.specs.Violations.{stray_channel_frame}
use Rattle.amqp_rules.specs.ConnectionMethods.{connected, reopen, reopen_each, connection_rule, connection_closed, secret_taken, started, challenged}
use Rattle.amqp_rules.specs.Frames.{method_rule, frame_rule, closed_rule, on_frame}
use Rattle.amqp_frame.specs.Methods.{is_of_a_channel}
use Rattle.amqp_rules.specs.Commands.{command}
use Rattle.amqp_rules.specs.Ticks.{is_connected, beats, is_missed, is_heartbeat_due, missing_heartbeat, beat, asks_validity, refreshed, link_at, link_due, timed, tick}
use Rattle.amqp_rules.specs.Negotiation.{grown_capacity}
use Rattle.amqp_rules.specs.Parts.{is_opening_frame, capacity_after}
use Rattle.amqp_rules.proofs.Heard.{start-case, secure-case, secret-case}
use Rattle.amqp_rules.proofs.Walk as walk
use Rattle.amqp_rules.proofs.Walk.{ChannelRows, PassedRows, CommandRows, misplaced-keeps, misread-keeps, channel-method-keeps, raw-keeps, command-keeps}
use Rattle.amqp_types.proofs.Small.{if_case, if_by, if-true, if-false}
use Rattle.amqp_rules.proofs.Recovering.{lose-by, lose-keeps, recovers-open}

-- ---- the present

-- what does not look at the present stays
pub present-keeps : {A : Type 0} (f : Talk → A) (at : ℕ) (t : Talk) → ((n : ℕ) → f (record t { present = n }) ≡ f t) → f (present_at at t) ≡ f t
present-keeps f at t h = if_case (λ (x : Talk). f x ≡ f t) (has_ended t) t (record t { present = max t.present at }) refl (h (max t.present at))

present-again : (b : Bool) (at : ℕ) (t : Talk) → has_ended t ≡ b → present_at at (present_at at t) ≡ present_at at t
present-again true at t h = ap (present_at at) (if-true (has_ended t) t (record t { present = max t.present at }) h)
present-again false at t h =
    let x : Talk = record t { present = max t.present at } in
    let once : present_at at t ≡ x = if-false (has_ended t) t x h in
    let same : max (max t.present at) at ≡ max t.present at = omega arith in
    ap (present_at at) once ∙ if-false (has_ended t) x (record x { present = max x.present at }) h
    ∙ ap (λ (n : ℕ). record t { present = n }) same ∙ sym once

-- a moment comes once
pub present-twice : (at : ℕ) (t : Talk) → present_at at (present_at at t) ≡ present_at at t
present-twice at t = present-again (has_ended t) at t refl

-- ---- where memory was refused

starve-over : (b : Bool) (t : Talk) → has_ended t ≡ b → has_ended (starve t) ≡ true
starve-over true t h = ap has_ended (if-true (has_ended t) t (fail NoMemory t) h) ∙ h
starve-over false t h = ap has_ended (if-false (has_ended t) t (fail NoMemory t) h)

-- where memory is refused, the session ends
pub starve-ends : (t : Talk) → has_ended (starve t) ≡ true
starve-ends t = starve-over (has_ended t) t refl

-- memory that is refused twice was refused once
pub starve-twice : (at : ℕ) (t : Talk) → starve (present_at at (starve (present_at at t))) ≡ starve (present_at at t)
starve-twice at t =
    let x : Talk = starve (present_at at t) in
    let over : has_ended x ≡ true = starve-ends (present_at at t) in
    ap starve (if-true (has_ended x) x (record x { present = max x.present at }) over) ∙ if-true (has_ended x) x (fail NoMemory x) over

-- ---- what a rule keeps

-- no link is open or asked for, and what had ended still has
pub record IsOff (l l' : Link ErrorKind) : Type 0 where
  pub opened : is_open_link l' ≡ false
  pub asked : is_asked_link l' ≡ false
  pub ended : is_some (end_of_link l) ≡ true → is_some (end_of_link l') ≡ true

-- the link stays, or is off
abbrev pub LinkKept : Talk → Talk → Type 0
LinkKept t t' = (t'.link ≡ t.link) ⊎ IsOff t.link t'.link

ended-off : (l : Link ErrorKind) → is_some (end_of_link l) ≡ true → (is_open_link l ≡ false) × (is_asked_link l ≡ false)
ended-off (Ended r) h = (refl, refl)
ended-off _ h = cc

-- at the end it is
pub off-over : (t t' : Talk) → has_ended t' ≡ true → IsOff t.link t'.link
off-over t t' h = let off = ended-off t'.link h in record { opened = off.0; asked = off.1; ended = λ before. h }

-- where the session recovers, it had not ended, and no link is open or asked for
pub off-reconnect : (e : ErrorKind) (t : Talk) (delay : ℕ) → recovery_delay e t ≡ Some delay → IsOff t.link (reconnect e delay t).link
off-reconnect e t delay is =
    record { opened = refl; asked = refl; ended = λ over. absurd (true≢false (sym (recovers-open e t delay is) ∙ (ended-off t.link over).0)) }

-- a link that is lost is off
pub off-lost : (e : ErrorKind) (t : Talk) → IsOff t.link (lose e t).link
off-lost e t =
    lose-by (λ (x : Talk). IsOff t.link x.link) e t (off-reconnect e t) (λ none. off-over t (fail e t) refl)

pub link-then : (a b c : Talk) → LinkKept a b → LinkKept b c → LinkKept a c
link-then a b c (inl h) (inl k) = inl (k ∙ h)
link-then a b c (inr off) (inl k) =
    inr (record {
      opened = ap is_open_link k ∙ off.opened;
      asked = ap is_asked_link k ∙ off.asked;
      ended = λ h. ap (λ (l : Link ErrorKind). is_some (end_of_link l)) k ∙ off.ended h;
    })
link-then a b c (inl h) (inr off) =
    inr (record {
      opened = off.opened;
      asked = off.asked;
      ended = λ k. off.ended (ap (λ (l : Link ErrorKind). is_some (end_of_link l)) h ∙ k);
    })
link-then a b c (inr h) (inr off) = inr (record { opened = off.opened; asked = off.asked; ended = λ k. off.ended (h.ended k) })

-- what had ended still has
pub kept-ended : (t t' : Talk) → LinkKept t t' → has_ended t ≡ true → has_ended t' ≡ true
kept-ended t t' (inl same) h = ap (λ (l : Link ErrorKind). is_some (end_of_link l)) same ∙ h
kept-ended t t' (inr off) h = off.ended h

-- no link opens
pub kept-open : (t t' : Talk) → LinkKept t t' → is_open t' ≡ true → is_open t ≡ true
kept-open t t' (inl same) now = ap is_open_link (sym same) ∙ now
kept-open t t' (inr off) now = absurd (true≢false (sym now ∙ off.opened))

-- a rule that commits nothing where a link is open then, makes the capacity so much, and leaves the link as it is unless
-- it is off
pub record Keeps (octets : ℕ) (t t' : Talk) : Type 0 where
  pub committed : is_open t' ≡ true → t'.committed ≡ t.committed
  pub capacity : t'.capacity ≡ octets
  pub link : LinkKept t t'

pub keeps-none : (t : Talk) → Keeps t.capacity t t
keeps-none t = record { committed = λ now. refl; capacity = refl; link = inl refl }

-- where no link is open
keeps-off : (octets : ℕ) (t t' : Talk) → t'.capacity ≡ octets → IsOff t.link t'.link → Keeps octets t t'
keeps-off octets t t' same off = record { committed = λ now. absurd (true≢false (sym now ∙ off.opened)); capacity = same; link = inr off }

keeps-lose : (e : ErrorKind) (t : Talk) → Keeps t.capacity t (lose e t)
keeps-lose e t = keeps-off t.capacity t (lose e t) (lose-keeps (λ (x : Talk). x.capacity) e t (λ delay. refl) refl) (off-lost e t)

-- what a rule may change where it keeps all that
abbrev Held : Type 0
Held = Link ErrorKind × List Mark × ℕ

abbrev held_of : Talk → Held
held_of t = (t.link, t.committed, t.capacity)

-- a rule that leaves the link, the committed frames and the capacity as they are
keeps-same-held : (octets : ℕ) (t u v : Talk) → held_of v ≡ held_of u → Keeps octets t u → Keeps octets t v
keeps-same-held octets t u v same h =
    let link : v.link ≡ u.link = ap (λ (x : Held). x.0) same in
    record {
      committed = λ now. ap (λ (x : Held). x.1) same ∙ h.committed (ap is_open_link (sym link) ∙ now);
      capacity = ap (λ (x : Held). x.2) same ∙ h.capacity;
      link = link-then t u v h.link (inl link);
    }

-- a rule by which the link is lost
keeps-lost : (octets : ℕ) (t : Talk) (e : ErrorKind) (u : Talk) → Keeps octets t u → Keeps octets t (lose e u)
keeps-lost octets t e u h =
    record {
      committed = λ now. absurd (true≢false (sym now ∙ (off-lost e u).opened));
      capacity = lose-keeps (λ (x : Talk). x.capacity) e u (λ delay. refl) refl ∙ h.capacity;
      link = link-then t u (lose e u) h.link (inr (off-lost e u));
    }

keeps-close : (octets : ℕ) (t u : Talk) → Keeps octets t u → Keeps octets t (close u)
keeps-close octets t u k = keeps-off octets t (close u) k.capacity (off-over t (close u) refl)

-- ---- frames

keeps-connection-closed : (o : Option (Option ℕ)) (t : Talk) → Keeps t.capacity t (connection_closed o t)
keeps-connection-closed None t = keeps-close t.capacity t t (keeps-none t)
keeps-connection-closed (Some promise) t =
    keeps-close t.capacity t (give_to promise (Ok Done) (record t { outbox = without_awaited 0 ConnectionClosed t.outbox })) (keeps-same-held t.capacity t t _ refl (keeps-none t))

keeps-secret-taken : (o : Option (Option ℕ)) (t : Talk) → Keeps t.capacity t (secret_taken o t)
keeps-secret-taken None t = keeps-lose (InvalidConnectionState Connected) t
keeps-secret-taken (Some None) t = record { committed = λ now. refl; capacity = refl; link = inl refl }
keeps-secret-taken (Some (Some number)) t = record { committed = λ now. refl; capacity = refl; link = inl refl }

-- a channel that is opened again, or goes, commits nothing
pub keeps-reopened : (cs : List (ℕ × Channel)) (octets : ℕ) (t u : Talk) → Keeps octets t u → Keeps octets t (reopen_each cs u)
keeps-reopened [] octets t u k = k
keeps-reopened (c ∷ cs) octets t u k =
    keeps-reopened cs octets t (reopen c.0 u)
    (if_case (Keeps octets t) (nat_le c.0 u.configuration.channel_max) _ _
    (record { committed = k.committed; capacity = k.capacity; link = k.link })
    (record { committed = k.committed; capacity = k.capacity; link = k.link }))

-- and tells nothing
pub reopened-noted : (cs : List (ℕ × Channel)) (u : Talk) → (reopen_each cs u).noted ≡ u.noted
reopened-noted [] u = refl
reopened-noted (c ∷ cs) u =
    reopened-noted cs (reopen c.0 u)
    ∙ if_case (λ (x : Talk). x.noted ≡ u.noted) (nat_le c.0 u.configuration.channel_max) _ _ refl refl

keeps-started : (mechanism : List ℕ) (said : Result (List ℕ) (List ℕ)) (t : Talk) → Keeps t.capacity t (started mechanism said t)
keeps-started mechanism (Ok response) t = record { committed = λ now. refl; capacity = refl; link = inl refl }
keeps-started mechanism (Err text) t = keeps-lose (AuthProviderError text) t

keeps-challenged : (said : Result (List ℕ) (List ℕ)) (t : Talk) → Keeps t.capacity t (challenged said t)
keeps-challenged (Ok response) t = record { committed = λ now. refl; capacity = refl; link = inl refl }
keeps-challenged (Err text) t = keeps-lose (AuthProviderError text) t

-- the capacity once a method of the connection class was read: open-ok makes it greater
abbrev pub capacity_by : AnyMethod → ConnectionState → Phase → Talk → ℕ
capacity_by OpenOk Connecting AwaitOpenOk t = grown_capacity t
capacity_by _ s p t = t.capacity

keeps-connection : (s : ConnectionState) (p : Phase) (m : AnyMethod) (answers : List ProviderAnswer) (t : Talk) → Keeps (capacity_by m s p t) t (connection_rule s p m answers t)
keeps-connection s p (Close code text class method) answers t = record { committed = λ now. refl; capacity = refl; link = inl refl }
keeps-connection s p (Blocked reason) answers t = record { committed = λ now. refl; capacity = refl; link = inl refl }
keeps-connection s p Unblocked answers t = record { committed = λ now. refl; capacity = refl; link = inl refl }
keeps-connection Closing p CloseOk answers t = keeps-connection-closed (awaited_promise 0 ConnectionClosed t.outbox) t
keeps-connection Closing p m answers t = keeps-none t
keeps-connection Connecting AwaitStart (Start a b c d e) answers t = start-case (Keeps t.capacity t) answers t (keeps-none t) (λ mechanism said. keeps-started mechanism said t)
keeps-connection Connecting AwaitTune (Secure challenge) answers t = secure-case (Keeps t.capacity t) answers t (keeps-none t) (λ said. keeps-challenged said t)
keeps-connection Connecting AwaitTune (Tune a b c) answers t = record { committed = λ now. refl; capacity = refl; link = inl refl }
keeps-connection Connecting AwaitOpenOk OpenOk answers t =
    keeps-reopened t.channels (grown_capacity t) t (connected t) (record { committed = λ now. refl; capacity = refl; link = inl refl })
keeps-connection Connected p UpdateSecretOk answers t = keeps-secret-taken (awaited_promise 0 SecretDone t.outbox) t
keeps-connection held p m answers t = keeps-lose (InvalidConnectionState held) t

keeps-misplaced : (e : ErrorKind) (t : Talk) → Keeps t.capacity t (misplaced e t)
keeps-misplaced e t = misplaced-keeps (Keeps t.capacity t) (keeps-lost t.capacity t) e t (keeps-none t)

keeps-channels : (octets : ℕ) (t : Talk) → ChannelRows (Keeps octets t)
keeps-channels octets t = record {
  lost = keeps-lost octets t;
  opened = λ n c promise u is. keeps-same-held octets t u _ refl;
  closed = λ n promise u is. keeps-same-held octets t u _ refl;
  answered = λ n c u. keeps-same-held octets t u _ refl;
  removed = λ n u. keeps-same-held octets t u _ refl;
  flow = λ n c active u. keeps-same-held octets t u _ refl;
  flowed = λ n c active promise u is. keeps-same-held octets t u _ refl;
  server_closed = λ n e c u. keeps-same-held octets t u _ refl;
  crossed = λ n e c u. keeps-same-held octets t u _ refl;
}

keeps-passed : (octets : ℕ) (t : Talk) → PassedRows (Keeps octets t)
keeps-passed octets t = record { confirms = λ n c u. keeps-same-held octets t u _ refl; hands = λ opened h u. keeps-same-held octets t u _ refl }

-- a method of the channel class leaves the capacity as it is
channel-capacity : (m : AnyMethod) (s : ConnectionState) (p : Phase) (t : Talk) → is_of_a_channel m ≡ true → capacity_by m s p t ≡ t.capacity
channel-capacity OpenOk s p t h = cc
channel-capacity _ s p t h = refl

keeps-same : (m n : ℕ) (t x : Talk) → m ≡ n → Keeps n t x → Keeps m t x
keeps-same m n t x h k = record { committed = k.committed; capacity = k.capacity ∙ sym h; link = k.link }

-- the capacity once a frame was read that acts
abbrev pub acted_capacity : Frame → Talk → ℕ
acted_capacity (Method zero m) t = capacity_by m t.state t.phase t
acted_capacity f t = t.capacity

keeps-method : (n : ℕ) (m : AnyMethod) (answers : List ProviderAnswer) (t : Talk) → Keeps (acted_capacity (Method n m) t) t (method_rule n m answers t)
keeps-method zero m answers t =
    if_by (Keeps (capacity_by m t.state t.phase t) t) (is_of_a_channel m) (misplaced (stray_channel_frame RawMethod) t) (connection_rule t.state t.phase m answers t)
    (λ h. keeps-same _ t.capacity t _ (channel-capacity m t.state t.phase t h) (keeps-misplaced (stray_channel_frame RawMethod) t)) (λ h. keeps-connection t.state t.phase m answers t)
keeps-method (suc n) m answers t = channel-method-keeps (Keeps t.capacity t) (keeps-channels t.capacity t) (suc n) m t (keeps-none t)

keeps-rule : (f : Frame) (answers : List ProviderAnswer) (t : Talk) → Keeps (acted_capacity f t) t (frame_rule f answers t)
keeps-rule (ProtocolHeader version) answers t = keeps-lose (InvalidProtocolVersion version) t
keeps-rule Heartbeat answers t = keeps-none t
keeps-rule (Method n m) answers t = keeps-method n m answers t
keeps-rule (Raw zero kind bytes) answers t = keeps-misplaced (stray_channel_frame kind) t
keeps-rule (Raw (suc n) kind bytes) answers t =
    raw-keeps (Keeps t.capacity t) (keeps-lost t.capacity t) (keeps-passed t.capacity t) (suc n) kind bytes t (keeps-none t)

keeps-closed-rule : (f : Frame) (t : Talk) → Keeps t.capacity t (closed_rule f t)
keeps-closed-rule (Method zero (Blocked reason)) t = record { committed = λ now. refl; capacity = refl; link = inl refl }
keeps-closed-rule (Method zero Unblocked) t = record { committed = λ now. refl; capacity = refl; link = inl refl }
keeps-closed-rule f t = keeps-none t

-- it is greater exactly where the frame opens the connection
opened-capacity : (m : AnyMethod) (s : ConnectionState) (p : Phase) (t : Talk) → capacity_by m s p t ≡ (if is_opening_frame (Method 0 m) s p then grown_capacity t else t.capacity)
opened-capacity OpenOk Connecting AwaitOpenOk t = refl
opened-capacity _ s p t = refl

acting-capacity : (f : Frame) (t : Talk) → acted_capacity f t ≡ (if is_opening_frame f t.state t.phase then grown_capacity t else t.capacity)
acting-capacity (Method zero m) t = opened-capacity m t.state t.phase t
acting-capacity f t = refl

frame-capacity : (b : Bool) (f : Frame) (t : Talk) → acts t ≡ b → (if b then acted_capacity f t else t.capacity) ≡ capacity_after f t
frame-capacity true f t h =
    acting-capacity f t ∙ ap (λ c. if c && is_opening_frame f t.state t.phase then grown_capacity t else t.capacity) (sym h)
frame-capacity false f t h = ap (λ c. if c && is_opening_frame f t.state t.phase then grown_capacity t else t.capacity) (sym h)

pub keeps-frame : (f : Frame) (answers : List ProviderAnswer) (t : Talk) → Keeps (capacity_after f t) t (on_frame f answers t)
keeps-frame f answers t =
    if_by (Keeps (capacity_after f t) t) (acts t) (frame_rule f answers t) (if hears_on t then closed_rule f t else t)
    (λ acting. keeps-same _ (acted_capacity f t) t _ (sym (frame-capacity true f t acting)) (keeps-rule f answers t))
    (λ idle. keeps-same _ t.capacity t _ (sym (frame-capacity false f t idle))
    (if_case (Keeps t.capacity t) (hears_on t) (closed_rule f t) t (keeps-closed-rule f t) (keeps-none t)))

is-connected : (s : ConnectionState) → is_connected s ≡ true → s ≡ Connected
is-connected Connected h = refl
is-connected _ h = cc

-- heartbeats are exchanged only while the connection is open
pub beats-connected : (t : Talk) → is_heartbeat_due t ≡ true → t.state ≡ Connected
beats-connected t due = is-connected t.state (both-left (is_connected t.state) _ (both-left (beats t) _ due))
  where
    both-left : (a b : Bool) → (a && b) ≡ true → a ≡ true
    both-left true b h = refl
    both-left false b h = absurd cc

-- a secret is asked for only while the connection is open
pub asks-connected : (t : Talk) → asks_validity t ≡ true → t.state ≡ Connected
asks-connected t asks = by t.state asks
  where
    by : (s : ConnectionState) → (is_connected s && not t.refreshing) ≡ true → s ≡ Connected
    by Connected h = refl
    by _ h = cc

-- a link that is due is neither open nor asked for, before and then
due-link : (t : Talk) → LinkKept t (link_due t)
due-link t = by t.link refl
  where
    by : (l : Link ErrorKind) → t.link ≡ l → LinkKept t (link_due t)
    by (Due moment) is =
        let same : link_at t.present t.link ≡ (if nat_le moment t.present then Wanted else Due moment) = ap (link_at t.present) is in
        let off : (is_open (link_due t) ≡ false) × (is_asked (link_due t) ≡ false) = (
          ap is_open_link same ∙ if_case (λ (l : Link ErrorKind). is_open_link l ≡ false) (nat_le moment t.present) Wanted (Due moment) refl refl,
          ap is_asked_link same ∙ if_case (λ (l : Link ErrorKind). is_asked_link l ≡ false) (nat_le moment t.present) Wanted (Due moment) refl refl,
        ) in
        let going : has_ended t ≡ false = ap (λ (l : Link ErrorKind). is_some (end_of_link l)) is in
        inr (record { opened = off.0; asked = off.1; ended = λ h. absurd (true≢false (sym h ∙ going)) })
    by Wanted is = inl (ap (link_at t.present) is ∙ sym is)
    by Asked is = inl (ap (link_at t.present) is ∙ sym is)
    by Open is = inl (ap (link_at t.present) is ∙ sym is)
    by (Ended r) is = inl (ap (link_at t.present) is ∙ sym is)

-- time commits nothing
pub keeps-tick : (answers : List ProviderAnswer) (t : Talk) → Keeps t.capacity t (tick answers t)
keeps-tick answers t = walk.tick-keeps (Keeps t.capacity t) rows answers t (keeps-none t)
  where
    rows : walk.TickRows (Keeps t.capacity t)
    rows = record {
      lost = keeps-lost t.capacity t;
      beats = λ u. keeps-same-held t.capacity t u _ refl;
      refreshes = λ secret u. keeps-same-held t.capacity t u _ refl;
      retains = λ text u. keeps-same-held t.capacity t u _ refl;
      wants = λ u h. record {
        committed = λ now. h.committed (kept-open u (link_due u) (due-link u) now);
        capacity = h.capacity;
        link = link-then t u (link_due u) h.link (due-link u);
      };
    }

-- a frame that is read commits nothing, while the link stays open
pub frame-committed : (f : Frame) (answers : List ProviderAnswer) (at : ℕ) (t : Talk) → is_open (on_frame f answers (present_at at t)) ≡ true
    → (on_frame f answers (present_at at t)).committed ≡ t.committed
frame-committed f answers at t now = (keeps-frame f answers (present_at at t)).committed now ∙ present-keeps (λ x. x.committed) at t (λ n. refl)

pub keeps-misread : (why : Misread) (t : Talk) → Keeps t.capacity t (misread why t)
keeps-misread why t =
    misread-keeps (Keeps t.capacity t) (keeps-lost t.capacity t) (λ u. keeps-same-held t.capacity t u _ refl) why t (keeps-none t)

-- ---- commands

-- what the session is made from stays, the link and what is agreed, what is committed and what was handed out
pub record Stays (t t' : Talk) : Type 0 where
  pub config : t'.config ≡ t.config
  pub link : t'.link ≡ t.link
  pub committed : t'.committed ≡ t.committed
  pub configuration : t'.configuration ≡ t.configuration
  pub capacity : t'.capacity ≡ t.capacity
  pub input : t'.input ≡ t.input
  pub server_close : t'.server_close ≡ t.server_close
  pub handed : t'.handed ≡ t.handed
  pub secret_at : t'.secret_at ≡ t.secret_at

-- what a command leaves as it is
abbrev Staying : Type 0
Staying = Link ErrorKind × List Mark × Configuration × ℕ × Input × Option ServerClose × List (ℕ × List Handed) × ℕ × Config

abbrev staying : Talk → Staying
staying t = (t.link, t.committed, t.configuration, t.capacity, t.input, t.server_close, t.handed, t.secret_at, t.config)

told : (s : Staying) → CommandRows (λ (u : Talk). staying u ≡ s)
told s = record {
  refuses = λ e u h. h;
  promises = λ u h. h;
  opens = λ n u h. h;
  opens_none = λ first u h. h;
  leaves_channel = λ n code text c answers u h. h;
  sends = λ n m u h. h;
  publishes = λ n m properties body u h. h;
  flows = λ n active u h. h;
  tells_secret = λ secret reason u h. h;
  listens = λ u h. h;
}

pub stays-command : (c : Cmd) (t : Talk) → Stays t (command c t)
stays-command c t =
    let same : staying (command c t) ≡ staying t = command-keeps (λ (u : Talk). staying u ≡ staying t) (told (staying t)) (λ code text answers u h. h) c t refl in
    record {
      link = ap (λ (s : Staying). s.0) same;
      committed = ap (λ (s : Staying). s.1) same;
      configuration = ap (λ (s : Staying). s.2) same;
      capacity = ap (λ (s : Staying). s.3) same;
      input = ap (λ (s : Staying). s.4) same;
      server_close = ap (λ (s : Staying). s.5) same;
      handed = ap (λ (s : Staying). s.6) same;
      secret_at = ap (λ (s : Staying). s.7) same;
      config = ap (λ (s : Staying). s.8) same;
    }

-- ---- ends

-- what looks at none of what an end or an answer changes
abbrev pub OverlooksEnds : {A : Type 0} → (Talk → A) → Type 0
OverlooksEnds f =
    (t : Talk) (s : ConnectionState) (l : Link ErrorKind) (cs : List (ℕ × Channel)) (ps : Promises) (ns : Noted)
    → f (record t { state = s; link = l; channels = cs; promises = ps; noted = ns }) ≡ f t

-- the same, and at none of what changes where a link is lost and the session goes on
abbrev pub OverlooksLosses : {A : Type 0} → (Talk → A) → Type 0
OverlooksLosses f =
    (t : Talk) (s : ConnectionState) (l : Link ErrorKind) (cs : List (ℕ × Channel)) (ps : Promises)
    (b : Bool) (q : Queued) (ms : List Mark) (n : ℕ) (o : Option ServerClose) (ns : Noted)
    → f (record t {
      state = s;
      link = l;
      channels = cs;
      promises = ps;
      blocked = b;
      outbox = q;
      committed = ms;
      tried = n;
      server_close = o;
      noted = ns;
    }) ≡ f t

pub overlooks-ends : {A : Type 0} (f : Talk → A) → OverlooksLosses f → OverlooksEnds f
overlooks-ends f h t s l cs ps ns = h t s l cs ps t.blocked t.outbox t.committed t.tried t.server_close ns

-- a link that is lost leaves it as it was
pub loss-keeps : {A : Type 0} (f : Talk → A) → OverlooksLosses f → (e : ErrorKind) (t : Talk) → f (lose e t) ≡ f t
loss-keeps f h e t = lose-keeps f e t (λ delay. h t _ _ _ _ _ _ _ _ _ _) (overlooks-ends f h t _ _ _ _ _)

-- the same of what writing changes, and of a moment
pub record Overlooks {A : Type 0} (f : Talk → A) : Type 0 where
  pub ends : OverlooksLosses f
  pub writes : (t : Talk) (w : ℕ) (ms : List Mark) → f (record t { last_write = w; committed = ms }) ≡ f t
  pub moments : (t : Talk) (n : ℕ) → f (record t { present = n }) ≡ f t

-- what looks at none of what a tick changes beside an end: what waits, when was written, and what is known of the secret
abbrev pub OverlooksTicks : {A : Type 0} → (Talk → A) → Type 0
OverlooksTicks f =
    (t : Talk) (q : Queued) (n m : ℕ) (b : Bool) → f (record t { outbox = q; last_write = n; secret_at = m; refreshing = b }) ≡ f t

refreshed-keeps : {A : Type 0} (f : Talk → A) → OverlooksTicks f → (said : Result (List ℕ) (List ℕ)) (t : Talk) → f (refreshed said t) ≡ f t
refreshed-keeps f k (Ok secret) t = k t _ t.last_write t.secret_at true
refreshed-keeps f k (Err text) t = k t t.outbox t.last_write t.present t.refreshing

-- a tick leaves it as it was, where it overlooks all that
pub tick-keeps : {A : Type 0} (f : Talk → A) → OverlooksLosses f → OverlooksTicks f → (answers : List ProviderAnswer) (t : Talk) → f (tick answers t) ≡ f t
tick-keeps f h k answers t =
    let x : Talk = missing_heartbeat t in
    let y : Talk = timed answers t in
    overlooks-ends f h y y.state (link_at y.present y.link) y.channels y.promises y.noted
    ∙ secret-case (λ (y : Talk). f y ≡ f (beat t)) answers (beat t) refl (λ asks said. refreshed-keeps f k said (beat t))
    ∙ if_case (λ (y : Talk). f y ≡ f x) (is_heartbeat_due x) (record (queue 0 Heartbeat x) { last_write = x.present }) x (k x _ _ x.secret_at x.refreshing) refl
    ∙ if_case (λ (y : Talk). f y ≡ f t) (is_missed t) (lose MissingHeartbeatError t) t (loss-keeps f h MissingHeartbeatError t) refl

pub finish-keeps : {A : Type 0} (f : Talk → A) → OverlooksLosses f → (o : Option ServerClose) (t : Talk) → f (finish_by o t) ≡ f t
finish-keeps f h None t = overlooks-ends f h t _ _ _ _ _
finish-keeps f h (Some WithoutError) t = overlooks-ends f h t _ _ _ _ _
finish-keeps f h (Some (WithError e)) t = loss-keeps f h (ProtocolError e) t

-- a lost link leaves it as it was
pub lost-keeps : {A : Type 0} (f : Talk → A) → OverlooksLosses f → (fault : IoFault) (t : Talk) → f (lost fault t) ≡ f t
lost-keeps f h fault t =
    if_case (λ (x : Talk). f x ≡ f t) (acts t) (lose (IOError fault) t) (if is_open t then finish t else t)
    (loss-keeps f h (IOError fault) t)
    (if_case (λ (x : Talk). f x ≡ f t) (is_open t) (finish t) t (finish-keeps f h t.server_close t) refl)

-- after the server's close the link is off
pub off-finish : (o : Option ServerClose) (t : Talk) → IsOff t.link (finish_by o t).link
off-finish None t = off-over t (close t) refl
off-finish (Some WithoutError) t = off-over t (close t) refl
off-finish (Some (WithError e)) t = off-lost (ProtocolError e) t

-- a link that is lost is off, where there is one
pub lost-off : (fault : IoFault) (t : Talk) → (lost fault t ≡ t) ⊎ IsOff t.link (lost fault t).link
lost-off fault t =
    if_case (λ (x : Talk). (x ≡ t) ⊎ IsOff t.link x.link) (acts t) (lose (IOError fault) t) (if is_open t then finish t else t)
    (inr (off-lost (IOError fault) t))
    (if_case (λ (x : Talk). (x ≡ t) ⊎ IsOff t.link x.link) (is_open t) (finish t) t (inr (off-finish t.server_close t)) (inl refl))

-- a tick leaves the link, or ends the session
pub tick-stays : (answers : List ProviderAnswer) (t : Talk) → has_ended t ≡ true → has_ended (tick answers t) ≡ true
tick-stays answers t h = kept-ended t (tick answers t) (keeps-tick answers t).link h

pub lost-link : (fault : IoFault) (t : Talk) → LinkKept t (lost fault t)
lost-link fault t = elim (lost-off fault t) [ inl same ↦ inl (ap (λ (x : Talk). x.link) same) | inr off ↦ inr off ]

-- a refused link waits for its delay, or the session ends
refused-link : (delay : Option ℕ) (t : Talk) → is_asked t ≡ true → LinkKept t (refused_after delay t)
refused-link (Some delay) t h =
    inr (record { opened = refl; asked = refl; ended = λ over. absurd (true≢false (sym h ∙ (ended-off t.link over).1)) })
refused-link None t h = inr (off-over t (fail (IOError Refused) t) refl)

pub failed-link : (t : Talk) → LinkKept t (link_failed t)
failed-link t = if_by (LinkKept t) (is_asked t) (refused_after (next_delay t) t) t (λ h. refused-link (next_delay t) t h) (λ h. inl refl)

-- what does not look at what an end changes, and not at the delays, is the same once a link was refused
pub failed-keeps : {A : Type 0} (f : Talk → A) → OverlooksEnds f → ((t : Talk) (n : ℕ) → f (record t { tried = n }) ≡ f t) → (t : Talk) → f (link_failed t) ≡ f t
failed-keeps f h k t =
    if_case (λ (x : Talk). f x ≡ f t) (is_asked t) (refused_after (next_delay t) t) t (by (next_delay t)) refl
  where
    by : (delay : Option ℕ) → f (refused_after delay t) ≡ f t
    by (Some delay) = k (record t { link = _ }) (t.tried + 1) ∙ h t t.state _ t.channels t.promises t.noted
    by None = h t _ _ _ t.promises _
