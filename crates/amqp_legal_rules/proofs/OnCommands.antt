-- Each command and each tick keeps a session tied to what was said.
use Rattle.std.proofs.Common.{◌≡◌, ◌≢◌, ◌<◌, ◌≤◌, ◌^◌, ℕ, nat_le, Bool, true, false, List, [], ◌∷◌, length, Option, Some, None, Result, Ok, Err, refl, ap, sym, ◌∙◌, subst, true≢false, arith}
use Rattle.std.specs.Prelude.{codes}
use Rattle.std.proofs.lemmas.Nat.{from_be_bytes-to_be_bytes_2}
use Rattle.amqp_types.specs.declared.word.Word.{Word}
use Rattle.amqp_types.specs.declared.word.Word.TheVariants as word
use Rattle.amqp_frame.specs.declared.frame.Frame.{Frame}
use Rattle.amqp_frame.specs.declared.frame.Frame.TheVariants.{Heartbeat}
use Rattle.amqp_frame.specs.RawMethods.{OtherMethod, spell_raw_method}
use Rattle.amqp_outbox.specs.declared.item.Item.{Item}
use Rattle.amqp_outbox.specs.declared.reply.Reply.TheVariants.{FlowDone, SecretDone}
use Rattle.amqp_outbox.specs.Items.{plain_item, promised_item, group_of}
use Rattle.amqp_channels.specs.declared.channels.Channel.{Channel}
use Rattle.amqp_promise.specs.declared.state.ConnectionState.{ConnectionState}
use Rattle.amqp_promise.specs.declared.state.ConnectionState.TheVariants.{Connected, Closing}
use Rattle.amqp_promise.specs.declared.state.ChannelState.{ChannelState}
use Rattle.amqp_promise.specs.declared.state.ChannelState.TheVariants as channel
use Rattle.amqp_rules.specs.declared.state.Phase.{Phase}
use Rattle.amqp_rules.specs.declared.state.Link.{Link}
use Rattle.amqp_rules.specs.declared.state.Link.TheVariants.{Due, Wanted}
use Rattle.amqp_rules.specs.declared.state.Input.{Input}
use Rattle.amqp_rules.specs.declared.state.Input.TheVariants as input
use Rattle.amqp_commands.specs.declared.command.Cmd.{Cmd}
use Rattle.amqp_commands.specs.declared.command.Cmd.TheVariants.{OpenChannel, CloseChannel, CloseConnection, UpdateSecret, Send, Publish, Flow, DropChannel, DropConnection, Listen}
use Rattle.amqp_commands.specs.declared.command.ChanRef.{ChanRef}
use Rattle.amqp_promise.specs.declared.error.ErrorKind.{ErrorKind}
use Rattle.amqp_promise.specs.declared.error.ErrorKind.TheVariants.{MissingHeartbeatError}
use Rattle.amqp_auth.specs.declared.asked.Asked.{Asked as ProviderAnswer}
use Rattle.amqp_rules.specs.Talk.{Talk, is_open, is_open_link}
use Rattle.amqp_rules.specs.Changes.{next_promise, lose, queue}
use Rattle.amqp_settings.specs.Handshake.{our_close, new_secret, channel_open, channel_flow, our_channel_close, refresh_reason}
use Rattle.amqp_channels.specs.Channels.{made_closing}
use Rattle.amqp_rules.specs.Channels.{channel_at}
use Rattle.amqp_commands.specs.Publishing.{method_frame, publish_frames}
use Rattle.amqp_rules.specs.Commands.{command, command_rule, open_drawn, open_as, named, target, target_by, target_in, leave_channel, close_target, leave_connection, drop_target, flow_target, tell_flow, queue_secret, update_secret, too_long, unless_too_long, too_full, unless_full, queue_send, send, send_target, body_limit, queue_publish, publish, publish_target}
use Rattle.amqp_rules.specs.Ticks.{is_missed, is_heartbeat_due, missing_heartbeat, beat, refreshed, link_at, link_due, timed, tick}
use Rattle.amqp_channels.specs.Numbering.{first_number, drawn}
use Rattle.amqp_legal.specs.Octets.{class_in}
use Rattle.amqp_legal.specs.Legal.{IsPassedThrough}
use Rattle.amqp_legal.specs.Decider.{Speech, now_on}
use Rattle.amqp_legal.specs.declared.progress.Stage.TheVariants.{CloseSaid}
use Rattle.amqp_legal.specs.declared.progress.Usage.TheVariants.{InUse, Left}
use Rattle.amqp_legal.specs.declared.progress.Content.TheVariants.{NoContent, MethodSaid}
use Rattle.amqp_rules.proofs.Heard.{secret-case}
use Rattle.amqp_types.proofs.Small.{if_case, if_by}
use Rattle.amqp_rules.proofs.Keeping.{asks-connected, beats-connected}
use Rattle.amqp_rules.proofs.Lacking.{lacks_link}
use Rattle.amqp_rules.proofs.Ascending.{map_values-from}
use Rattle.amqp_legal.proofs.Sayable.{say-heartbeat, say-secret, say-our-close, say-flow}
use Rattle.amqp_legal_rules.proofs.Ties.{IsReady, IsOfControl, TiesChannels, Ties, Speaks, IsTied, Rests, IsSendable}
use Rattle.amqp_legal_rules.proofs.Ready.{stay-ready, open-ready, others-ready, publish-content, publish-ready, pieces-fit}
use Rattle.amqp_legal_rules.proofs.Paying.{none-more}
use Rattle.amqp_legal_rules.proofs.OnChannels.{Listed, Replies, on-alike, with-content, on-open, on-close, on-send, on-await-untied, listed-some, used-open}
use Rattle.amqp_legal_rules.proofs.Conversing.{Now, pushed, now-lose, now-open, speaks-as, tied-as, In, due_in, now-ties}
use Rattle.amqp_rules.proofs.SoundCommands.{named-listed}
use Rattle.amqp_channels.proofs.Walking.{all-append}
use Rattle.amqp_channels.proofs.Drawn.{drawn-free}

-- once the connection is open, frames act
talking : (i : Input) (p : Phase) (cs : Listed) (ws : Replies) (due : ℕ → ℕ) (v : Speech) → Ties i Connected p cs ws due v → (i ≡ input.Acting) × TiesChannels cs ws due v
talking input.Acting p cs ws due v h = (refl, h)
talking (input.Closed crossed) p cs ws due v h = absurd h
talking (input.Dropped crossed) p cs ws due v h = absurd h

-- what is told while the connection is open, and leaves the link as it is
now-told : (t t' : Talk) (fs : List Frame) → t.state ≡ Connected → t'.link ≡ t.link → Now t fs
    → (is_open t' ≡ true → t.input ≡ input.Acting → (h : In Connected t.phase t fs) → Now t' fs) → Now t' fs
now-told t t' fs hs link h next = (
  (λ o.
      let said : IsTied t fs = h.0 (ap is_open_link (sym link) ∙ o) in
      let s : Speaks Connected t.phase t.input t.configuration.frame_max t.capacity t.outbox t.channels t.committed fs =
      speaks-as t.state Connected t.phase t.phase t.input t.input t.configuration.frame_max t.capacity t.outbox t.channels t.committed fs hs refl refl said in
      let acting = (talking t.input t.phase t.channels t.outbox.awaited (due_in t) s.later s.ties).0 in
      (next o acting
      (speaks-as Connected Connected t.phase t.phase t.input input.Acting t.configuration.frame_max t.capacity t.outbox t.channels t.committed fs refl refl acting s)).0 o),
  λ w. absurd (let Q : ConnectionState → Type 0 = Rests in subst Q hs (h.1 (ap lacks_link (sym link) ∙ w)).rests),
)

-- what was said pays for no channel
now-due : (x : Talk) (due : ℕ → ℕ) (v : Speech) → ((m : ℕ) → due_in x m ≡ due m) → TiesChannels x.channels x.outbox.awaited due v
    → TiesChannels x.channels x.outbox.awaited (due_in x) v
now-due x due v same h = on-alike x.channels x.outbox.awaited x.outbox.awaited due (due_in x) v h.awaited_sorted (λ m. refl) same h

now-drawn : (o : Option ℕ) (t : Talk) (fs : List Frame) → t.state ≡ Connected → drawn t.configuration.channel_max (first_number t.configuration.channel_max t.cursor) t.channels ≡ o
    → Now t fs → Now (open_drawn o (first_number t.configuration.channel_max t.cursor) t) fs
now-drawn None t fs hs is h = h
now-drawn (Some n) t fs hs is h =
    let free = drawn-free t.configuration.channel_max t.cursor n t.channels is in
    let low : 1 ≤ n = free.0 in
    let some : n ≢ 0 = λ none. absurd (omega (arith, none, low)) in
    let item : Item = plain_item n (channel_open n) in
    now-told t (open_as n t) fs hs refl h
    (λ o hi s.
    let x : Talk = open_as n t in
    let k = on-open n t.channels t.outbox.awaited (due_in t) s.later (next_promise t) some free.2 s.ties in
    now-ties t x fs (now_on n InUse s.later) o hi refl hs (s.agreed refl) s.room
    (pushed t.outbox item fs s.later (now_on n InUse s.later) s.leads k.may)
    (all-append IsOfControl t.outbox.control (item ∷ []) s.lane ((tt, refl), tt))
    (open-ready n s.later t.outbox.publish s.ties.speaking s.groups)
    (now-due x (due_in t) (now_on n InUse s.later) (none-more t.committed t.outbox item tt) k.ties))

-- a heartbeat is to go out
now-heartbeat : (t : Talk) (fs : List Frame) → t.state ≡ Connected → Now t fs → Now (record (queue 0 Heartbeat t) { last_write = t.present }) fs
now-heartbeat t fs hs h =
    let item : Item = plain_item 0 Heartbeat in
    let x : Talk = record (queue 0 Heartbeat t) { last_write = t.present } in
    now-told t x fs hs refl h
    (λ o hi s.
    let v : Speech = s.later in
    let w : Speech = record v { content = NoContent } in
    now-ties t x fs w o hi refl hs (s.agreed refl) s.room
    (pushed t.outbox item fs v w s.leads (say-heartbeat v s.ties.speaking s.ties.complete))
    (all-append IsOfControl t.outbox.control (item ∷ []) s.lane ((tt, refl), tt))
    (stay-ready v w t.outbox.publish s.ties.speaking tt (λ m used. used) s.groups)
    (now-due x (due_in t) w (none-more t.committed t.outbox item tt)
    (with-content t.channels t.outbox.awaited (due_in t) v NoContent tt s.ties)))

-- a new secret is told, for which there is no promise
now-refreshed : (said : Result (List ℕ) (List ℕ)) (t : Talk) (fs : List Frame) → t.state ≡ Connected → Now t fs → Now (refreshed said t) fs
now-refreshed (Err text) t fs hs h = h
now-refreshed (Ok secret) t fs hs h =
    let f : Frame = new_secret secret refresh_reason in
    let item : Item = plain_item 0 f in
    let x : Talk = refreshed (Ok secret) t in
    now-told t x fs hs refl h
    (λ o hi s.
    let v : Speech = record s.later { content = NoContent } in
    now-ties t x fs v o hi refl hs (s.agreed refl) s.room
    (pushed t.outbox item fs s.later v s.leads (say-secret secret refresh_reason s.later s.ties.speaking s.ties.complete))
    (all-append IsOfControl t.outbox.control (item ∷ []) s.lane ((tt, refl), tt))
    (stay-ready s.later v t.outbox.publish s.ties.speaking tt (λ m used. used) s.groups)
    (now-due x (due_in t) v (none-more t.committed t.outbox item tt)
    (on-await-untied 0 SecretDone t.channels t.outbox.awaited (due_in t) v None refl
    (with-content t.channels t.outbox.awaited (due_in t) s.later NoContent tt s.ties))))

-- a link is due: none was open, and none is
now-due-link : (t : Talk) (fs : List Frame) → Now t fs → Now (link_due t) fs
now-due-link t fs h = ((λ o. h.0 (sym (opened t.link) ∙ o)), (λ w. h.1 (sym (lacking t.link) ∙ w)))
  where
    opened : (l : Link ErrorKind) → is_open_link (link_at t.present l) ≡ is_open_link l
    opened (Due moment) = if_case (λ (x : Link ErrorKind). is_open_link x ≡ false) (nat_le moment t.present) Wanted (Due moment) refl refl
    opened _ = refl

    lacking : (l : Link ErrorKind) → lacks_link (link_at t.present l) ≡ lacks_link l
    lacking (Due moment) = if_case (λ (x : Link ErrorKind). lacks_link x ≡ true) (nat_le moment t.present) Wanted (Due moment) refl refl
    lacking _ = refl

now-timed : (answers : List ProviderAnswer) (t : Talk) (fs : List Frame) → Now t fs → Now (timed answers t) fs
now-timed answers t fs h =
    let P : Talk → Type 0 = λ y. Now y fs in
    let x : Talk = missing_heartbeat t in
    let after : Now x fs = if_case P (is_missed t) (lose MissingHeartbeatError t) t (now-lose MissingHeartbeatError t fs h) h in
    let beaten : Now (beat t) fs =
    if_by P (is_heartbeat_due x) (record (queue 0 Heartbeat x) { last_write = x.present }) x (λ due. now-heartbeat x fs (beats-connected x due) after) (λ rest. after) in
    secret-case P answers (beat t) beaten (λ asks said. now-refreshed said (beat t) fs (asks-connected (beat t) asks) beaten)

pub now-tick : (answers : List ProviderAnswer) (t : Talk) (fs : List Frame) → Now t fs → Now (tick answers t) fs
now-tick answers t fs h = now-due-link (timed answers t) fs (now-timed answers t fs h)

-- the channel of which something may be told
pub record IsTarget (r : ChanRef) (t : Talk) (c : Channel) : Type 0 where
  pub listed : channel_at r.id t ≡ Some c
  pub open_state : c.state ≡ channel.Connected

target-state : (s : ChannelState) (word : Word) (x c : Channel) → x.state ≡ s → target_in s word x ≡ Ok c → (x ≡ c) × (x.state ≡ channel.Connected)
target-state channel.Connected word x c hs h = (cc, hs)
target-state channel.Initial word x c hs h = absurd cc
target-state channel.Closing word x c hs h = absurd cc
target-state _ word x c hs h = absurd cc

target-is : (r : ChanRef) (word : Word) (t : Talk) (o : Option Channel) (c : Channel) → named r t ≡ o → target_by o r.id word ≡ Ok c → IsTarget r t c
target-is r word t None c is h = absurd cc
target-is r word t (Some x) c is h =
    let k = target-state x.state word x c refl h in
    record { listed = named-listed r (channel_at r.id t) x is ∙ ap (λ y. Some y) k.0; open_state = ap (λ (y : Channel). y.state) (sym k.0) ∙ k.1 }

now-leave : (r : ChanRef) (c : Channel) (code : ℕ) (text : List ℕ) (answers : Option ℕ) (t : Talk) (fs : List Frame) → t.state ≡ Connected → IsTarget r t c → Now t fs
    → Now (leave_channel r.id code text c answers t) fs
now-leave r c code text answers t fs hs at h =
    let n : ℕ = r.id in
    let x : Talk = leave_channel n code text c answers t in
    let item : Item = plain_item n (our_channel_close n code text) in
    now-told t x fs hs refl h
    (λ o hi s.
    let k = on-close n t.channels t.outbox.awaited (due_in t) s.later c code text answers at.listed at.open_state s.ties in
    now-ties t x fs (now_on n Left s.later) o hi refl hs (s.agreed refl) s.room
    (pushed t.outbox item fs s.later (now_on n Left s.later) s.leads k.may)
    (all-append IsOfControl t.outbox.control (item ∷ []) s.lane ((tt, refl), tt))
    (others-ready n Left s.later t.outbox.publish s.ties.speaking s.groups)
    (now-due x (due_in t) (now_on n Left s.later) (none-more t.committed t.outbox item tt) k.ties))

now-close-target : (o : Result Channel ErrorKind) (r : ChanRef) (code : ℕ) (text : List ℕ) (t : Talk) (fs : List Frame) → t.state ≡ Connected → target r word.ChannelClose t ≡ o
    → Now t fs → Now (close_target o r.id code text t) fs
now-close-target (Err e) r code text t fs hs is h = h
now-close-target (Ok c) r code text t fs hs is h =
    now-leave r c code text (Some (next_promise t)) t fs hs (target-is r word.ChannelClose t (named r t) c refl is) h

now-drop-target : (o : Result Channel ErrorKind) (r : ChanRef) (t : Talk) (fs : List Frame) → t.state ≡ Connected → target r word.ChannelClose t ≡ o
    → Now t fs → Now (drop_target o r.id t) fs
now-drop-target (Err e) r t fs hs is h = h
now-drop-target (Ok c) r t fs hs is h = now-leave r c 200 (codes "OK") None t fs hs (target-is r word.ChannelClose t (named r t) c refl is) h

now-flow-target : (o : Result Channel ErrorKind) (r : ChanRef) (active : Bool) (t : Talk) (fs : List Frame) → t.state ≡ Connected → target r word.ChannelFlow t ≡ o
    → Now t fs → Now (flow_target o r.id active t) fs
now-flow-target (Err e) r active t fs hs is h = h
now-flow-target (Ok c) r active t fs hs is h =
    let n : ℕ = r.id in
    let at = target-is r word.ChannelFlow t (named r t) c refl is in
    let x : Talk = tell_flow n active t in
    let item : Item = plain_item n (channel_flow n active) in
    now-told t x fs hs refl h
    (λ o hi s.
    let v : Speech = record s.later { content = NoContent } in
    let some : n ≢ 0 = listed-some n t.channels t.outbox.awaited (due_in t) s.later c at.listed s.ties in
    let used = used-open n t.channels t.outbox.awaited (due_in t) s.later c at.listed at.open_state s.ties in
    now-ties t x fs v o hi refl hs (s.agreed refl) s.room
    (pushed t.outbox item fs s.later v s.leads (say-flow n active s.later some s.ties.speaking s.ties.complete used))
    (all-append IsOfControl t.outbox.control (item ∷ []) s.lane ((tt, refl), tt))
    (stay-ready s.later v t.outbox.publish s.ties.speaking tt (λ m used. used) s.groups)
    (now-due x (due_in t) v (none-more t.committed t.outbox item tt)
    (on-await-untied n FlowDone t.channels t.outbox.awaited (due_in t) v (Some (next_promise t)) refl
    (with-content t.channels t.outbox.awaited (due_in t) s.later NoContent tt s.ties))))

class-spelled : (m : OtherMethod) → m.class < 2 ^ 16 → class_in (spell_raw_method m) ≡ m.class
class-spelled m h = from_be_bytes-to_be_bytes_2 m.class h

spelled-length : (m : OtherMethod) → 4 ≤ length (spell_raw_method m)
spelled-length m = omega arith

passed-through : (m : OtherMethod) → m.class ≢ 10 → m.class ≢ 20 → m.class < 2 ^ 16 → IsPassedThrough (spell_raw_method m)
passed-through m connection channel small =
    let is = class-spelled m small in
    record { whole = spelled-length m; not_connection = λ h. connection (sym is ∙ h); not_channel = λ h. channel (sym is ∙ h) }

-- what is told is refused where a frame is too long
now-unless : (o : Option Frame) (rule : Talk → Talk) (t : Talk) (fs : List Frame) → Now t fs → (o ≡ None → Now (rule t) fs) → Now (unless_too_long o rule t) fs
now-unless None rule t fs h next = next refl
now-unless (Some frame) rule t fs h next = h

-- what is told is refused where too much would wait
now-room : (o : Option ℕ) (rule : Talk → Talk) (t : Talk) (fs : List Frame) → Now t fs → Now (rule t) fs → Now (unless_full o rule t) fs
now-room None rule t fs h next = next
now-room (Some octets) rule t fs h next = h

now-send : (r : ChanRef) (m : OtherMethod) (c : Channel) (t : Talk) (fs : List Frame) → IsSendable (Send r m) → t.state ≡ Connected → IsTarget r t c → Now t fs → Now (send r.id m t) fs
now-send r m c t fs told hs at h =
    let n : ℕ = r.id in
    let f = method_frame n m in
    let item : Item = promised_item n f (next_promise t) in
    let x : Talk = queue_send n f t in
    now-unless (too_long (f ∷ []) t) (unless_full (too_full (f ∷ []) t) (queue_send n f)) t fs h
    (λ fits. now-room (too_full (f ∷ []) t) (queue_send n f) t fs h (now-told t x fs hs refl h
    (λ o hi s.
    let k = on-send n t.channels t.outbox.awaited (due_in t) s.later c (spell_raw_method m) (passed-through m told.0 told.1 told.2) at.listed at.open_state s.ties in
    let v : Speech = record s.later { content = MethodSaid n (class_in (spell_raw_method m)) } in
    now-ties t x fs v o hi refl hs (s.agreed refl) s.room (pushed t.outbox item fs s.later v s.leads k.may)
    (all-append IsOfControl t.outbox.control (item ∷ []) s.lane ((tt, refl), tt))
    (stay-ready s.later v t.outbox.publish s.ties.speaking tt (λ m used. used) s.groups)
    (now-due x (due_in t) v (none-more t.committed t.outbox item tt) k.ties))))

now-send-target : (o : Result Channel ErrorKind) (r : ChanRef) (m : OtherMethod) (t : Talk) (fs : List Frame) → IsSendable (Send r m) → t.state ≡ Connected → target r word.Send t ≡ o
    → Now t fs → Now (send_target o r.id m t) fs
now-send-target (Err e) r m t fs told hs is h = h
now-send-target (Ok c) r m t fs told hs is h = now-send r m c t fs told hs (target-is r word.Send t (named r t) c refl is) h

now-publish : (r : ChanRef) (m : OtherMethod) (properties body : List ℕ) (c : Channel) (t : Talk) (fs : List Frame) → IsSendable (Publish r m properties body)
    → t.state ≡ Connected → IsTarget r t c → Now t fs → Now (publish r.id m properties body t) fs
now-publish r m properties body c t fs told hs at h =
    let n : ℕ = r.id in
    let frames : List Frame = publish_frames n m properties body (body_limit t) in
    let x : Talk = queue_publish n frames t in
    now-unless (too_long frames t) (unless_full (too_full frames t) (queue_publish n frames)) t fs h
    (λ fits. now-room (too_full frames t) (queue_publish n frames) t fs h (now-told t x fs hs refl h
    (λ o hi s.
    let some : n ≢ 0 = listed-some n t.channels t.outbox.awaited (due_in t) s.later c at.listed s.ties in
    let used = used-open n t.channels t.outbox.awaited (due_in t) s.later c at.listed at.open_state s.ties in
    let content = publish-content m properties body (body_limit t) told.3 told.4 (pieces-fit n m properties body t (s.agreed refl) fits) in
    let ready : IsReady s.later (group_of n frames (next_promise t)) =
    publish-ready n m properties body (body_limit t) (next_promise t) s.later some s.ties.speaking s.ties.complete used (passed-through m told.0 told.1 told.2) content in
    now-ties t x fs s.later o hi refl hs (s.agreed refl) s.room s.leads s.lane
    (all-append (IsReady s.later) t.outbox.publish (group_of n frames (next_promise t) ∷ []) s.groups (ready, tt)) s.ties)))

now-publish-target : (o : Result Channel ErrorKind) (r : ChanRef) (m : OtherMethod) (properties body : List ℕ) (t : Talk) (fs : List Frame)
    → IsSendable (Publish r m properties body) → t.state ≡ Connected → target r word.Publish t ≡ o → Now t fs → Now (publish_target o r.id m properties body t) fs
now-publish-target (Err e) r m properties body t fs told hs is h = h
now-publish-target (Ok c) r m properties body t fs told hs is h =
    now-publish r m properties body c t fs told hs (target-is r word.Publish t (named r t) c refl is) h

-- a new secret may be told at any time while the connection is open
now-update-secret : (secret reason : List ℕ) (t : Talk) (fs : List Frame) → t.state ≡ Connected → Now t fs → Now (update_secret secret reason t) fs
now-update-secret secret reason t fs hs h =
    let f = new_secret secret reason in
    let item : Item = plain_item 0 f in
    let x : Talk = queue_secret f t in
    now-unless (too_long (f ∷ []) t) (queue_secret f) t fs h
    (λ fits. now-told t x fs hs refl h
    (λ o hi s.
    let v : Speech = record s.later { content = NoContent } in
    now-ties t x fs v o hi refl hs (s.agreed refl) s.room
    (pushed t.outbox item fs s.later v s.leads (say-secret secret reason s.later s.ties.speaking s.ties.complete))
    (all-append IsOfControl t.outbox.control (item ∷ []) s.lane ((tt, refl), tt))
    (stay-ready s.later v t.outbox.publish s.ties.speaking tt (λ m used. used) s.groups)
    (now-due x (due_in t) v (none-more t.committed t.outbox item tt)
    (on-await-untied 0 SecretDone t.channels t.outbox.awaited (due_in t) v (Some (next_promise t)) refl
    (with-content t.channels t.outbox.awaited (due_in t) s.later NoContent tt s.ties)))))

now-leave-connection : (code : ℕ) (text : List ℕ) (answers : Option ℕ) (t : Talk) (fs : List Frame) → t.state ≡ Connected → Now t fs
    → Now (leave_connection code text answers t) fs
now-leave-connection code text answers t fs hs h =
    let x : Talk = leave_connection code text answers t in
    let item : Item = plain_item 0 (our_close code text) in
    now-told t x fs hs refl h
    (λ o hi s.
    let v : Speech = record s.later { stage = CloseSaid; content = NoContent } in
    now-open x fs o
    (tied-as Closing t.phase input.Acting x fs refl refl hi
    (record {
      later = v;
      leads = pushed t.outbox item fs s.later v s.leads (say-our-close code text 0 0 s.later s.ties.speaking s.ties.complete);
      lane = all-append IsOfControl t.outbox.control (item ∷ []) s.lane ((tt, refl), tt);
      groups = tt;
      ties = refl;
      agreed = λ k. absurd (true≢false (sym k));
      listed = map_values-from made_closing 0 t.channels s.listed;
      room = s.room;
    })))

now-command-rule : (s : ConnectionState) (c : Cmd) (t : Talk) (fs : List Frame) → IsSendable c → t.state ≡ s → Now t fs → Now (command_rule s c t) fs
now-command-rule Connected OpenChannel t fs told hs h = now-drawn _ t fs hs refl h
now-command-rule Connected (CloseChannel r code text) t fs told hs h = now-close-target (target r word.ChannelClose t) r code text t fs hs refl h
now-command-rule Connected (CloseConnection code text) t fs told hs h = now-leave-connection code text (Some (next_promise t)) t fs hs h
now-command-rule Connected (UpdateSecret secret reason) t fs told hs h = now-update-secret secret reason t fs hs h
now-command-rule Connected (Send r method) t fs told hs h = now-send-target (target r word.Send t) r method t fs told hs refl h
now-command-rule Connected (Publish r method properties body) t fs told hs h =
    now-publish-target (target r word.Publish t) r method properties body t fs told hs refl h
now-command-rule Connected (Flow r active) t fs told hs h = now-flow-target (target r word.ChannelFlow t) r active t fs hs refl h
now-command-rule Connected (DropChannel r) t fs told hs h = now-drop-target (target r word.ChannelClose t) r t fs hs refl h
now-command-rule Connected DropConnection t fs told hs h = now-leave-connection 200 (codes "OK") None t fs hs h
now-command-rule Connected Listen t fs told hs h = h
now-command-rule _ (DropChannel r) t fs told hs h = h
now-command-rule _ DropConnection t fs told hs h = h
now-command-rule _ Listen t fs told hs h = h
now-command-rule _ c t fs told hs h = h

pub now-command : (c : Cmd) (t : Talk) (fs : List Frame) → IsSendable c → Now t fs → Now (command c t) fs
now-command c t fs told h = now-command-rule t.state c t fs told refl h
