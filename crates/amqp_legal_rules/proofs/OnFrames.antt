-- Each frame of a channel keeps a session tied to what was said, and so does each frame.
use Rattle.std.proofs.Common.{◌≡◌, ◌≢◌, ◌≤◌, ℕ, zero, suc, ◌+◌, ◌&&◌, if◌then◌else◌, Bool, true, false, List, [], ◌∷◌, ◌++◌, Option, Some, None, Ok, refl, ap, sym, ◌∙◌, arith}
use Rattle.std.proofs.lemmas.List.{map-append}
use Rattle.std.specs.List.{AllByRecursion}
use Rattle.amqp_types.specs.declared.word.Word.TheVariants as word
use Rattle.amqp_frame.specs.declared.frame.Frame.{Frame}
use Rattle.amqp_frame.specs.declared.frame.Frame.TheVariants.{ProtocolHeader, Method, Raw, Heartbeat}
use Rattle.amqp_frame.specs.declared.frame.RawKind.{RawKind}
use Rattle.amqp_frame.specs.declared.frame.RawKind.TheVariants.{RawMethod}
use Rattle.amqp_frame.specs.declared.method.Method.{Method as AnyMethod}
use Rattle.amqp_frame.specs.declared.method.Method.TheVariants.{Blocked, Unblocked, ChannelOpenOk, ChannelFlow, ChannelFlowOk, ChannelClose, ChannelCloseOk}
use Rattle.amqp_outbox.specs.declared.item.Item.{Item}
use Rattle.amqp_outbox.specs.declared.reply.Reply.TheVariants.{ChannelOpened, ChannelClosed, FlowDone}
use Rattle.amqp_outbox.specs.Items.{plain_item}
use Rattle.amqp_outbox.specs.Queued as queued
use Rattle.amqp_outbox.specs.Queued.{Queued, awaited_promise}
use Rattle.amqp_channels.specs.declared.channels.Channel.{Channel}
use Rattle.amqp_channels.specs.declared.channels.Debt.{Debt}
use Rattle.amqp_channels.specs.declared.channels.Debt.TheVariants as debt
use Rattle.amqp_promise.specs.declared.state.ConnectionState.{ConnectionState}
use Rattle.amqp_promise.specs.declared.state.ConnectionState.TheVariants.{Connecting, Connected, Closing}
use Rattle.amqp_promise.specs.declared.state.ChannelState.{ChannelState}
use Rattle.amqp_promise.specs.declared.state.ChannelState.TheVariants as channel
use Rattle.amqp_rules.specs.declared.state.Input.{Input}
use Rattle.amqp_rules.specs.declared.state.Input.TheVariants as input
use Rattle.amqp_answers.specs.declared.answer.Answer.TheVariants.{Done}
use Rattle.amqp_promise.specs.declared.error.ErrorKind.{ErrorKind}
use Rattle.amqp_promise.specs.declared.error.ErrorKind.TheVariants.{InvalidProtocolVersion, InvalidChannel, InvalidChannelState}
use Rattle.amqp_auth.specs.declared.asked.Asked.{Asked as ProviderAnswer}
use Rattle.amqp_rules.specs.Talk.{Talk, is_open, is_closing, is_acting, acts, hears_on}
use Rattle.amqp_rules.specs.Changes.{lose, misplaced, queue, give_to, drop_replies_of, without_all_on}
use Rattle.amqp_violations.specs.Violations.{channel_closed_with, unawaited, stray_channel_frame, stray_connection_method}
use Rattle.amqp_settings.specs.Capacities.{frame_min_size}
use Rattle.amqp_settings.specs.Handshake.{flow_ok, channel_close_ok}
use Rattle.amqp_rules.specs.ConnectionMethods.{connection_rule}
use Rattle.amqp_channels.specs.Channels.{made_answered}
use Rattle.amqp_rules.specs.Channels.{channel_at, set_channel}
use Rattle.amqp_rules.specs.ChannelMethods.{heard_on, unawaited_channel_method, channel_opened, remove_channel, remove_unless_owed, channel_closed, on_channel_flow, channel_flowed, closed_by_server, crossing_close, channel_close_by, channel_rule, channel_method_by, channel_method, raw_by, pass_through, confirmed, hand_out, is_select_ok}
use Rattle.amqp_frame.specs.Methods.{is_of_a_channel}
use Rattle.amqp_rules.specs.Frames.{method_rule, frame_rule, closed_rule, on_frame}
use Rattle.amqp_outgoing.specs.Marks.{then_of}
use Rattle.amqp_legal.specs.Legal.{amqp_header}
use Rattle.amqp_legal.specs.Decider.{Speech, now_on, greeted, say_all}
use Rattle.amqp_legal.specs.declared.progress.Usage.TheVariants.{Shut, InUse, Left}
use Rattle.amqp_legal.specs.declared.progress.Content.TheVariants.{NoContent}
use Rattle.amqp_types.proofs.Small.{if_case, if_by}
use Rattle.amqp_rules.proofs.Ascending.{put-from}
use Rattle.amqp_legal.proofs.Sayable.{IsComplete, say-append, front-said, say-flow-ok, say-channel-close-ok}
use Rattle.amqp_legal_rules.proofs.Ties.{frames_in, LeadsTo, first_out, IsReady, IsOfControl, pays, to_pay, unpaid, TiesChannels}
use Rattle.amqp_legal_rules.proofs.Ready.{stay-ready, others-ready, unused-ready}
use Rattle.amqp_legal_rules.proofs.Expecting.{first-by-promise}
use Rattle.amqp_legal_rules.proofs.Paying.{left_in_lane, none-more, one-more, pays-own, pays-others, lane-pays-none, others-unpaid, none-unpaid, lane-left}
use Rattle.amqp_legal_rules.proofs.Losing.{Alike, lane-loses}
use Rattle.amqp_legal_rules.proofs.OnChannels.{Replies, on-alike, on-usages, ties-of, with-content, on-same, on-answered-untied, above-zero, never-zero, listed-some}
use Rattle.amqp_legal_rules.proofs.OnCloses.{on-opened, left_listed, on-closed, is-used, on-server-close, is-left, on-crossing}
use Rattle.amqp_legal_rules.proofs.Conversing.{Now, pushed, committed-said, now-lose, now-open, speaks-as, tied-as, due_in, now-ties}
use Rattle.amqp_legal_rules.proofs.OnConnection.{Hears, now-connection}
use Rattle.amqp_rules.proofs.FrameEnds.{some-heard}
use Rattle.amqp_channels.proofs.Walking.{all-append}

-- ---- frames of channels

now-unawaited : (n : ℕ) (s : ChannelState) (m : AnyMethod) (t : Talk) (fs : List Frame) → Now t fs → Now (unawaited_channel_method n s m t) fs
now-unawaited n channel.Closing m t fs h = h
now-unawaited n _ m t fs h = now-lose (unawaited m n) t fs h

now-opened : (n : ℕ) (c : Channel) (promise : Option (Option ℕ)) (t : Talk) (fs : List Frame) → Hears Connected t fs → channel_at n t ≡ Some c
    → awaited_promise n ChannelOpened t.outbox ≡ promise → Now (channel_opened n c promise t) fs
now-opened n c None t fs h listed first = now-unawaited n c.state ChannelOpenOk t fs h.now
now-opened n c (Some promise) t fs h listed first =
    let a = first-by-promise n ChannelOpened t.outbox promise first in
    let x : Talk = channel_opened n c (Some promise) t in
    now-ties t x fs h.tied.later h.opened h.acting refl h.state (h.tied.agreed refl) h.tied.room h.tied.leads h.tied.lane h.tied.groups
    (on-opened n t.channels t.outbox.awaited (due_in t) h.tied.later c a.0 listed a.1 h.tied.ties)

-- our close was answered, and the channel goes where nothing is owed
now-left : (d : Debt) (n : ℕ) (c : Channel) (t x : Talk) (fs : List Frame) (v : Speech) → is_open x ≡ true → t.input ≡ input.Acting → x.input ≡ t.input → x.state ≡ Connected
    → frame_min_size ≤ x.configuration.frame_max → 8 ≤ x.capacity → LeadsTo (first_out x.outbox) fs v → AllByRecursion IsOfControl x.outbox.control
    → AllByRecursion (IsReady v) x.outbox.publish → TiesChannels (left_listed d n c x.channels) x.outbox.awaited (due_in x) v → Now (remove_unless_owed d n c x) fs
now-left debt.Owed n c t x fs v o hi same hs agreed room r lane ready ties = now-ties t (set_channel n (made_answered c) x) fs v o hi same hs agreed room r lane ready ties
now-left debt.Nothing n c t x fs v o hi same hs agreed room r lane ready ties = now-ties t (remove_channel n x) fs v o hi same hs agreed room r lane ready ties
now-left debt.Paid n c t x fs v o hi same hs agreed room r lane ready ties = now-ties t (remove_channel n x) fs v o hi same hs agreed room r lane ready ties

now-closed : (n : ℕ) (c : Channel) (promise : Option (Option ℕ)) (t : Talk) (fs : List Frame) → Hears Connected t fs → channel_at n t ≡ Some c
    → awaited_promise n ChannelClosed t.outbox ≡ promise → Now (channel_closed n c promise t) fs
now-closed n c None t fs h listed first = now-unawaited n c.state ChannelCloseOk t fs h.now
now-closed n c (Some promise) t fs h listed first =
    let a = first-by-promise n ChannelClosed t.outbox promise first in
    let v : Speech = h.tied.later in
    let closed : Talk = give_to promise (Ok Done) (record t { outbox = queued.without_awaited n ChannelClosed t.outbox }) in
    let x : Talk = drop_replies_of n (InvalidChannelState channel.Closed word.ChannelCloseOkReceived) closed in
    now-left c.debt n c t x fs v h.opened h.acting refl h.state (h.tied.agreed refl) h.tied.room h.tied.leads h.tied.lane h.tied.groups
    (on-closed n t.channels t.outbox.awaited (due_in t) v c a.0 listed a.1 h.tied.ties)

-- the server lets content be published or not, which is answered
now-flow-used : (n : ℕ) (c : Channel) (active : Bool) (t : Talk) (fs : List Frame) (h : Hears Connected t fs) → channel_at n t ≡ Some c
    → h.tied.later.usage n ≡ InUse → Now (queue n (flow_ok n active) (set_channel n (record c { flow = active }) t)) fs
now-flow-used n c active t fs h listed used =
    let v : Speech = h.tied.later in
    let w : Speech = record v { content = NoContent } in
    let ties : TiesChannels t.channels t.outbox.awaited (due_in t) v = h.tied.ties in
    let c' : Channel = record c { flow = active } in
    let item : Item = plain_item n (flow_ok n active) in
    let x : Talk = queue n (flow_ok n active) (set_channel n c' t) in
    let some : n ≢ 0 = listed-some n t.channels t.outbox.awaited (due_in t) v c listed ties in
    let same : TiesChannels x.channels t.outbox.awaited (due_in t) v = on-same n t.channels t.outbox.awaited (due_in t) v c c' listed refl refl refl ties in
    now-ties t x fs w h.opened h.acting refl h.state (h.tied.agreed refl) h.tied.room
    (pushed t.outbox item fs v w h.tied.leads (say-flow-ok n active v some ties.speaking ties.complete used))
    (all-append IsOfControl t.outbox.control (item ∷ []) h.tied.lane ((tt, refl), tt))
    (stay-ready v w t.outbox.publish ties.speaking tt (λ m used. used) h.tied.groups)
    (on-alike x.channels t.outbox.awaited t.outbox.awaited (due_in t) (due_in x) w ties.awaited_sorted (λ m. refl) (none-more t.committed t.outbox item tt)
    (with-content x.channels t.outbox.awaited (due_in t) v NoContent tt same))

now-flow : (s : ChannelState) (n : ℕ) (c : Channel) (active : Bool) (t : Talk) (fs : List Frame) → Hears Connected t fs → channel_at n t ≡ Some c → c.state ≡ s
    → Now (on_channel_flow s n c active t) fs
now-flow channel.Closing n c active t fs h listed is = h.now
now-flow channel.Initial n c active t fs h listed is =
    now-flow-used n c active t fs h listed (ties-of n t.channels t.outbox.awaited (due_in t) h.tied.later c channel.Initial listed is h.tied.ties).1
now-flow channel.Reconnecting n c active t fs h listed is =
    now-flow-used n c active t fs h listed (ties-of n t.channels t.outbox.awaited (due_in t) h.tied.later c channel.Reconnecting listed is h.tied.ties).1
now-flow channel.Connected n c active t fs h listed is =
    now-flow-used n c active t fs h listed (ties-of n t.channels t.outbox.awaited (due_in t) h.tied.later c channel.Connected listed is h.tied.ties).1
now-flow s n c active t fs h listed is = absurd (ties-of n t.channels t.outbox.awaited (due_in t) h.tied.later c s listed is h.tied.ties)

-- flow-ok came
now-flowed : (n : ℕ) (c : Channel) (active : Bool) (promise : Option (Option ℕ)) (t : Talk) (fs : List Frame) → Hears Connected t fs → channel_at n t ≡ Some c
    → Now (channel_flowed n c active promise t) fs
now-flowed n c active None t fs h listed = now-unawaited n c.state (ChannelFlowOk active) t fs h.now
now-flowed n c active (Some promise) t fs h listed =
    let x : Talk = channel_flowed n c active (Some promise) t in
    now-ties t x fs h.tied.later h.opened h.acting refl h.state (h.tied.agreed refl) h.tied.room h.tied.leads h.tied.lane h.tied.groups
    (on-answered-untied n FlowDone t.channels t.outbox.awaited (due_in t) h.tied.later refl h.tied.ties)

-- a lane that lost the frames of a channel
pub record LeadsOn (n : ℕ) (q : Queued) (fs : List Frame) (v : Speech) : Type 0 where
  pub later : Speech
  pub leads : LeadsTo (q.begun ++ left_in_lane n q.control) fs later
  pub alike : Alike v later

said-both : (o : Option Speech) (xs ys : List Item) → say_all o (frames_in (xs ++ ys)) ≡ say_all (say_all o (frames_in xs)) (frames_in ys)
said-both o xs ys = ap (say_all o) (map-append (λ (i : Item). i.frame) xs ys) ∙ say-append o (frames_in xs) (frames_in ys)

-- what is said after the frames that were committed
said-after : (items : List Item) (g : Frame) (fs : List Frame) (now later : Speech) → g ≡ amqp_header → say_all (Some greeted) fs ≡ Some now
    → say_all (Some now) (frames_in items) ≡ Some later → LeadsTo items (g ∷ fs) later
said-after items g fs now later header may rest =
    record {
      said = fs ++ frames_in items;
      frames = ap (λ f. f ∷ fs ++ frames_in items) header;
      may = say-append (Some greeted) fs (frames_in items) ∙ ap (λ o. say_all o (frames_in items)) may ∙ rest;
    }

lane-lost : (n : ℕ) (q : Queued) (g : Frame) (fs : List Frame) (v : Speech) → n ≢ 0 → AllByRecursion IsOfControl q.control → to_pay q.control n ≡ 0
    → IsComplete v.content → LeadsTo (first_out q) (g ∷ fs) v → LeadsOn n q (g ∷ fs) v
lane-lost n q g fs v some lane none complete leads =
    let said = committed-said (first_out q) g fs v leads in
    let left : List Item = left_in_lane n q.control in
    let parts : say_all (say_all (Some said.now) (frames_in q.begun)) (frames_in q.control) ≡ Some v = sym (said-both (Some said.now) q.begun q.control) ∙ said.rest in
    let b = front-said (say_all (Some said.now) (frames_in q.begun)) (frames_in q.control) v parts in
    let l = lane-loses n q.control b.0 v some lane none complete (ap (λ o. say_all o (frames_in q.control)) (sym b.1) ∙ parts) in
    let rest : say_all (Some said.now) (frames_in (q.begun ++ left)) ≡ Some l.0 =
    said-both (Some said.now) q.begun left ∙ ap (λ o. say_all o (frames_in left)) b.1 ∙ l.1 in
    record { later = l.0; leads = said-after (q.begun ++ left) g fs said.now l.0 said.header said.may rest; alike = l.2 }

-- the server closes a channel that we use
now-closed-by-server : (n : ℕ) (e : ErrorKind) (c : Channel) (t : Talk) (g : Frame) (fs : List Frame) → Hears Connected t (g ∷ fs) → channel_at n t ≡ Some c
    → c.debt ≡ debt.Nothing → c.awaits_close_ok ≡ false → Now (closed_by_server n e c t) (g ∷ fs)
now-closed-by-server n e c t g fs h listed is none =
    let v : Speech = h.tied.later in
    let q : Queued = t.outbox in
    let ws : Replies = q.awaited in
    let ties : TiesChannels t.channels ws (due_in t) v = h.tied.ties in
    let some : n ≢ 0 = listed-some n t.channels ws (due_in t) v c listed ties in
    let still = is-used n t.channels ws (due_in t) v c listed is none ties in
    let l = lane-lost n q g fs v some h.tied.lane (lane-pays-none n t.committed q.begun q.control still.none_due) ties.complete h.tied.leads in
    let w : Speech = l.later in
    let tied : TiesChannels t.channels ws (due_in t) w =
    on-usages t.channels ws (due_in t) v w (sym l.alike.stages) l.alike.right_complete (λ m. sym (l.alike.usages m)) ties in
    let used : w.usage n ≡ InUse = sym (l.alike.usages n) ∙ still.used in
    let item : Item = plain_item n (channel_close_ok n) in
    let left : Queued = without_all_on n q in
    let x : Talk = closed_by_server n e c t in
    let one : due_in x n ≡ 1 =
    (let more : due_in x n ≡ unpaid t.committed (first_out left) n + pays n (then_of item) = one-more n t.committed left item in
    let nothing : unpaid t.committed (first_out left) n ≡ 0 = none-unpaid n t.committed q.begun q.control still.none_due in
    omega (arith, more, nothing, pays-own n)) in
    let others : (m : ℕ) → m ≢ n → due_in x m ≡ due_in t m =
    λ m ne.
    (let more : due_in x m ≡ unpaid t.committed (first_out left) m + pays m (then_of item) = one-more m t.committed left item in
    let same : unpaid t.committed (first_out left) m ≡ due_in t m = others-unpaid m n t.committed q.begun q.control ne h.tied.lane in
    omega (arith, more, same, pays-others m n ne)) in
    now-ties t x (g ∷ fs) (now_on n Shut w) h.opened h.acting refl h.state (h.tied.agreed refl) h.tied.room
    (pushed left item (g ∷ fs) w (now_on n Shut w) l.leads (say-channel-close-ok n w some tied.speaking tied.complete (λ k. used-shut (sym used ∙ k))))
    (all-append IsOfControl left.control (item ∷ []) (lane-left n q.control h.tied.lane) ((tt, refl), tt))
    (others-ready n Shut w q.publish tied.speaking
    (stay-ready v w q.publish tied.speaking tied.complete (λ m used. sym (l.alike.usages m) ∙ used) h.tied.groups))
    (on-server-close n t.channels ws (due_in t) (due_in x) w c listed none one others tied)
  where
    used-shut : InUse ≡ Shut → ⊥
    used-shut k = cc

-- it closes a channel that we closed
now-crossing : (n : ℕ) (e : ErrorKind) (c : Channel) (t : Talk) (fs : List Frame) → Hears Connected t fs → channel_at n t ≡ Some c → c.debt ≡ debt.Nothing
    → c.awaits_close_ok ≡ true → Now (crossing_close n e c t) fs
now-crossing n e c t fs h listed is awaits =
    let v : Speech = h.tied.later in
    let q : Queued = t.outbox in
    let ws : Replies = q.awaited in
    let ties : TiesChannels t.channels ws (due_in t) v = h.tied.ties in
    let some : n ≢ 0 = listed-some n t.channels ws (due_in t) v c listed ties in
    let left = is-left n t.channels ws (due_in t) v c listed is awaits ties in
    let item : Item = plain_item n (channel_close_ok n) in
    let x : Talk = crossing_close n e c t in
    let one : due_in x n ≡ 1 =
    (let more : due_in x n ≡ due_in t n + pays n (then_of item) = one-more n t.committed q item in omega (arith, more, left.none_due, pays-own n)) in
    let others : (m : ℕ) → m ≢ n → due_in x m ≡ due_in t m =
    λ m ne.
    (let more : due_in x m ≡ due_in t m + pays m (then_of item) = one-more m t.committed q item in omega (arith, more, pays-others m n ne)) in
    now-ties t x fs (now_on n Shut v) h.opened h.acting refl h.state (h.tied.agreed refl) h.tied.room
    (pushed q item fs v (now_on n Shut v) h.tied.leads (say-channel-close-ok n v some ties.speaking ties.complete (λ k. left-shut (sym left.unused ∙ k))))
    (all-append IsOfControl q.control (item ∷ []) h.tied.lane ((tt, refl), tt))
    (unused-ready n Shut Left v q.publish ties.speaking left.unused (λ k. left-used k) h.tied.groups)
    (on-crossing n t.channels ws (due_in t) (due_in x) v c listed left one others ties)
  where
    left-shut : Left ≡ Shut → ⊥
    left-shut k = cc

    left-used : Left ≡ InUse → ⊥
    left-used k = cc

now-channel-close : (d : Debt) (n : ℕ) (e : ErrorKind) (c : Channel) (t : Talk) (g : Frame) (fs : List Frame) → Hears Connected t (g ∷ fs)
    → channel_at n t ≡ Some c → c.debt ≡ d → Now (channel_close_by d n e c t) (g ∷ fs)
now-channel-close debt.Nothing n e c t g fs h listed is =
    if_by (λ (x : Talk). Now x (g ∷ fs)) c.awaits_close_ok (crossing_close n e c t) (closed_by_server n e c t)
    (λ awaits. now-crossing n e c t (g ∷ fs) h listed is awaits) (λ none. now-closed-by-server n e c t g fs h listed is none)
now-channel-close _ n e c t g fs h listed is = h.now

now-misplaced : (e : ErrorKind) (t : Talk) (fs : List Frame) → Now t fs → Now (misplaced e t) fs
now-misplaced e t fs h = if_case (λ (x : Talk). Now x fs) (is_closing t.state) t (lose e t) h (now-lose e t fs h)

now-channel : (s : ConnectionState) (n : ℕ) (c : Channel) (m : AnyMethod) (t : Talk) (g : Frame) (fs : List Frame) → Hears s t (g ∷ fs) → s ≢ Connecting
    → channel_at n t ≡ Some c → Now (channel_rule s n c m t) (g ∷ fs)
now-channel Closing n c m t g fs h ne listed = h.now
now-channel Connecting n c m t g fs h ne listed = absurd (ne refl)
now-channel Connected n c ChannelOpenOk t g fs h ne listed = now-opened n c (awaited_promise n ChannelOpened t.outbox) t (g ∷ fs) h listed refl
now-channel Connected n c ChannelCloseOk t g fs h ne listed = now-closed n c (awaited_promise n ChannelClosed t.outbox) t (g ∷ fs) h listed refl
now-channel Connected n c (ChannelClose code text class method) t g fs h ne listed =
    now-channel-close c.debt n (channel_closed_with code text) c t g fs h listed refl
now-channel Connected n c (ChannelFlow active) t g fs h ne listed = now-flow c.state n c active t (g ∷ fs) h listed refl
now-channel Connected n c (ChannelFlowOk active) t g fs h ne listed = now-flowed n c active (awaited_promise n FlowDone t.outbox) t (g ∷ fs) h listed
now-channel Connected n c m t g fs h ne listed = now-unawaited n c.state m t (g ∷ fs) h.now
now-channel _ n c m t g fs h ne listed = absurd h.tied.ties

now-channel-method : (o : Option Channel) (n : ℕ) (m : AnyMethod) (t : Talk) (g : Frame) (fs : List Frame) → Hears t.state t (g ∷ fs)
    → heard_on t.state (channel_at n t) ≡ o → Now (channel_method_by o n m t) (g ∷ fs)
now-channel-method None n m t g fs h heard = now-misplaced (InvalidChannel n) t (g ∷ fs) h.now
now-channel-method (Some c) n m t g fs h heard =
    let k = some-heard t.state (channel_at n t) c heard in now-channel t.state n c m t g fs h k.0 k.1

now-pass : (s : ConnectionState) (n : ℕ) (c : Channel) (kind : RawKind) (bytes : List ℕ) (t : Talk) (fs : List Frame) → Hears s t fs → s ≢ Connecting → channel_at n t ≡ Some c
    → Now (pass_through n c kind bytes t) fs
now-pass s n c kind bytes t fs h ne listed =
    let x : Talk = confirmed n c t in
    if_case (λ (y : Talk). Now (hand_out c.opened (record { channel = n; kind = kind; bytes = bytes }) y) fs) (is_select_ok kind bytes) x t (in_state s h ne) h.now
  where
    in_state : (s : ConnectionState) → Hears s t fs → s ≢ Connecting → Now (confirmed n c t) fs
    in_state Connecting h ne = absurd (ne refl)
    in_state Connected h ne =
        now-ties t (confirmed n c t) fs h.tied.later h.opened h.acting refl h.state (h.tied.agreed refl) h.tied.room h.tied.leads h.tied.lane h.tied.groups
        (on-same n t.channels t.outbox.awaited (due_in t) h.tied.later c (record c { confirm = true }) listed refl refl refl h.tied.ties)
    -- our close of the connection was said, and what ties channels no longer counts
    in_state Closing h ne =
        let x : Talk = confirmed n c t in
        now-open x fs h.opened
        (tied-as Closing t.phase input.Acting x fs h.state refl h.acting
        (record {
          later = h.tied.later;
          leads = h.tied.leads;
          lane = h.tied.lane;
          groups = h.tied.groups;
          ties = h.tied.ties;
          agreed = h.tied.agreed;
          listed = put-from n (record c { confirm = true }) 0 t.channels (above-zero n (never-zero n t.channels c listed h.tied.listed)) h.tied.listed;
          room = h.tied.room;
        }))
    in_state _ h ne = absurd h.tied.ties

now-raw : (o : Option Channel) (n : ℕ) (kind : RawKind) (bytes : List ℕ) (t : Talk) (fs : List Frame) → Hears t.state t fs → heard_on t.state (channel_at n t) ≡ o
    → Now (raw_by o n kind bytes t) fs
now-raw None n kind bytes t fs h heard = now-misplaced (InvalidChannel n) t fs h.now
now-raw (Some c) n kind bytes t fs h heard =
    let k = some-heard t.state (channel_at n t) c heard in now-pass t.state n c kind bytes t fs h k.0 k.1

-- ---- frames

now-method : (n : ℕ) (m : AnyMethod) (answers : List ProviderAnswer) (t : Talk) (g : Frame) (fs : List Frame) → Hears t.state t (g ∷ fs) → Now (method_rule n m answers t) (g ∷ fs)
now-method zero m answers t g fs h =
    if_case (λ (x : Talk). Now x (g ∷ fs)) (is_of_a_channel m) (misplaced (stray_channel_frame RawMethod) t) (connection_rule t.state t.phase m answers t)
    (now-misplaced (stray_channel_frame RawMethod) t (g ∷ fs) h.now) (now-connection t.state t.phase m answers t g fs h.opened h.acting refl refl h.now h.tied)
now-method (suc n) m answers t g fs h =
    if_case (λ (x : Talk). Now x (g ∷ fs)) (is_of_a_channel m) (channel_method (suc n) m t) (misplaced (stray_connection_method (suc n)) t)
    (now-channel-method (heard_on t.state (channel_at (suc n) t)) (suc n) m t g fs h refl) (now-misplaced (stray_connection_method (suc n)) t (g ∷ fs) h.now)

now-rule : (f : Frame) (answers : List ProviderAnswer) (t : Talk) (g : Frame) (fs : List Frame) → Hears t.state t (g ∷ fs) → Now (frame_rule f answers t) (g ∷ fs)
now-rule (ProtocolHeader version) answers t g fs h = now-lose (InvalidProtocolVersion version) t (g ∷ fs) h.now
now-rule Heartbeat answers t g fs h = h.now
now-rule (Method n m) answers t g fs h = now-method n m answers t g fs h
now-rule (Raw zero kind bytes) answers t g fs h = now-misplaced (stray_channel_frame kind) t (g ∷ fs) h.now
now-rule (Raw (suc n) kind bytes) answers t g fs h = now-raw (heard_on t.state (channel_at (suc n) t)) (suc n) kind bytes t (g ∷ fs) h refl

acting-input : (i : Input) → is_acting i ≡ true → i ≡ input.Acting
acting-input input.Acting h = refl
acting-input (input.Closed crossed) h = cc
acting-input (input.Dropped crossed) h = cc

both : (b c : Bool) → (b && c) ≡ true → (b ≡ true) × (c ≡ true)
both true c h = (refl, h)
both false c h = absurd cc

-- what the server says after its close
now-hears-on : (f : Frame) (t : Talk) (fs : List Frame) → Now t fs → Now (closed_rule f t) fs
now-hears-on (Method zero (Blocked reason)) t fs h = h
now-hears-on (Method zero Unblocked) t fs h = h
now-hears-on f t fs h = h

-- a frame that was read, once the header was committed
pub now-frame : (f : Frame) (answers : List ProviderAnswer) (t : Talk) (g : Frame) (fs : List Frame) → Now t (g ∷ fs) → Now (on_frame f answers t) (g ∷ fs)
now-frame f answers t g fs now =
    if_by (λ (x : Talk). Now x (g ∷ fs)) (acts t) (frame_rule f answers t) (if hears_on t then closed_rule f t else t)
    (λ acting.
    (let k = both (is_open t) (is_acting t.input) acting in
    let is = acting-input t.input k.1 in
    now-rule f answers t g fs
    (record {
      opened = k.0;
      acting = is;
      state = refl;
      now = now;
      tied = speaks-as t.state t.state t.phase t.phase t.input input.Acting t.configuration.frame_max t.capacity t.outbox t.channels t.committed (g ∷ fs) refl refl is (now.0 k.0);
    })))
    (λ idle. if_case (λ (x : Talk). Now x (g ∷ fs)) (hears_on t) (closed_rule f t) t (now-hears-on f t (g ∷ fs) now) now)
