-- Publishes flow on: no command stops them, and no reply of the double does.
use Rattle.std.proofs.Common.{◌≡◌, ◌∙◌, ap, sym, refl, ℕ, if◌then◌else◌, Bool, true, false, true≢false, List, [], ◌∷◌, Option, Some, None, Result, Ok, Err}
use Rattle.std.specs.Ordering.{nat_cmp, match_ordering}
use Rattle.std.specs.declared.cmp.Ordering.{Ordering}
use Rattle.std.specs.declared.cmp.Ordering.TheVariants.{Less, Equal, Greater}
use Rattle.std.specs.BTreeMap.{is_at}
use Rattle.std.proofs.lemmas.List.Folds.{list_all-map}
use Rattle.amqp_types.specs.declared.word.Word.{Word}
use Rattle.amqp_types.specs.declared.word.Word.TheVariants as word
use Rattle.amqp_types.proofs.Small.{if_case, and-true, and-left, and-right}
use Rattle.amqp_frame.specs.declared.frame.Frame.{Frame}
use Rattle.amqp_frame.specs.declared.method.Method.{Method as AnyMethod}
use Rattle.amqp_frame.specs.declared.method.Method.TheVariants.{ChannelOpenOk, ChannelFlowOk, ChannelCloseOk}
use Rattle.amqp_frame.specs.RawMethods.{OtherMethod}
use Rattle.amqp_outbox.specs.declared.reply.Reply.TheVariants.{ChannelOpened, ChannelClosed, FlowDone}
use Rattle.amqp_outbox.specs.Queued.{awaited_promise}
use Rattle.amqp_promise.specs.declared.error.ErrorKind.{ErrorKind}
use Rattle.amqp_promise.specs.declared.error.ErrorKind.TheVariants.{InvalidChannel}
use Rattle.amqp_promise.specs.declared.state.ConnectionState.{ConnectionState}
use Rattle.amqp_promise.specs.declared.state.ConnectionState.TheVariants.{Connecting, Connected, Closing}
use Rattle.amqp_promise.specs.declared.state.ChannelState.{ChannelState}
use Rattle.amqp_promise.specs.declared.state.ChannelState.TheVariants as channel
use Rattle.amqp_channels.specs.declared.channels.Channel.{Channel}
use Rattle.amqp_channels.specs.declared.channels.Debt.{Debt}
use Rattle.amqp_channels.specs.declared.channels.Debt.TheVariants as debt
use Rattle.amqp_commands.specs.declared.command.ChanRef.{ChanRef}
use Rattle.amqp_commands.specs.declared.command.Cmd.{Cmd}
use Rattle.amqp_commands.specs.declared.command.Cmd.TheVariants.{OpenChannel, CloseChannel, CloseConnection, UpdateSecret, Send, Publish, Flow, DropChannel, DropConnection, Listen}
use Rattle.amqp_maps.specs.Listed.{at, put, without, map_values}
use Rattle.amqp_rules.specs.Talk.{Talk, is_open, is_closing}
use Rattle.amqp_channels.specs.Channels.{new_channel, made_closing, made_leaving, made_answered, all_flow}
use Rattle.amqp_rules.specs.Channels.{channel_at}
use Rattle.amqp_rules.specs.Changes.{lose, misplaced, next_promise}
use Rattle.amqp_rules.specs.ChannelMethods.{heard_on, unawaited_channel_method, channel_opened, channel_closed, channel_flowed, remove_unless_owed, channel_rule, channel_method_by, channel_method}
use Rattle.amqp_rules.specs.Commands.{target, target_by, target_in, named, named_in, is_opening, open_drawn, close_target, drop_target, too_long, unless_too_long, too_full, unless_full, queue_send, send_target, queue_publish, publish_target, flow_target, queue_secret, command_rule, command, body_limit}
use Rattle.amqp_channels.specs.Numbering.{first_number, drawn}
use Rattle.amqp_commands.specs.Publishing.{method_frame, publish_frames}
use Rattle.amqp_settings.specs.Handshake.{new_secret}
use Rattle.amqp_rules.specs.Writing.{flows}
use Rattle.amqp_violations.specs.Violations.{unawaited}
use Rattle.amqp_rules.proofs.Recovering.{lose-case}
use Rattle.amqp_rules.proofs.Walk.{refused-keeps}

abbrev pub Flows : Talk → Type 0
Flows t = flows t ≡ true

-- ---- the listed channels

flow-by : (o : Ordering) (n : ℕ) (c : Channel) (e : ℕ × Channel) (es : List (ℕ × Channel)) → c.flow ≡ true → (e.1).flow ≡ true → all_flow es ≡ true → all_flow (put n c es) ≡ true
    → all_flow (match_ordering o ((n, c) ∷ e ∷ es) ((e.0, c) ∷ es) (e ∷ put n c es)) ≡ true
flow-by Less n c e es own first rest more = and-true c.flow _ own (and-true (e.1).flow (all_flow es) first rest)
flow-by Equal n c e es own first rest more = and-true c.flow (all_flow es) own rest
flow-by Greater n c e es own first rest more = and-true (e.1).flow (all_flow (put n c es)) first more

pub flow-put : (n : ℕ) (c : Channel) (cs : List (ℕ × Channel)) → c.flow ≡ true → all_flow cs ≡ true → all_flow (put n c cs) ≡ true
flow-put n c [] own all = and-true c.flow true own refl
flow-put n c (e ∷ es) own all =
    let rest = and-right (e.1).flow (all_flow es) all in
    flow-by (nat_cmp n e.0) n c e es own (and-left (e.1).flow (all_flow es) all) rest (flow-put n c es own rest)

pub flow-without : (n : ℕ) (cs : List (ℕ × Channel)) → all_flow cs ≡ true → all_flow (without n cs) ≡ true
flow-without n [] all = refl
flow-without n (e ∷ es) all =
    let rest = and-right (e.1).flow (all_flow es) all in
    if_case (λ (xs : List (ℕ × Channel)). all_flow xs ≡ true) (is_at (nat_cmp n) e.0) es (e ∷ without n es) rest
    (and-true (e.1).flow (all_flow (without n es)) (and-left (e.1).flow (all_flow es) all) (flow-without n es rest))

pub flow-at : (n : ℕ) (cs : List (ℕ × Channel)) (c : Channel) → at n cs ≡ Some c → all_flow cs ≡ true → c.flow ≡ true
flow-at n [] c is all = absurd (let bad : None ≡ Some c = is in cc)
flow-at n (e ∷ es) c is all = by (is_at (nat_cmp n) e.0) is (λ later. flow-at n es c later (and-right (e.1).flow (all_flow es) all)) where
  by : (b : Bool) → (if b then Some e.1 else at n es) ≡ Some c → (at n es ≡ Some c → c.flow ≡ true) → c.flow ≡ true
  by true here more = let same : e.1 ≡ c = cc in ap (λ (x : Channel). x.flow) (sym same) ∙ and-left (e.1).flow (all_flow es) all
  by false later more = more later

-- ---- commands

named-listed : (r : ChanRef) (o : Option Channel) (c : Channel) → named_in r.opened o ≡ Some c → o ≡ Some c
named-listed r None c h = cc
named-listed r (Some x) c h = by (is_opening r.opened x.opened) h where
  by : (b : Bool) → (if b then Some x else None) ≡ Some c → Some x ≡ Some c
  by true is = is
  by false is = cc

target-same : (s : ChannelState) (w : Word) (x c : Channel) → target_in s w x ≡ Ok c → x ≡ c
target-same channel.Connected w x c h = cc
target-same channel.Initial w x c h = absurd cc
target-same channel.Closing w x c h = absurd cc
target-same _ w x c h = absurd cc

target-flow : (r : ChanRef) (w : Word) (t : Talk) (c : Channel) → target r w t ≡ Ok c → Flows t → c.flow ≡ true
target-flow r w t c is h = by (named r t) refl is where
  by : (o : Option Channel) → named r t ≡ o → target_by o r.id w ≡ Ok c → c.flow ≡ true
  by None n k = absurd cc
  by (Some x) n k =
      let listed = named-listed r (channel_at r.id t) x n in
      ap (λ (y : Channel). y.flow) (sym (target-same x.state w x c k)) ∙ flow-at r.id t.channels x listed h

drawn-flows : (o : Option ℕ) (first : ℕ) (t : Talk) → Flows t → Flows (open_drawn o first t)
drawn-flows None first t h = h
drawn-flows (Some n) first t h = flow-put n (new_channel (next_promise t)) t.channels refl h

close-flows : (o : Result Channel ErrorKind) (r : ChanRef) (code : ℕ) (text : List ℕ) (t : Talk) → target r word.ChannelClose t ≡ o → Flows t → Flows (close_target o r.id code text t)
close-flows (Err e) r code text t is h = h
close-flows (Ok c) r code text t is h = flow-put r.id (made_leaving c) t.channels (target-flow r word.ChannelClose t c is h) h

drop-flows : (o : Result Channel ErrorKind) (r : ChanRef) (t : Talk) → target r word.ChannelClose t ≡ o → Flows t → Flows (drop_target o r.id t)
drop-flows (Err e) r t is h = h
drop-flows (Ok c) r t is h = flow-put r.id (made_leaving c) t.channels (target-flow r word.ChannelClose t c is h) h

unless-flows : (o : Option Frame) (rule : Talk → Talk) (t : Talk) → Flows t → Flows (rule t) → Flows (unless_too_long o rule t)
unless-flows None rule t h k = k
unless-flows (Some f) rule t h k = h

room-flows : (o : Option ℕ) (rule : Talk → Talk) (t : Talk) → Flows t → Flows (rule t) → Flows (unless_full o rule t)
room-flows None rule t h k = k
room-flows (Some octets) rule t h k = h

send-flows : (o : Result Channel ErrorKind) (n : ℕ) (m : OtherMethod) (t : Talk) → Flows t → Flows (send_target o n m t)
send-flows (Err e) n m t h = h
send-flows (Ok c) n m t h =
    let f : Frame = method_frame n m in
    unless-flows (too_long (f ∷ []) t) (unless_full (too_full (f ∷ []) t) (queue_send n f)) t h (room-flows (too_full (f ∷ []) t) (queue_send n f) t h h)

publish-flows : (o : Result Channel ErrorKind) (n : ℕ) (m : OtherMethod) (properties body : List ℕ) (t : Talk) → Flows t → Flows (publish_target o n m properties body t)
publish-flows (Err e) n m properties body t h = h
publish-flows (Ok c) n m properties body t h =
    let fs : List Frame = publish_frames n m properties body (body_limit t) in
    unless-flows (too_long fs t) (unless_full (too_full fs t) (queue_publish n fs)) t h (room-flows (too_full fs t) (queue_publish n fs) t h h)

flow-flows : (o : Result Channel ErrorKind) (n : ℕ) (active : Bool) (t : Talk) → Flows t → Flows (flow_target o n active t)
flow-flows (Err e) n active t h = h
flow-flows (Ok c) n active t h = h

closing-flows : (cs : List (ℕ × Channel)) → all_flow (map_values made_closing cs) ≡ all_flow cs
closing-flows cs = list_all-map (λ (e : ℕ × Channel). (e.1).flow) (λ (e : ℕ × Channel). (e.0, made_closing e.1)) cs

told-flows : (c : Cmd) (t : Talk) → Flows t → Flows (command_rule Connected c t)
told-flows OpenChannel t h =
    let first = first_number t.configuration.channel_max t.cursor in drawn-flows (drawn t.configuration.channel_max first t.channels) first t h
told-flows (CloseChannel r code text) t h = close-flows (target r word.ChannelClose t) r code text t refl h
told-flows (CloseConnection code text) t h = closing-flows t.channels ∙ h
told-flows (UpdateSecret secret reason) t h =
    let f : Frame = new_secret secret reason in unless-flows (too_long (f ∷ []) t) (queue_secret f) t h h
told-flows (Send r method) t h = send-flows (target r word.Send t) r.id method t h
told-flows (Publish r method properties body) t h = publish-flows (target r word.Publish t) r.id method properties body t h
told-flows (Flow r active) t h = flow-flows (target r word.ChannelFlow t) r.id active t h
told-flows (DropChannel r) t h = drop-flows (target r word.ChannelClose t) r t refl h
told-flows DropConnection t h = closing-flows t.channels ∙ h
told-flows Listen t h = h

pub flows-command : (c : Cmd) (t : Talk) → Flows t → Flows (command c t)
flows-command c t h = by t.state where
  by : (s : ConnectionState) → Flows (command_rule s c t)
  by Connected = told-flows c t h
  by s = refused-keeps Flows (λ e u k. k) (λ u k. k) s c t refl h

-- ---- replies on a channel, while the link stays open

abbrev pub FlowsOpen : Talk → Type 0
FlowsOpen t = is_open t ≡ true → Flows t

pub lost-flows : (e : ErrorKind) (t : Talk) → FlowsOpen (lose e t)
lost-flows e t = lose-case FlowsOpen e t (λ delay now. absurd (true≢false (sym now))) (λ now. absurd (true≢false (sym now)))

misplaced-flows : (e : ErrorKind) (t : Talk) → Flows t → FlowsOpen (misplaced e t)
misplaced-flows e t h = if_case FlowsOpen (is_closing t.state) t (lose e t) (λ now. h) (lost-flows e t)

unawaited-flows : (n : ℕ) (s : ChannelState) (m : AnyMethod) (t : Talk) → Flows t → FlowsOpen (unawaited_channel_method n s m t)
unawaited-flows n channel.Closing m t h = λ now. h
unawaited-flows n _ m t h = lost-flows (unawaited m n) t

heard-listed : (s : ConnectionState) (o : Option Channel) (c : Channel) → heard_on s o ≡ Some c → o ≡ Some c
heard-listed Connecting o c h = absurd cc
heard-listed s o c h = h

opened-flows : (n : ℕ) (c : Channel) (o : Option (Option ℕ)) (t : Talk) → c.flow ≡ true → Flows t → FlowsOpen (channel_opened n c o t)
opened-flows n c None t own h = unawaited-flows n c.state ChannelOpenOk t h
opened-flows n c (Some promise) t own h = λ now. flow-put n (record c { state = channel.Connected }) t.channels own h

flowed-flows : (n : ℕ) (c : Channel) (active : Bool) (o : Option (Option ℕ)) (t : Talk) → Flows t → FlowsOpen (channel_flowed n c active o t)
flowed-flows n c active None t h = unawaited-flows n c.state (ChannelFlowOk active) t h
flowed-flows n c active (Some promise) t h = λ now. h

owed-flows : (d : Debt) (n : ℕ) (c : Channel) (t : Talk) → c.flow ≡ true → Flows t → Flows (remove_unless_owed d n c t)
owed-flows debt.Owed n c t own h = flow-put n (made_answered c) t.channels own h
owed-flows _ n c t own h = flow-without n t.channels h

closed-flows : (n : ℕ) (c : Channel) (o : Option (Option ℕ)) (t : Talk) → c.flow ≡ true → Flows t → FlowsOpen (channel_closed n c o t)
closed-flows n c None t own h = unawaited-flows n c.state ChannelCloseOk t h
closed-flows n c (Some promise) t own h = λ now. owed-flows c.debt n c _ own h

pub flows-opened : (n : ℕ) (t : Talk) → Flows t → FlowsOpen (channel_method n ChannelOpenOk t)
flows-opened n t h = by (heard_on t.state (channel_at n t)) (λ c is. flow-at n t.channels c (heard-listed t.state (channel_at n t) c is) h) where
  by : (o : Option Channel) → ((c : Channel) → o ≡ Some c → c.flow ≡ true) → FlowsOpen (channel_method_by o n ChannelOpenOk t)
  by None own = misplaced-flows (InvalidChannel n) t h
  by (Some c) own = state t.state where
    state : (s : ConnectionState) → FlowsOpen (channel_rule s n c ChannelOpenOk t)
    state Closing = λ now. h
    state s = opened-flows n c (awaited_promise n ChannelOpened t.outbox) t (own c refl) h

pub flows-flowed : (n : ℕ) (active : Bool) (t : Talk) → Flows t → FlowsOpen (channel_method n (ChannelFlowOk active) t)
flows-flowed n active t h = by (heard_on t.state (channel_at n t)) where
  by : (o : Option Channel) → FlowsOpen (channel_method_by o n (ChannelFlowOk active) t)
  by None = misplaced-flows (InvalidChannel n) t h
  by (Some c) = state t.state where
    state : (s : ConnectionState) → FlowsOpen (channel_rule s n c (ChannelFlowOk active) t)
    state Closing = λ now. h
    state s = flowed-flows n c active (awaited_promise n FlowDone t.outbox) t h

pub flows-closed : (n : ℕ) (t : Talk) → Flows t → FlowsOpen (channel_method n ChannelCloseOk t)
flows-closed n t h = by (heard_on t.state (channel_at n t)) (λ c is. flow-at n t.channels c (heard-listed t.state (channel_at n t) c is) h) where
  by : (o : Option Channel) → ((c : Channel) → o ≡ Some c → c.flow ≡ true) → FlowsOpen (channel_method_by o n ChannelCloseOk t)
  by None own = misplaced-flows (InvalidChannel n) t h
  by (Some c) own = state t.state where
    state : (s : ConnectionState) → FlowsOpen (channel_rule s n c ChannelCloseOk t)
    state Closing = λ now. h
    state s = closed-flows n c (awaited_promise n ChannelClosed t.outbox) t (own c refl) h
