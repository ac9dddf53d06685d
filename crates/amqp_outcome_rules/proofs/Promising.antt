-- What the promise of a command stands for, command by command.
use Rattle.std.proofs.Common.{◌≡◌, ◌⊎◌, inl, inr, ℕ, Bool, true, false, true≢false, is_ok, List, [], ◌∷◌, ◌++◌, length, map, Option, Some, None, Result, Ok, Err, refl, ap, sym, ◌∙◌, not, ◌-◌, ◌&&◌}
use Rattle.std.specs.Prelude.{codes}
use Rattle.amqp_types.specs.declared.word.Word.TheVariants as word
use Rattle.amqp_frame.specs.declared.frame.Frame.{Frame}
use Rattle.amqp_frame.specs.declared.frame.Frame.TheVariants.{Raw, Heartbeat}
use Rattle.amqp_frame.specs.declared.frame.RawKind.TheVariants.{Header, Body}
use Rattle.amqp_frame.specs.Frames.{encoding}
use Rattle.amqp_frame.specs.RawMethods.{OtherMethod}
use Rattle.amqp_outbox.specs.declared.item.Item.{Item}
use Rattle.amqp_outbox.specs.declared.reply.Reply.{Reply}
use Rattle.amqp_outbox.specs.declared.reply.Reply.TheVariants.{ChannelOpened, ChannelClosed, FlowDone, SecretDone, ConnectionClosed}
use Rattle.amqp_outbox.specs.declared.reply.Awaited.{Awaited}
use Rattle.amqp_outbox.specs.Items.{promised_item, group_of, items_of_groups}
use Rattle.amqp_outbox.specs.Queued.{Queued, waiting_items}
use Rattle.amqp_outbox.specs.Replies.{awaited_on, expected}
use Rattle.amqp_promise.specs.declared.state.ConnectionState.{ConnectionState}
use Rattle.amqp_promise.specs.declared.state.ConnectionState.TheVariants.{Connected}
use Rattle.amqp_promise.specs.declared.error.ErrorKind.{ErrorKind}
use Rattle.amqp_promise.specs.declared.error.ErrorKind.TheVariants.{MissingHeartbeatError, ChannelsLimitReached, InvalidConnectionState, OutboxFull, SerialisationError}
use Rattle.amqp_auth.specs.declared.asked.Asked.{Asked}
use Rattle.amqp_auth.specs.declared.asked.Asked.TheVariants.{ValidFor, Refreshed}
use Rattle.amqp_channels.specs.declared.channels.Channel.{Channel}
use Rattle.amqp_commands.specs.declared.command.ChanRef.{ChanRef}
use Rattle.amqp_commands.specs.declared.command.Cmd.{Cmd}
use Rattle.amqp_commands.specs.declared.command.Cmd.TheVariants.{OpenChannel, CloseChannel, CloseConnection, UpdateSecret, Send, Publish, Flow, DropChannel, DropConnection, Listen}
use Rattle.amqp_outgoing.specs.declared.committed.Mark.{Mark}
use Rattle.amqp_outgoing.specs.declared.committed.Then.{Then}
use Rattle.amqp_outgoing.specs.declared.committed.Then.TheVariants.{Answer as Answers}
use Rattle.amqp_rules.specs.Talk.{Talk}
use Rattle.amqp_rules.specs.Changes.{lose, next_promise, queue, refuse}
use Rattle.amqp_settings.specs.Handshake.{new_secret}
use Rattle.amqp_channels.specs.Numbering.{first_number, drawn}
use Rattle.amqp_commands.specs.Publishing.{method_frame, content_header, body_pieces, publish_frames}
use Rattle.amqp_rules.specs.Commands.{body_limit, close_target, command_rule, drop_target, flow_target, leave_channel, leave_connection, open_as, open_drawn, publish_target, queue_publish, queue_secret, queue_send, send_target, takes_promise, target, tell_flow, too_full, too_long, unless_full, unless_too_long}
use Rattle.amqp_rules.specs.Laws.{IsAnsweredAtOnce}
use Rattle.amqp_rules.specs.Sound.{following}
use Rattle.amqp_rules.specs.Secrets.{HasExpired}
use Rattle.amqp_rules.specs.Ticks.{asks_validity, has_expired, heartbeat_due, is_connected, is_heartbeat_due, is_missed, refresh, secret_due, tick, validity_told}
use Rattle.amqp_rules.proofs.AwaitedOn.{expected-same, expected-other}
use Rattle.amqp_maps.proofs.Numbered.{put-same}
use Rattle.amqp_types.proofs.Small.{and-left, and-other, and-right, if-false, if-true, if_case, is-at-most}
use Rattle.amqp_answer_rules.specs.Answering.{IsWaiting}
use Rattle.amqp_outcome_rules.specs.Standing.{AwaitsTheSame, AwaitsOneMore, IsAmong, IsAnsweredWhenSent, StandsFor, AwaitsUnpromised, lets_go, StandsForReplies}

-- ---- what is awaited

awaits-more : (n : ℕ) (reply : Reply) (promise : Option ℕ) (before after : Queued)
    → after.awaited ≡ expected n (record { reply = reply; promise = promise }) before.awaited → AwaitsOneMore n reply promise before after
awaits-more n reply promise before after is =
    let a : Awaited = record { reply = reply; promise = promise } in
    record {
      here = ap (awaited_on n) is ∙ expected-same n a before.awaited;
      elsewhere = λ m other. ap (awaited_on m) is ∙ expected-other m n a before.awaited other;
    }

-- ---- what follows once frames were sent

pub among-later : (what : Then) (marks : List Mark) (items : List Item) → IsAmong what (following [] items) → IsAmong what (following marks items)
among-later what [] items h = h
among-later what (m ∷ marks) items h = inr (among-later what marks items h)

pub among-right : (what : Then) (xs ys : List Item) → IsAmong what (following [] ys) → IsAmong what (following [] (xs ++ ys))
among-right what [] ys h = h
among-right what (x ∷ xs) ys h = inr (among-right what xs ys h)

pub among-left : (what : Then) (xs ys : List Item) → IsAmong what (following [] xs) → IsAmong what (following [] (xs ++ ys))
among-left what [] ys h = absurd h
among-left what (x ∷ xs) ys (inl h) = inl h
among-left what (x ∷ xs) ys (inr h) = inr (among-left what xs ys h)

-- the last of a group answers its promise
pub body-among : (n promise : ℕ) (pieces : List (List ℕ)) (first : List ℕ)
    → IsAmong (Answers promise) (following [] (group_of n (Raw n Body first ∷ map (Raw n Body) pieces) promise))
body-among n promise [] first = inl refl
body-among n promise (next ∷ pieces) first = inr (body-among n promise pieces next)

pub header-among : (n promise : ℕ) (pieces : List (List ℕ)) (header : List ℕ)
    → IsAmong (Answers promise) (following [] (group_of n (Raw n Header header ∷ map (Raw n Body) pieces) promise))
header-among n promise [] header = inl refl
header-among n promise (first ∷ pieces) header = inr (body-among n promise pieces first)

pub publish-among : (n promise : ℕ) (m : OtherMethod) (properties body : List ℕ) (size : ℕ)
    → IsAmong (Answers promise) (following [] (group_of n (publish_frames n m properties body size) promise))
publish-among n promise m properties body size =
    inr (header-among n promise (body_pieces size body) (content_header m.class (length body) properties))

pub group-last : (what : Then) (groups : List (List Item)) (group : List Item) → IsAmong what (following [] group)
    → IsAmong what (following [] (items_of_groups (groups ++ group ∷ [])))
group-last what [] group h = among-left what group [] h
group-last what (g ∷ groups) group h = among-right what g (items_of_groups (groups ++ group ∷ [])) (group-last what groups group h)

-- ---- one command

module _ (t : Talk) where
  -- in this state the promise of a command is answered at once, or stands for what it should
  abbrev Told : Cmd → Talk → Type 0
  Told cmd u = ((e : ErrorKind) × IsAnsweredAtOnce e t u) ⊎ (IsWaiting (next_promise t) u × StandsFor cmd t u)

  refused : (cmd : Cmd) (e : ErrorKind) → Told cmd (refuse e t)
  refused cmd e = inl (e, put-same t.made (Some (Err e)) t.promises)

  told-drawn : (o : Option ℕ) (first : ℕ) → drawn t.configuration.channel_max (first_number t.configuration.channel_max t.cursor) t.channels ≡ o
      → Told OpenChannel (open_drawn o first t)
  told-drawn None first is = inl (ChannelsLimitReached, put-same t.made (Some (Err ChannelsLimitReached)) t.promises)
  told-drawn (Some n) first is =
      inr (put-same t.made None t.promises, (n, is, awaits-more n ChannelOpened (Some t.made) t.outbox (open_as n t).outbox refl))

  told-closed : (o : Result Channel ErrorKind) (r : ChanRef) (code : ℕ) (text : List ℕ) → Told (CloseChannel r code text) (close_target o r.id code text t)
  told-closed (Err e) r code text = refused (CloseChannel r code text) e
  told-closed (Ok c) r code text =
      let u : Talk = leave_channel r.id code text c (Some t.made) t in
      inr (put-same t.made None u.promises, awaits-more r.id ChannelClosed (Some t.made) t.outbox u.outbox refl)

  told-left : (code : ℕ) (text : List ℕ) → Told (CloseConnection code text) (command_rule Connected (CloseConnection code text) t)
  told-left code text =
      let u : Talk = leave_connection code text (Some t.made) t in
      inr (put-same t.made None u.promises, awaits-more 0 ConnectionClosed (Some t.made) t.outbox u.outbox refl)

  told-flow : (o : Result Channel ErrorKind) (r : ChanRef) (active : Bool) → Told (Flow r active) (flow_target o r.id active t)
  told-flow (Err e) r active = refused (Flow r active) e
  told-flow (Ok c) r active =
      inr (put-same t.made None t.promises, awaits-more r.id FlowDone (Some t.made) t.outbox (tell_flow r.id active t).outbox refl)

  told-unless : (cmd : Cmd) (o : Option Frame) (rule : Talk → Talk) → Told cmd (rule t) → Told cmd (unless_too_long o rule t)
  told-unless cmd None rule h = h
  told-unless cmd (Some f) rule h = refused cmd (SerialisationError (length (encoding f)))

  told-room : (cmd : Cmd) (o : Option ℕ) (rule : Talk → Talk) → Told cmd (rule t) → Told cmd (unless_full o rule t)
  told-room cmd None rule h = h
  told-room cmd (Some octets) rule h = refused cmd (OutboxFull octets)

  told-secret : (secret reason : List ℕ) → Told (UpdateSecret secret reason) (command_rule Connected (UpdateSecret secret reason) t)
  told-secret secret reason =
      let f : Frame = new_secret secret reason in
      told-unless (UpdateSecret secret reason) (too_long (f ∷ []) t) (queue_secret f)
      (inr (put-same t.made None t.promises, awaits-more 0 SecretDone (Some t.made) t.outbox (queue_secret f t).outbox refl))

  pub sent-among : (r : ChanRef) (m : OtherMethod) → IsAnsweredWhenSent t.made (queue_send r.id (method_frame r.id m) t)
  sent-among r m =
      let item : Item = promised_item r.id (method_frame r.id m) t.made in
      among-later (Answers t.made) t.committed (waiting_items (queue_send r.id (method_frame r.id m) t).outbox)
      (among-left (Answers t.made) (t.outbox.begun ++ (t.outbox.control ++ item ∷ [])) (items_of_groups t.outbox.publish)
      (among-right (Answers t.made) t.outbox.begun (t.outbox.control ++ item ∷ [])
      (among-right (Answers t.made) t.outbox.control (item ∷ []) (inl refl))))

  told-send : (o : Result Channel ErrorKind) (r : ChanRef) (m : OtherMethod) → Told (Send r m) (send_target o r.id m t)
  told-send (Err e) r m = refused (Send r m) e
  told-send (Ok c) r m =
      let f : Frame = method_frame r.id m in
      told-unless (Send r m) (too_long (f ∷ []) t) (unless_full (too_full (f ∷ []) t) (queue_send r.id f))
      (told-room (Send r m) (too_full (f ∷ []) t) (queue_send r.id f)
      (inr (put-same t.made None t.promises, ((λ k. refl), sent-among r m))))

  pub published-among : (r : ChanRef) (m : OtherMethod) (properties body : List ℕ)
      → IsAnsweredWhenSent t.made (queue_publish r.id (publish_frames r.id m properties body (body_limit t)) t)
  published-among r m properties body =
      let group : List Item = group_of r.id (publish_frames r.id m properties body (body_limit t)) t.made in
      let u : Talk = queue_publish r.id (publish_frames r.id m properties body (body_limit t)) t in
      among-later (Answers t.made) t.committed (waiting_items u.outbox)
      (among-right (Answers t.made) (t.outbox.begun ++ t.outbox.control) (items_of_groups (t.outbox.publish ++ group ∷ []))
      (group-last (Answers t.made) t.outbox.publish group (publish-among r.id t.made m properties body (body_limit t))))

  told-publish : (o : Result Channel ErrorKind) (r : ChanRef) (m : OtherMethod) (properties body : List ℕ)
      → Told (Publish r m properties body) (publish_target o r.id m properties body t)
  told-publish (Err e) r m properties body = refused (Publish r m properties body) e
  told-publish (Ok c) r m properties body =
      let cmd : Cmd = Publish r m properties body in
      let fs : List Frame = publish_frames r.id m properties body (body_limit t) in
      told-unless cmd (too_long fs t) (unless_full (too_full fs t) (queue_publish r.id fs))
      (told-room cmd (too_full fs t) (queue_publish r.id fs)
      (inr (put-same t.made None t.promises, ((λ k. refl), published-among r m properties body))))

  told-rule : (s : ConnectionState) (cmd : Cmd) → takes_promise cmd ≡ true → Told cmd (command_rule s cmd t)
  told-rule Connected OpenChannel takes =
      let first : ℕ = first_number t.configuration.channel_max t.cursor in
      told-drawn (drawn t.configuration.channel_max first t.channels) first refl
  told-rule Connected (CloseChannel r code text) takes = told-closed (target r word.ChannelClose t) r code text
  told-rule Connected (CloseConnection code text) takes = told-left code text
  told-rule Connected (UpdateSecret secret reason) takes = told-secret secret reason
  told-rule Connected (Send r m) takes = told-send (target r word.Send t) r m
  told-rule Connected (Publish r m properties body) takes = told-publish (target r word.Publish t) r m properties body
  told-rule Connected (Flow r active) takes = told-flow (target r word.ChannelFlow t) r active
  told-rule _ (DropChannel r) takes = absurd cc
  told-rule _ DropConnection takes = absurd cc
  told-rule _ Listen takes = absurd cc
  told-rule s cmd takes = refused cmd (InvalidConnectionState s)

  -- ---- commands that take stays promise

  dropped : (r : ChanRef) (o : Result Channel ErrorKind) → is_ok o ≡ true → AwaitsUnpromised (DropChannel r) t (drop_target o r.id t)
  dropped r (Ok c) ok = awaits-more r.id ChannelClosed None t.outbox (leave_channel r.id 200 (codes "OK") c None t).outbox refl
  dropped r (Err e) ok = absurd cc

  let-go : (s : ConnectionState) (cmd : Cmd) → t.state ≡ s → lets_go cmd t ≡ true → AwaitsUnpromised cmd t (command_rule s cmd t)
  let-go Connected (DropChannel r) is opened =
      dropped r (target r word.ChannelClose t) (and-right (is_connected t.state) (is_ok (target r word.ChannelClose t)) opened)
  let-go Connected DropConnection is opened =
      awaits-more 0 ConnectionClosed None t.outbox (leave_connection 200 (codes "OK") None t).outbox refl
  let-go s (DropChannel r) is opened =
      let shut : is_connected s ≡ true = ap is_connected (sym is) ∙ and-left (is_connected t.state) (is_ok (target r word.ChannelClose t)) opened in
      absurd (true≢false (sym shut))
  let-go s DropConnection is opened = let shut : is_connected s ≡ true = ap is_connected (sym is) ∙ opened in absurd (true≢false (sym shut))
  let-go s cmd is opened = absurd (true≢false (sym opened))

  kept-channel : (r : ChanRef) (o : Result Channel ErrorKind) → is_ok o ≡ false → AwaitsTheSame t.outbox (drop_target o r.id t).outbox
  kept-channel r (Ok c) stays = absurd (true≢false stays)
  kept-channel r (Err e) stays = λ k. refl

  idles : (s : ConnectionState) (cmd : Cmd) → t.state ≡ s → takes_promise cmd ≡ false → lets_go cmd t ≡ false
      → AwaitsTheSame t.outbox (command_rule s cmd t).outbox
  idles Connected (DropChannel r) is takes stays =
      kept-channel r (target r word.ChannelClose t)
      (and-other (is_connected t.state) (is_ok (target r word.ChannelClose t)) (ap is_connected is) stays)
  idles Connected DropConnection is takes stays = absurd (true≢false (sym (ap is_connected is) ∙ stays))
  idles Connected Listen is takes stays = λ k. refl
  idles s (DropChannel r) is takes stays = λ k. refl
  idles s DropConnection is takes stays = λ k. refl
  idles s Listen is takes stays = λ k. refl
  idles s cmd is takes stays = absurd (true≢false takes)

-- ---- a secret that has expired

module _ (answers later : List Asked) (secret : List ℕ) (t : Talk) (e : HasExpired answers t) (is : e.later ≡ Refreshed (Ok secret) ∷ later) where
  abbrev awaiting : Awaited
  awaiting = record { reply = SecretDone; promise = None }

  -- in a state that differs in nothing that is asked for
  refreshed-awaits : (x : Talk) → asks_validity x ≡ true → has_expired (Some e.time) x ≡ true
      → (secret_due answers x).outbox.awaited ≡ expected 0 awaiting x.outbox.awaited
  refreshed-awaits x asks over =
      ap (λ (y : Talk). y.outbox.awaited)
      (ap (λ (as_told : List Asked). secret_due as_told x) e.told
      ∙ if-true (asks_validity x) (validity_told (ValidFor (Some e.time) ∷ e.later) x) x asks
      ∙ if-true (has_expired (Some e.time) x) (refresh e.later x) x over
      ∙ ap (λ (left : List Asked). refresh left x) is)

  awaits-refresh : is_missed t ≡ false → AwaitsOneMore 0 SecretDone None t.outbox (tick answers t).outbox
  awaits-refresh heard =
      let asks : asks_validity t ≡ true = ap (λ (s : ConnectionState). is_connected s && not t.refreshing) e.opened ∙ ap not e.idle in
      let over : has_expired (Some e.time) t ≡ true = is-at-most e.time (t.present - t.secret_at) e.gone in
      let beaten : Talk = record (queue 0 Heartbeat t) { last_write = t.present } in
      awaits-more 0 SecretDone None t.outbox (tick answers t).outbox
      (ap (λ (x : Talk). (secret_due answers (heartbeat_due x)).outbox.awaited) (if-false (is_missed t) (lose MissingHeartbeatError t) t heard)
      ∙ if_case (λ (x : Talk). (secret_due answers x).outbox.awaited ≡ expected 0 awaiting t.outbox.awaited) (is_heartbeat_due t) beaten t
      (refreshed-awaits beaten asks over) (refreshed-awaits t asks over))

pub stands-for-replies : (t : Talk) → StandsForReplies t
stands-for-replies t =
    record {
      promised = λ cmd takes. told-rule t t.state cmd takes;
      let_go = λ cmd opened. let-go t t.state cmd refl opened;
      idle = λ cmd takes stays. idles t t.state cmd refl takes stays;
      refreshed = λ answers later secret e heard is. awaits-refresh answers later secret t e is heard;
    }
