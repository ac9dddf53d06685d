-- What commands, time and links queue.
use Rattle.std.proofs.Common.{◌≡◌, ◌⊎◌, inl, inr, ℕ, max, ◌==◌, ◌&&◌, ◌-◌, nat_le, not, Bool, true, false, if◌then◌else◌, List, [], ◌∷◌, ◌++◌, drop, Option, Some, None, Result, Ok, Err, refl, sym, subst}
use Rattle.std.specs.Prelude.{codes}
use Rattle.amqp_types.specs.declared.word.Word.TheVariants as word
use Rattle.amqp_frame.specs.declared.frame.Frame.{Frame}
use Rattle.amqp_frame.specs.RawMethods.{OtherMethod}
use Rattle.amqp_outbox.specs.declared.item.Item.{Item}
use Rattle.amqp_outbox.specs.Items.{plain_item, promised_item, group_of}
use Rattle.amqp_outbox.specs.Queued.{Queued, nothing_queued, only, is_on}
use Rattle.amqp_promise.specs.declared.error.ErrorKind.{ErrorKind}
use Rattle.amqp_promise.specs.declared.error.ErrorKind.TheVariants.{IOError, ProtocolError}
use Rattle.amqp_promise.specs.declared.io_fault.IoFault.{IoFault}
use Rattle.amqp_promise.specs.declared.state.ConnectionState.{ConnectionState}
use Rattle.amqp_promise.specs.declared.state.ConnectionState.TheVariants.{Connected}
use Rattle.amqp_auth.specs.declared.asked.Asked.{Asked}
use Rattle.amqp_channels.specs.declared.channels.Channel.{Channel}
use Rattle.amqp_commands.specs.declared.command.Cmd.{Cmd}
use Rattle.amqp_commands.specs.declared.command.Cmd.TheVariants.{OpenChannel, CloseChannel, CloseConnection, UpdateSecret, Send, Publish, Flow, DropChannel, DropConnection, Listen}
use Rattle.amqp_outgoing.specs.declared.committed.Mark.{Mark}
use Rattle.amqp_outgoing.specs.declared.committed.Then.{Then}
use Rattle.amqp_outgoing.specs.declared.committed.Then.TheVariants.{Nothing, Answer, Pays, Finish}
use Rattle.amqp_violations.specs.declared.misread.Misread.{Misread}
use Rattle.amqp_violations.specs.declared.server_close.ServerClose.{ServerClose}
use Rattle.amqp_violations.specs.declared.server_close.ServerClose.TheVariants.{WithoutError, WithError}
use Rattle.amqp_rules.specs.Talk.{Talk, acts, is_open, is_asked, has_ended}
use Rattle.amqp_rules.specs.Changes.{present_at, starve, next_promise, lose, finish, finish_by}
use Rattle.amqp_settings.specs.Handshake.{protocol_header, our_close, new_secret, channel_open, channel_flow, our_channel_close}
use Rattle.amqp_rules.specs.Links.{linked, refused_after, link_failed, piece, misread, dropped, lost}
use Rattle.amqp_violations.specs.Violations.{misread_error}
use Rattle.amqp_rules.specs.Recovery.{next_delay}
use Rattle.amqp_channels.specs.Numbering.{first_number, drawn}
use Rattle.amqp_rules.specs.Channels.{channel_at}
use Rattle.amqp_commands.specs.Publishing.{method_frame, publish_frames}
use Rattle.amqp_rules.specs.Commands.{target, open_as, open_drawn, leave_channel, close_target, drop_target, too_long, unless_too_long, too_full, unless_full, queue_send, send_target, body_limit, queue_publish, publish_target, tell_flow, flow_target, queue_secret, leave_connection, command_rule, command}
use Rattle.amqp_rules.specs.Ticks.{is_missed, tick}
use Rattle.amqp_rules.specs.Writing.{pay, follow, sent, sent_among, taken}
use Rattle.amqp_rules.proofs.Walk.{refused-keeps, pay-case}
use Rattle.amqp_types.proofs.Small.{if_case}
use Rattle.amqp_queued_rules.specs.Queues.{Queues, QueuesNothing, MayQueue}
use Rattle.amqp_queued_rules.specs.Queued.{opening_of, told_by, published_by, heartbeat_of, renewal_of, told_in_time, QueuesItsOwn}
use Rattle.amqp_queued_rules.specs.Left.{GainsBehind, AddsWhere}
use Rattle.amqp_queued_rules.proofs.Lefts.{tick-added}
use Rattle.amqp_queued_rules.proofs.Parts.{part-all, part-same, part-tested, part-of-part, part-left, queues-part, queues-frames, queues-last}
use Rattle.amqp_queued_rules.proofs.Replying.{Silent, silent, silent-lose, frame-replied}

-- ---- commands

-- a state in which a command queued these, or nothing
abbrev Told : List Item → List (List Item) → Talk → Talk → Type 0
Told frames groups t x = QueuesNothing t.outbox x.outbox ⊎ Queues frames groups t.outbox x.outbox

told-opened : (o : Option ℕ) (first : ℕ) (t : Talk) → Told (opening_of o) [] t (open_drawn o first t)
told-opened None first t = inl (silent t)
told-opened (Some n) first t = inr (queues-last t.outbox (open_as n t).outbox (plain_item n (channel_open n)) refl refl refl)

-- our close of a channel goes last, and its groups go
queues-leave : (n code : ℕ) (text : List ℕ) (c : Channel) (answers : Option ℕ) (t : Talk)
    → Queues (plain_item n (our_channel_close n code text) ∷ []) [] t.outbox (leave_channel n code text c answers t).outbox
queues-leave n code text c answers t =
    queues-frames t.outbox (leave_channel n code text c answers t).outbox (plain_item n (our_channel_close n code text) ∷ []) t.outbox.control
    (part-all t.outbox.control) refl (part-tested (λ (group : List Item). not (is_on n group)) t.outbox.publish) (part-all t.outbox.begun)

-- our close of the connection goes last, and all groups go
queues-left : (code : ℕ) (text : List ℕ) (answers : Option ℕ) (t : Talk)
    → Queues (plain_item 0 (our_close code text) ∷ []) [] t.outbox (leave_connection code text answers t).outbox
queues-left code text answers t =
    queues-frames t.outbox (leave_connection code text answers t).outbox (plain_item 0 (our_close code text) ∷ []) t.outbox.control
    (part-all t.outbox.control) refl tt (part-all t.outbox.begun)

told-closed : (o : Result Channel ErrorKind) (n code : ℕ) (text : List ℕ) (t : Talk)
    → Told (plain_item n (our_channel_close n code text) ∷ []) [] t (close_target o n code text t)
told-closed (Err e) n code text t = inl (silent t)
told-closed (Ok c) n code text t = inr (queues-leave n code text c (Some (next_promise t)) t)

told-dropped : (o : Result Channel ErrorKind) (n : ℕ) (t : Talk)
    → Told (plain_item n (our_channel_close n 200 (codes "OK")) ∷ []) [] t (drop_target o n t)
told-dropped (Err e) n t = inl (silent t)
told-dropped (Ok c) n t = inr (queues-leave n 200 (codes "OK") c None t)

told-flow : (o : Result Channel ErrorKind) (n : ℕ) (active : Bool) (t : Talk) → Told (plain_item n (channel_flow n active) ∷ []) [] t (flow_target o n active t)
told-flow (Err e) n active t = inl (silent t)
told-flow (Ok c) n active t = inr (queues-last t.outbox (tell_flow n active t).outbox (plain_item n (channel_flow n active)) refl refl refl)

-- a command that is refused, since a frame is too long or too much would wait, queues nothing
told-unless : (frames : List Item) (groups : List (List Item)) (o : Option Frame) (rule : Talk → Talk) (t : Talk) → Told frames groups t (rule t)
    → Told frames groups t (unless_too_long o rule t)
told-unless frames groups None rule t h = h
told-unless frames groups (Some f) rule t h = inl (silent t)

told-room : (frames : List Item) (groups : List (List Item)) (o : Option ℕ) (rule : Talk → Talk) (t : Talk) → Told frames groups t (rule t)
    → Told frames groups t (unless_full o rule t)
told-room frames groups None rule t h = h
told-room frames groups (Some octets) rule t h = inl (silent t)

told-send : (o : Result Channel ErrorKind) (n : ℕ) (m : OtherMethod) (t : Talk)
    → Told (promised_item n (method_frame n m) (next_promise t) ∷ []) [] t (send_target o n m t)
told-send (Err e) n m t = inl (silent t)
told-send (Ok c) n m t =
    let f : Frame = method_frame n m in
    let item : Item = promised_item n f (next_promise t) in
    told-unless (item ∷ []) [] (too_long (f ∷ []) t) (unless_full (too_full (f ∷ []) t) (queue_send n f)) t
    (told-room (item ∷ []) [] (too_full (f ∷ []) t) (queue_send n f) t (inr (queues-last t.outbox (queue_send n f t).outbox item refl refl refl)))

told-publish : (o : Result Channel ErrorKind) (n : ℕ) (m : OtherMethod) (properties body : List ℕ) (t : Talk)
    → Told [] (group_of n (publish_frames n m properties body (body_limit t)) (next_promise t) ∷ []) t (publish_target o n m properties body t)
told-publish (Err e) n m properties body t = inl (silent t)
told-publish (Ok c) n m properties body t =
    let fs : List Frame = publish_frames n m properties body (body_limit t) in
    let group : List Item = group_of n fs (next_promise t) in
    told-unless [] (group ∷ []) (too_long fs t) (unless_full (too_full fs t) (queue_publish n fs)) t
    (told-room [] (group ∷ []) (too_full fs t) (queue_publish n fs) t
    (inr
    (record {
      control = (silent t).control;
      publish = (t.outbox.publish, part-all t.outbox.publish, refl);
      begun = part-all t.outbox.begun;
    })))

told-secret : (secret reason : List ℕ) (t : Talk) → Told (plain_item 0 (new_secret secret reason) ∷ []) [] t (command_rule Connected (UpdateSecret secret reason) t)
told-secret secret reason t =
    let f : Frame = new_secret secret reason in
    told-unless (plain_item 0 f ∷ []) [] (too_long (f ∷ []) t) (queue_secret f) t
    (inr (queues-last t.outbox (queue_secret f t).outbox (plain_item 0 f) refl refl refl))

told-connected : (c : Cmd) (t : Talk) → Told (told_by c t) (published_by c t) t (command_rule Connected c t)
told-connected OpenChannel t =
    let first : ℕ = first_number t.configuration.channel_max t.cursor in told-opened (drawn t.configuration.channel_max first t.channels) first t
told-connected (CloseChannel r code text) t = told-closed (target r word.ChannelClose t) r.id code text t
told-connected (CloseConnection code text) t = inr (queues-left code text (Some (next_promise t)) t)
told-connected (UpdateSecret secret reason) t = told-secret secret reason t
told-connected (Send r method) t = told-send (target r word.Send t) r.id method t
told-connected (Publish r method properties body) t = told-publish (target r word.Publish t) r.id method properties body t
told-connected (Flow r active) t = told-flow (target r word.ChannelFlow t) r.id active t
told-connected (DropChannel r) t = told-dropped (target r word.ChannelClose t) r.id t
told-connected DropConnection t = inr (queues-left 200 (codes "OK") None t)
told-connected Listen t = inl (silent t)

-- a command queues its own frames, or nothing
pub command-told : (c : Cmd) (t : Talk) → Told (told_by c t) (published_by c t) t (command c t)
command-told c t = by t.state where
  by : (s : ConnectionState) → Told (told_by c t) (published_by c t) t (command_rule s c t)
  by Connected = told-connected c t
  by s = inl (refused-keeps (Silent t) (λ e x h. h) (λ x h. h) s c t refl (silent t))

-- ---- time

-- what is added last is queued, and all else stays
queues-added : (frames : List Item) (q q' : Queued) → GainsBehind frames [] q q' → Queues frames [] q q'
queues-added frames q q' h =
    record {
      control = (q.control, part-all q.control, h.control);
      publish = (q.publish, part-all q.publish, h.publish);
      begun = part-same q.begun q'.begun h.begun;
    }

pub tick-timed : (answers : List Asked) (t : Talk) → Queues (told_in_time answers t) [] t.outbox (tick answers t).outbox
tick-timed answers t = by (is_missed t) (tick-added answers t) where
  by : (b : Bool) → AddsWhere (not b) (if b then [] else heartbeat_of t ++ renewal_of answers t) t.outbox t (tick answers t)
      → Queues (if b then [] else heartbeat_of t ++ renewal_of answers t) [] t.outbox (tick answers t).outbox
  by true (inl h) = queues-added [] t.outbox (tick answers t).outbox h.0
  by true (inr h) = subst (λ (q : Queued). Queues [] [] t.outbox q) (sym h.nothing) (queues-part t.outbox nothing_queued tt tt tt)
  by false h = queues-added (heartbeat_of t ++ renewal_of answers t) t.outbox (tick answers t).outbox h

-- ---- links

-- nothing but the header waits on a new link
linked-queues : (t : Talk) → MayQueue (plain_item 0 protocol_header ∷ []) t.outbox (linked t).outbox
linked-queues t = if_case (λ (x : Talk). MayQueue (plain_item 0 protocol_header ∷ []) t.outbox x.outbox) (is_asked t) _ t (inr header) (inl (silent t)) where
  header : Queues (plain_item 0 protocol_header ∷ []) [] t.outbox (only (plain_item 0 protocol_header))
  header = queues-frames t.outbox (only (plain_item 0 protocol_header)) (plain_item 0 protocol_header ∷ []) [] tt refl tt tt

silent-failed : (t : Talk) → Silent t (link_failed t)
silent-failed t = if_case (Silent t) (is_asked t) (refused_after (next_delay t) t) t (by (next_delay t)) (silent t) where
  by : (delay : Option ℕ) → Silent t (refused_after delay t)
  by (Some delay) = silent t
  by None = silent t

kept-piece : (t : Talk) → (piece t).outbox ≡ t.outbox
kept-piece t = if_case (λ (x : Talk). x.outbox ≡ t.outbox) (is_open t) (record t { last_read = t.present }) t refl refl

silent-misread : (why : Misread) (t : Talk) → Silent t (misread why t)
silent-misread why t =
    if_case (Silent t) (acts t) (lose (misread_error why) t) (if is_open t then record t { input = dropped t.input } else t) (silent-lose (misread_error why) t)
    (if_case (Silent t) (is_open t) (record t { input = dropped t.input }) t (silent t) (silent t))

silent-finish : (o : Option ServerClose) (t : Talk) → Silent t (finish_by o t)
silent-finish None t = silent t
silent-finish (Some WithoutError) t = silent t
silent-finish (Some (WithError e)) t = silent-lose (ProtocolError e) t

silent-lost : (fault : IoFault) (t : Talk) → Silent t (lost fault t)
silent-lost fault t =
    if_case (Silent t) (acts t) (lose (IOError fault) t) (if is_open t then finish t else t) (silent-lose (IOError fault) t)
    (if_case (Silent t) (is_open t) (finish t) t (silent-finish t.server_close t) (silent t))

kept-moment : (at : ℕ) (t : Talk) → (present_at at t).outbox ≡ t.outbox
kept-moment at t = if_case (λ (x : Talk). x.outbox ≡ t.outbox) (has_ended t) t (record t { present = max t.present at }) refl refl

silent-starve : (t : Talk) → Silent t (starve t)
silent-starve t = if_case (Silent t) (has_ended t) t _ (silent t) (silent t)

-- ---- bytes that were taken

-- what follows another state that was silent
silent-from : (t x y : Talk) → Silent t x → Silent x y → Silent t y
silent-from t x y h k =
    queues-part t.outbox y.outbox
    (part-of-part y.outbox.control x.outbox.control t.outbox.control (part-left x.outbox.control y.outbox.control k.control) (part-left t.outbox.control x.outbox.control h.control))
    (part-of-part y.outbox.publish x.outbox.publish t.outbox.publish (part-left x.outbox.publish y.outbox.publish k.publish) (part-left t.outbox.publish x.outbox.publish h.publish))
    (part-of-part y.outbox.begun x.outbox.begun t.outbox.begun k.begun h.begun)

silent-pay : (o : Option Channel) (n : ℕ) (t : Talk) → Silent t (pay o n t)
silent-pay o n t =
    pay-case (Silent t) o n t (λ none. silent t) (λ c found unowed. silent t) (λ c found owes awaits. silent t) (λ c found owes left. silent t)

silent-follow : (what : Then) (t : Talk) → Silent t (follow what t)
silent-follow Nothing t = silent t
silent-follow (Answer number) t = silent t
silent-follow (Pays n) t = silent-pay (channel_at n t) n t
silent-follow Finish t = silent-finish t.server_close t

silent-sent : (ms : List Mark) (n : ℕ) (t : Talk) → Silent t (sent_among ms n t)
silent-sent [] n t = silent t
silent-sent (m ∷ ms) n t =
    let some : Talk = sent_among ms (n - m.left) (sent m t) in
    let part : Talk = record t { committed = record m { left = m.left - n } ∷ ms } in
    if_case (Silent t) (is_open t) (if nat_le m.left n then some else part) t
    (if_case (Silent t) (nat_le m.left n) some part
    (silent-from t (sent m t) some (silent-follow m.then (record t { committed = drop 1 t.committed })) (silent-sent ms (n - m.left) (sent m t))) (silent t))
    (silent t)

silent-taken : (n : ℕ) (t : Talk) → Silent t (taken n t)
silent-taken n t =
    let u : Talk = record t { last_write = t.present } in
    if_case (Silent t) (is_open t && not (n == 0)) (sent_among t.committed n u) t (silent-sent t.committed n u) (silent t)

-- ---- each rule

pub queues-its-own : (t : Talk) → QueuesItsOwn t
queues-its-own t =
    record {
      linked = linked-queues t;
      frame = λ f answers. frame-replied f answers t;
      command = λ c. command-told c t;
      tick = λ answers. tick-timed answers t;
      moment = λ at. kept-moment at t;
      starve = silent-starve t;
      asked = refl;
      link_failed = silent-failed t;
      piece = kept-piece t;
      misread = λ why. silent-misread why t;
      lost = λ fault. silent-lost fault t;
      taken = λ n. silent-taken n t;
    }
