-- What each rule leaves of what waited: all that waits, but where it is said.
use Rattle.std.proofs.Common.{◌≡◌, ◌≢◌, ◌⊎◌, inl, inr, ℕ, ◌==◌, ◌&&◌, ◌-◌, nat_le, not, Bool, true, false, true≢false, if◌then◌else◌, List, [], ◌∷◌, ◌++◌, drop, length, Option, Some, None, Result, Ok, Err, refl, ◌∙◌, sym, subst, append-nil}
use Rattle.std.specs.Prelude.{codes}
use Rattle.amqp_types.specs.declared.word.Word.TheVariants as word
use Rattle.amqp_frame.specs.declared.frame.Frame.{Frame}
use Rattle.amqp_frame.specs.declared.frame.Frame.TheVariants.{Heartbeat}
use Rattle.amqp_frame.specs.Frames.{encoding}
use Rattle.amqp_frame.specs.RawMethods.{OtherMethod}
use Rattle.amqp_outbox.specs.declared.item.Item.{Item}
use Rattle.amqp_outbox.specs.Items.{plain_item, promised_item, group_of}
use Rattle.amqp_outbox.specs.Queued.{Queued, nothing_queued, next_item}
use Rattle.amqp_outbox.proofs.Waiting.{next-waits}
use Rattle.amqp_promise.specs.declared.error.ErrorKind.{ErrorKind}
use Rattle.amqp_promise.specs.declared.error.ErrorKind.TheVariants.{ChannelsLimitReached, InvalidConnectionState, IOError, MissingHeartbeatError, OutboxFull, ProtocolError, SerialisationError}
use Rattle.amqp_promise.specs.declared.io_fault.IoFault.{IoFault}
use Rattle.amqp_promise.specs.declared.state.ConnectionState.{ConnectionState}
use Rattle.amqp_promise.specs.declared.state.ConnectionState.TheVariants.{Connected, Reconnecting}
use Rattle.amqp_auth.specs.declared.asked.Asked.{Asked}
use Rattle.amqp_auth.specs.declared.asked.Asked.TheVariants as answer
use Rattle.amqp_channels.specs.declared.channels.Channel.{Channel}
use Rattle.amqp_commands.specs.declared.command.ChanRef.{ChanRef}
use Rattle.amqp_commands.specs.declared.command.Cmd.{Cmd}
use Rattle.amqp_commands.specs.declared.command.Cmd.TheVariants.{OpenChannel, CloseChannel, CloseConnection, UpdateSecret, Send, Publish, Flow, DropChannel, DropConnection, Listen}
use Rattle.amqp_outgoing.specs.declared.committed.Mark.{Mark}
use Rattle.amqp_outgoing.specs.declared.committed.Then.{Then}
use Rattle.amqp_outgoing.specs.declared.committed.Then.TheVariants.{Nothing, Answer, Pays, Finish}
use Rattle.amqp_violations.specs.declared.misread.Misread.{Misread}
use Rattle.amqp_violations.specs.declared.server_close.ServerClose.{ServerClose}
use Rattle.amqp_violations.specs.declared.server_close.ServerClose.TheVariants.{WithoutError, WithError}
use Rattle.amqp_rules.specs.Talk.{Talk, acts, is_open, is_asked, has_ended}
use Rattle.amqp_settings.specs.Handshake.{protocol_header, our_close, new_secret, channel_open, channel_flow, our_channel_close}
use Rattle.amqp_violations.specs.Violations.{misread_error}
use Rattle.amqp_maps.specs.Listed.{at}
use Rattle.amqp_rules.specs.Changes as change
use Rattle.amqp_rules.specs.Changes.{queue, next_promise, refuse, lose, finish, finish_by, starve, without_groups_of, without_groups}
use Rattle.amqp_rules.specs.Recovery.{next_delay}
use Rattle.amqp_channels.specs.Numbering.{first_number, drawn}
use Rattle.amqp_rules.specs.Channels.{channel_at}
use Rattle.amqp_commands.specs.Publishing.{method_frame, publish_frames}
use Rattle.amqp_rules.specs.Links.{linked, refused_after, link_failed, misread, dropped, lost}
use Rattle.amqp_rules.specs.Commands.{target, open_as, open_drawn, leave_channel, close_target, drop_target, too_long, unless_too_long, too_full, unless_full, queue_send, send_target, body_limit, queue_publish, publish_target, tell_flow, flow_target, queue_secret, leave_connection, command_rule, command}
use Rattle.amqp_rules.specs.Ticks.{asks_validity, has_expired, heartbeat_due, is_heartbeat_due, is_missed, link_due, refresh, refreshed, secret_due, tick, validity_told}
use Rattle.amqp_settings.specs.Handshake.{refresh_reason}
use Rattle.amqp_rules.specs.Laws.{IsAnsweredAtOnce}
use Rattle.amqp_rules.specs.Writing.{writes, flows, next_out, next_within, committed_as, commit, overlong, end_overlong, next_frame, pay, follow, sent, sent_among, taken}
use Rattle.amqp_maps.proofs.Numbered.{put-same}
use Rattle.amqp_rules.proofs.Recovering.{lose-case}
use Rattle.amqp_rules.proofs.Walk.{pay-case}
use Rattle.amqp_rules.proofs.Finishing.{fitting-some}
use Rattle.amqp_rules.proofs.Sending.{sent_among-closed}
use Rattle.amqp_types.proofs.Small.{if_case, if_by}
use Rattle.amqp_queued_rules.specs.Queued.{opening_of, told_by, published_by, heartbeat_of, new_one, renewal, renewal_of, told_in_time}
use Rattle.amqp_queued_rules.specs.Left.{GainsBehind, DropsAll, StaysOrDrops, left_by_command, AddsWhere, IsUntold, GoesOut, LeavesWhatWaits}
use Rattle.amqp_queued_rules.proofs.LeftByFrames.{same, stays-then, one-more, adds-then, Still, still, kept-lose, frame-added}

-- ---- commands

-- a command adds these to what it leaves, or all stays, exactly for this reason
abbrev Obeyed : Type 0 → List Item → List (List Item) → Queued → Talk → Talk → Type 0
Obeyed untold frames groups left t x = (Still t x × untold) ⊎ (GainsBehind frames groups left x.outbox × (untold → ⊥))

-- its promise is answered at once with an error
abbrev IsRefusal : Talk → Talk → Type 0
IsRefusal t x = (e : ErrorKind) × IsAnsweredAtOnce e t x

-- so is what a command does that takes a promise
abbrev Told : List Item → List (List Item) → Queued → Talk → Talk → Type 0
Told frames groups left t x = Obeyed (IsRefusal t x) frames groups left t x

-- a promise that waits is not answered
waits-on : (t u : Talk) → at t.made u.promises ≡ Some None → IsRefusal t u → ⊥
waits-on t u waits (e, h) = let clash : Some None ≡ Some (Some (Err e)) = sym waits ∙ h in absurd cc

-- one error more, and all stays
refused : (e : ErrorKind) (t : Talk) → Still t (refuse e t) × IsRefusal t (refuse e t)
refused e t = (same t.outbox, (e, put-same t.made (Some (Err e)) t.promises))

told-opened : (o : Option ℕ) (first : ℕ) (t : Talk) → Told (opening_of o) [] t.outbox t (open_drawn o first t)
told-opened None first t = inl (same t.outbox, (ChannelsLimitReached, put-same t.made (Some (Err ChannelsLimitReached)) t.promises))
told-opened (Some n) first t =
    inr (one-more t.outbox (open_as n t).outbox (plain_item n (channel_open n)) refl refl refl, waits-on t (open_as n t) (put-same t.made None t.promises))

adds-leave : (n code : ℕ) (text : List ℕ) (c : Channel) (answers : Option ℕ) (t : Talk)
    → GainsBehind (plain_item n (our_channel_close n code text) ∷ []) [] (without_groups_of n t.outbox) (leave_channel n code text c answers t).outbox
adds-leave n code text c answers t =
    one-more (without_groups_of n t.outbox) (leave_channel n code text c answers t).outbox (plain_item n (our_channel_close n code text)) refl refl refl

adds-left : (code : ℕ) (text : List ℕ) (answers : Option ℕ) (t : Talk)
    → GainsBehind (plain_item 0 (our_close code text) ∷ []) [] (without_groups t.outbox) (leave_connection code text answers t).outbox
adds-left code text answers t = one-more (without_groups t.outbox) (leave_connection code text answers t).outbox (plain_item 0 (our_close code text)) refl refl refl

told-closed : (o : Result Channel ErrorKind) (n code : ℕ) (text : List ℕ) (t : Talk)
    → Told (plain_item n (our_channel_close n code text) ∷ []) [] (without_groups_of n t.outbox) t (close_target o n code text t)
told-closed (Err e) n code text t = inl (refused e t)
told-closed (Ok c) n code text t =
    let u : Talk = leave_channel n code text c (Some (next_promise t)) t in
    inr (adds-leave n code text c (Some (next_promise t)) t, waits-on t (change.promise u) (put-same t.made None u.promises))

told-dropped : (r : ChanRef) (o : Result Channel ErrorKind) (t : Talk) → t.state ≡ Connected → target r word.ChannelClose t ≡ o
    → Obeyed (IsUntold (DropChannel r) t (drop_target o r.id t)) (plain_item r.id (our_channel_close r.id 200 (codes "OK")) ∷ []) [] (without_groups_of r.id t.outbox) t
    (drop_target o r.id t)
told-dropped r (Err e) t held is = inl (same t.outbox, inr (e, is))
told-dropped r (Ok c) t held is = inr (adds-leave r.id 200 (codes "OK") c None t, found) where
  found : (t.state ≢ Connected) ⊎ ((e : ErrorKind) × (target r word.ChannelClose t ≡ Err e)) → ⊥
  found (inl shut) = shut held
  found (inr (e, lacks)) = let clash : Ok c ≡ Err e = sym is ∙ lacks in absurd cc

told-flow : (o : Result Channel ErrorKind) (n : ℕ) (active : Bool) (t : Talk) → Told (plain_item n (channel_flow n active) ∷ []) [] t.outbox t (flow_target o n active t)
told-flow (Err e) n active t = inl (refused e t)
told-flow (Ok c) n active t =
    let u : Talk = tell_flow n active t in
    inr (one-more t.outbox u.outbox (plain_item n (channel_flow n active)) refl refl refl, waits-on t u (put-same t.made None t.promises))

told-unless : (frames : List Item) (groups : List (List Item)) (o : Option Frame) (rule : Talk → Talk) (t : Talk) → Told frames groups t.outbox t (rule t)
    → Told frames groups t.outbox t (unless_too_long o rule t)
told-unless frames groups None rule t h = h
told-unless frames groups (Some f) rule t h = inl (refused (SerialisationError (length (encoding f))) t)

told-room : (frames : List Item) (groups : List (List Item)) (o : Option ℕ) (rule : Talk → Talk) (t : Talk) → Told frames groups t.outbox t (rule t)
    → Told frames groups t.outbox t (unless_full o rule t)
told-room frames groups None rule t h = h
told-room frames groups (Some octets) rule t h = inl (refused (OutboxFull octets) t)

told-send : (o : Result Channel ErrorKind) (n : ℕ) (m : OtherMethod) (t : Talk)
    → Told (promised_item n (method_frame n m) (next_promise t) ∷ []) [] t.outbox t (send_target o n m t)
told-send (Err e) n m t = inl (refused e t)
told-send (Ok c) n m t =
    let f : Frame = method_frame n m in
    let item : Item = promised_item n f (next_promise t) in
    told-unless (item ∷ []) [] (too_long (f ∷ []) t) (unless_full (too_full (f ∷ []) t) (queue_send n f)) t
    (told-room (item ∷ []) [] (too_full (f ∷ []) t) (queue_send n f) t
    (inr (one-more t.outbox (queue_send n f t).outbox item refl refl refl, waits-on t (queue_send n f t) (put-same t.made None t.promises))))

told-publish : (o : Result Channel ErrorKind) (n : ℕ) (m : OtherMethod) (properties body : List ℕ) (t : Talk)
    → Told [] (group_of n (publish_frames n m properties body (body_limit t)) (next_promise t) ∷ []) t.outbox t (publish_target o n m properties body t)
told-publish (Err e) n m properties body t = inl (refused e t)
told-publish (Ok c) n m properties body t =
    let fs : List Frame = publish_frames n m properties body (body_limit t) in
    let group : List Item = group_of n fs (next_promise t) in
    told-unless [] (group ∷ []) (too_long fs t) (unless_full (too_full fs t) (queue_publish n fs)) t
    (told-room [] (group ∷ []) (too_full fs t) (queue_publish n fs) t
    (inr (record { control = sym (append-nil t.outbox.control); publish = refl; begun = refl }, waits-on t (queue_publish n fs t) (put-same t.made None t.promises))))

told-secret : (secret reason : List ℕ) (t : Talk) → Told (plain_item 0 (new_secret secret reason) ∷ []) [] t.outbox t (command_rule Connected (UpdateSecret secret reason) t)
told-secret secret reason t =
    let f : Frame = new_secret secret reason in
    told-unless (plain_item 0 f ∷ []) [] (too_long (f ∷ []) t) (queue_secret f) t
    (inr (one-more t.outbox (queue_secret f t).outbox (plain_item 0 f) refl refl refl, waits-on t (queue_secret f t) (put-same t.made None t.promises)))

-- what a command does, in this state after it
abbrev Does : Cmd → Talk → Talk → Type 0
Does c t x = Obeyed (IsUntold c t x) (told_by c t) (published_by c t) (left_by_command c t.outbox) t x

told-connected : (c : Cmd) (t : Talk) → t.state ≡ Connected → Does c t (command_rule Connected c t)
told-connected OpenChannel t held =
    let first : ℕ = first_number t.configuration.channel_max t.cursor in told-opened (drawn t.configuration.channel_max first t.channels) first t
told-connected (CloseChannel r code text) t held = told-closed (target r word.ChannelClose t) r.id code text t
told-connected (CloseConnection code text) t held =
    let u : Talk = leave_connection code text (Some (next_promise t)) t in
    inr (adds-left code text (Some (next_promise t)) t, waits-on t (change.promise u) (put-same t.made None u.promises))
told-connected (UpdateSecret secret reason) t held = told-secret secret reason t
told-connected (Send r method) t held = told-send (target r word.Send t) r.id method t
told-connected (Publish r method properties body) t held = told-publish (target r word.Publish t) r.id method properties body t
told-connected (Flow r active) t held = told-flow (target r word.ChannelFlow t) r.id active t
told-connected (DropChannel r) t held = told-dropped r (target r word.ChannelClose t) t held refl
told-connected DropConnection t held = inr (adds-left 200 (codes "OK") None t, λ shut. shut held)
told-connected Listen t held = inl (same t.outbox, tt)

-- while the connection is not open, no command is obeyed
told-shut : (s : ConnectionState) (c : Cmd) (t : Talk) → s ≢ Connected → t.state ≢ Connected → Does c t (command_rule s c t)
told-shut Connected c t shut out = absurd (shut refl)
told-shut s (DropChannel r) t shut out = inl (same t.outbox, inl out)
told-shut s DropConnection t shut out = inl (same t.outbox, out)
told-shut s Listen t shut out = inl (same t.outbox, tt)
told-shut s OpenChannel t shut out = inl (refused (InvalidConnectionState s) t)
told-shut s (CloseChannel r code text) t shut out = inl (refused (InvalidConnectionState s) t)
told-shut s (CloseConnection code text) t shut out = inl (refused (InvalidConnectionState s) t)
told-shut s (UpdateSecret secret reason) t shut out = inl (refused (InvalidConnectionState s) t)
told-shut s (Send r method) t shut out = inl (refused (InvalidConnectionState s) t)
told-shut s (Publish r method properties body) t shut out = inl (refused (InvalidConnectionState s) t)
told-shut s (Flow r active) t shut out = inl (refused (InvalidConnectionState s) t)

command-added : (c : Cmd) (t : Talk) → Does c t (command c t)
command-added c t = by t.state refl where
  by : (s : ConnectionState) → t.state ≡ s → Does c t (command_rule s c t)
  by Connected is = told-connected c t is
  by s is = told-shut s c t (λ h. cc) (λ h. let clash : s ≡ Connected = sym is ∙ h in cc)

-- ---- time

-- what a tick does but that it finds the server silent
abbrev rest : List Asked → Talk → Talk
rest answers x = link_due (secret_due answers (heartbeat_due x))

-- a secret, in a state that differs in what waits
module _ (t x : Talk) (asks : asks_validity x ≡ asks_validity t) (expires : (time : Option ℕ) → has_expired time x ≡ has_expired time t)
    (beats : List Item) (h : GainsBehind beats [] t.outbox x.outbox) where
  none : GainsBehind (beats ++ []) [] t.outbox x.outbox
  none = subst (λ (frames : List Item). GainsBehind frames [] t.outbox x.outbox) (sym (append-nil beats)) h

  renewed : (later : List Asked) → GainsBehind (beats ++ new_one later) [] t.outbox (refresh later x).outbox
  renewed (answer.Refreshed (Ok secret) ∷ later) =
      adds-then beats (plain_item 0 (new_secret secret refresh_reason)) t.outbox x.outbox (refreshed (Ok secret) x).outbox refl refl refl h
  renewed (answer.Refreshed (Err text) ∷ later) = none
  renewed later = none

  valid-told : (answers : List Asked) → GainsBehind (beats ++ renewal answers t) [] t.outbox (validity_told answers x).outbox
  valid-told (answer.ValidFor time ∷ later) =
      let E : Bool → Type 0 = λ b. GainsBehind (beats ++ (if b then new_one later else [])) [] t.outbox (if has_expired time x then refresh later x else x).outbox in
      subst E (expires time) (by (has_expired time x))
    where
      by : (b : Bool) → GainsBehind (beats ++ (if b then new_one later else [])) [] t.outbox (if b then refresh later x else x).outbox
      by true = renewed later
      by false = none
  valid-told answers = none

  secret-told : (answers : List Asked) → GainsBehind (beats ++ renewal_of answers t) [] t.outbox (secret_due answers x).outbox
  secret-told answers =
      let E : Bool → Type 0 = λ b. GainsBehind (beats ++ (if b then renewal answers t else [])) [] t.outbox (if asks_validity x then validity_told answers x else x).outbox in
      subst E asks (by (asks_validity x))
    where
      by : (b : Bool) → GainsBehind (beats ++ (if b then renewal answers t else [])) [] t.outbox (if b then validity_told answers x else x).outbox
      by true = valid-told answers
      by false = none

-- the server was not silent
heard-timed : (answers : List Asked) (t : Talk) → GainsBehind (heartbeat_of t ++ renewal_of answers t) [] t.outbox (rest answers t).outbox
heard-timed answers t = by (is_heartbeat_due t) where
  beaten : Talk
  beaten = record (queue 0 Heartbeat t) { last_write = t.present }

  expires : (time : Option ℕ) → has_expired time beaten ≡ has_expired time t
  expires None = refl
  expires (Some time) = refl

  by : (b : Bool) → GainsBehind ((if b then plain_item 0 Heartbeat ∷ [] else []) ++ renewal_of answers t) [] t.outbox (secret_due answers (if b then beaten else t)).outbox
  by true =
      secret-told t beaten refl expires (plain_item 0 Heartbeat ∷ []) (one-more t.outbox (queue 0 Heartbeat t).outbox (plain_item 0 Heartbeat) refl refl refl) answers
  by false = secret-told t t refl (λ time. refl) [] (same t.outbox) answers

pub tick-added : (answers : List Asked) (t : Talk) → AddsWhere (not (is_missed t)) (told_in_time answers t) t.outbox t (tick answers t)
tick-added answers t = by (is_missed t) where
  by : (b : Bool)
      → AddsWhere (not b) (if b then [] else heartbeat_of t ++ renewal_of answers t) t.outbox t (rest answers (if b then lose MissingHeartbeatError t else t))
  by true =
      lose-case (λ (x : Talk). StaysOrDrops t (rest answers x)) MissingHeartbeatError t (λ delay. inr (record { state = refl; nothing = refl }))
      (inl (same t.outbox, λ waits. absurd cc))
  by false = heard-timed answers t

-- ---- links

linked-added : (t : Talk) → is_asked t ≡ true → GainsBehind (plain_item 0 protocol_header ∷ []) [] nothing_queued (linked t).outbox
linked-added t asks =
    if_by (λ (x : Talk). GainsBehind (plain_item 0 protocol_header ∷ []) [] nothing_queued x.outbox) (is_asked t) _ t
    (λ h. record { control = refl; publish = refl; begun = refl }) (λ h. absurd (true≢false (sym asks ∙ h)))

linked-still : (t : Talk) → is_asked t ≡ false → Still t (linked t)
linked-still t asks = if_by (Still t) (is_asked t) _ t (λ h. absurd (true≢false (sym h ∙ asks))) (λ h. same t.outbox)

stays-failed : (t : Talk) → Still t (link_failed t)
stays-failed t = if_case (Still t) (is_asked t) (refused_after (next_delay t) t) t (by (next_delay t)) (same t.outbox) where
  by : (delay : Option ℕ) → Still t (refused_after delay t)
  by (Some delay) = same t.outbox
  by None = same t.outbox

kept-misread : (why : Misread) (t : Talk) → StaysOrDrops t (misread why t)
kept-misread why t =
    if_case (StaysOrDrops t) (acts t) (lose (misread_error why) t) (if is_open t then record t { input = dropped t.input } else t) (kept-lose (misread_error why) t)
    (if_case (StaysOrDrops t) (is_open t) (record t { input = dropped t.input }) t (inl (same t.outbox, λ h. h)) (still t))

kept-finish : (o : Option ServerClose) (t : Talk) → StaysOrDrops t (finish_by o t)
kept-finish None t = inl (same t.outbox, λ waits. absurd cc)
kept-finish (Some WithoutError) t = inl (same t.outbox, λ waits. absurd cc)
kept-finish (Some (WithError e)) t = kept-lose (ProtocolError e) t

kept-lost : (fault : IoFault) (t : Talk) → StaysOrDrops t (lost fault t)
kept-lost fault t =
    if_case (StaysOrDrops t) (acts t) (lose (IOError fault) t) (if is_open t then finish t else t) (kept-lose (IOError fault) t)
    (if_case (StaysOrDrops t) (is_open t) (finish t) t (kept-finish t.server_close t) (still t))

stays-starve : (t : Talk) → Still t (starve t)
stays-starve t = if_case (Still t) (has_ended t) t _ (same t.outbox) (same t.outbox)

-- ---- frames that go out

out-is : (t : Talk) (item : Item) → next_out t ≡ Some item → next_item (flows t) t.outbox ≡ Some item
out-is t item h = by (writes t) h where
  by : (b : Bool) → (if b then next_item (flows t) t.outbox else None) ≡ Some item → next_item (flows t) t.outbox ≡ Some item
  by true is = is
  by false is = absurd cc

takes-committed : (o : Option Item) (space : ℕ) (t : Talk) → next_within space t ≡ o → GoesOut o t.outbox (committed_as o t).outbox
takes-committed None space t is = same t.outbox
takes-committed (Some item) space t is = next-waits (flows t) t.outbox item (out-is t item (fitting-some space (next_out t) item is))

-- a frame that is too long ends the session, and leaves what waits
takes-ended : (o : Option Item) (q : Queued) (size : Option ℕ) (x : Talk) → GoesOut o q x.outbox → GoesOut o q (end_overlong size x).outbox
takes-ended o q None x h = h
takes-ended o q (Some size) x h = h

next-taken : (space : ℕ) (t : Talk) → GoesOut (next_within space t) t.outbox (next_frame space t).outbox
next-taken space t = takes-ended (next_within space t) t.outbox (overlong t) (commit space t) (takes-committed (next_within space t) space t refl)

-- ---- bytes that were taken

-- all stays, in a session that goes on as it did or ends; or the link is lost, and no more is sent on it
abbrev Followed : Talk → Talk → Type 0
Followed t x = (Still t x × (x.state ≡ Reconnecting → t.state ≡ Reconnecting)) ⊎ (DropsAll x × (is_open x ≡ false))

followed-finish : (o : Option ServerClose) (t : Talk) → Followed t (finish_by o t)
followed-finish None t = inl (same t.outbox, λ waits. absurd cc)
followed-finish (Some WithoutError) t = inl (same t.outbox, λ waits. absurd cc)
followed-finish (Some (WithError e)) t =
    lose-case (Followed t) (ProtocolError e) t (λ delay. inr (record { state = refl; nothing = refl }, refl)) (inl (same t.outbox, λ waits. absurd cc))

followed-pay : (o : Option Channel) (n : ℕ) (t : Talk) → Followed t (pay o n t)
followed-pay o n t =
    let before : Followed t t = inl (same t.outbox, λ h. h) in
    pay-case (Followed t) o n t (λ none. before) (λ c found unowed. before) (λ c found owes awaits. inl (same t.outbox, λ h. h))
    (λ c found owes left. inl (same t.outbox, λ h. h))

followed : (what : Then) (t : Talk) → Followed t (follow what t)
followed Nothing t = inl (same t.outbox, λ h. h)
followed (Answer number) t = inl (same t.outbox, λ h. h)
followed (Pays n) t = followed-pay (channel_at n t) n t
followed Finish t = followed-finish t.server_close t

goes-on : (ms : List Mark) (n : ℕ) (t x : Talk) → Followed t x → StaysOrDrops x (sent_among ms n x) → StaysOrDrops t (sent_among ms n x)
goes-on ms n t x (inl h) (inl k) = inl (stays-then t.outbox x.outbox (sent_among ms n x).outbox h.0 k.0, λ waits. h.1 (k.1 waits))
goes-on ms n t x (inl h) (inr k) = inr k
goes-on ms n t x (inr h) k = inr (subst DropsAll (sym (sent_among-closed ms n x h.1)) h.0)

kept-sent : (ms : List Mark) (n : ℕ) (t : Talk) → StaysOrDrops t (sent_among ms n t)
kept-sent [] n t = still t
kept-sent (m ∷ ms) n t =
    let some : Talk = sent_among ms (n - m.left) (sent m t) in
    let part : Talk = record t { committed = record m { left = m.left - n } ∷ ms } in
    if_case (StaysOrDrops t) (is_open t) (if nat_le m.left n then some else part) t
    (if_case (StaysOrDrops t) (nat_le m.left n) some part
    (goes-on ms (n - m.left) t (sent m t) (followed m.then (record t { committed = drop 1 t.committed })) (kept-sent ms (n - m.left) (sent m t)))
    (inl (same t.outbox, λ h. h)))
    (still t)

kept-taken : (n : ℕ) (t : Talk) → StaysOrDrops t (taken n t)
kept-taken n t =
    let u : Talk = record t { last_write = t.present } in
    if_case (StaysOrDrops t) (is_open t && not (n == 0)) (sent_among t.committed n u) t (kept-sent t.committed n u) (still t)

-- ---- each rule

pub leaves-what-waits : (t : Talk) → LeavesWhatWaits t
leaves-what-waits t =
    record {
      linked = linked-added t;
      unasked = linked-still t;
      frame = λ f answers. frame-added f answers t;
      command = λ c. command-added c t;
      tick = λ answers. tick-added answers t;
      next = λ space. next-taken space t;
      starve = stays-starve t;
      link_failed = stays-failed t;
      misread = λ why. kept-misread why t;
      lost = λ fault. kept-lost fault t;
      taken = λ n. kept-taken n t;
    }
