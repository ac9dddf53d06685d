-- No command and no tick queues a frame that is longer than the capacity, where what closes say is short and what the provider answers can be said.
use Rattle.std.proofs.Common.{◌≡◌, ◌≤◌, ℕ, not, nat_lt, cond, Bool, true, false, List, [], ◌∷◌, ◌++◌, length, length-append, Option, Some, None, Result, Ok, Err, refl, arith}
use Rattle.std.specs.Prelude.{find, codes}
use Rattle.std.specs.Int.{w16, to_be_bytes}
use Rattle.std.specs.List.{AllByRecursion}
use Rattle.std.proofs.lemmas.Bool.Decides.{nat_tests}
use Rattle.amqp_frame.specs.declared.frame.Frame.{Frame}
use Rattle.amqp_frame.specs.declared.frame.Frame.TheVariants.{Heartbeat}
use Rattle.amqp_frame.specs.RawMethods.{OtherMethod}
use Rattle.amqp_frame.specs.Frames.{encoding}
use Rattle.amqp_outbox.specs.declared.item.Item.{Item}
use Rattle.amqp_outbox.specs.Items.{plain_item, promised_item, group_of}
use Rattle.amqp_outbox.specs.Queued.{pushed_control, is_on}
use Rattle.amqp_promise.specs.declared.state.ConnectionState.{ConnectionState}
use Rattle.amqp_promise.specs.declared.state.ConnectionState.TheVariants.{Connected}
use Rattle.amqp_promise.specs.declared.error.ErrorKind.{ErrorKind}
use Rattle.amqp_promise.specs.declared.error.ErrorKind.TheVariants.{MissingHeartbeatError}
use Rattle.amqp_types.specs.declared.word.Word.TheVariants as word
use Rattle.amqp_channels.specs.declared.channels.Channel.{Channel}
use Rattle.amqp_commands.specs.declared.command.Cmd.{Cmd}
use Rattle.amqp_commands.specs.declared.command.Cmd.TheVariants.{OpenChannel, CloseChannel, CloseConnection, UpdateSecret, Send, Publish, Flow, DropChannel, DropConnection, Listen}
use Rattle.amqp_auth.specs.declared.asked.Asked.{Asked as ProviderAnswer}
use Rattle.amqp_auth.specs.declared.asked.Asked.TheVariants as answer
use Rattle.amqp_settings.specs.Config.{Options}
use Rattle.amqp_rules.specs.Talk.{Talk}
use Rattle.amqp_rules.specs.Changes.{queue, lose, next_promise}
use Rattle.amqp_settings.specs.Handshake.{our_close, our_channel_close, new_secret, channel_open, channel_flow, refresh_reason}
use Rattle.amqp_channels.specs.Numbering.{first_number, drawn}
use Rattle.amqp_commands.specs.Publishing.{method_frame, publish_frames}
use Rattle.amqp_rules.specs.Commands.{target, open_drawn, leave_channel, close_target, drop_target, flow_target, queue_secret, update_secret, too_long, unless_too_long, too_full, unless_full, queue_send, send_target, body_limit, queue_publish, publish_target, leave_connection, command, command_rule}
use Rattle.amqp_rules.specs.Ticks.{is_missed, is_heartbeat_due, missing_heartbeat, beat, asks_validity, has_expired, refresh, validity_told, tick}
use Rattle.amqp_faultless.specs.Faultless.{AreSayable, IsShortCommand}
use Rattle.amqp_types.proofs.Small.{if_case}
use Rattle.amqp_faultless.proofs.Fitting.{Fit, fit-control, fit-group, fit-left, fit-ungrouped}
use Rattle.amqp_faultless.proofs.Modest.{Modest, says-queue, says-lose}

-- ---- how long a close is

close-short : (code : ℕ) (text : List ℕ) → length text ≤ 255 → length (encoding (our_close code text)) ≤ 131072
close-short code text le =
    let tail : List ℕ = to_be_bytes w16 0 ++ to_be_bytes w16 0 in
    omega (arith, le, length-append text tail, length-append (text ++ tail) (206 ∷ []))

channel-close-short : (n code : ℕ) (text : List ℕ) → length text ≤ 255 → length (encoding (our_channel_close n code text)) ≤ 131072
channel-close-short n code text le =
    let tail : List ℕ = to_be_bytes w16 0 ++ to_be_bytes w16 0 in
    omega (arith, le, length-append text tail, length-append (text ++ tail) (206 ∷ []))

-- ---- frames none of which is too long

abbrev AreFitting : ℕ → List Frame → Type 0
AreFitting most frames = AllByRecursion (λ (f : Frame). length (encoding f) ≤ most) frames

none-long : (most : ℕ) (frames : List Frame) → find (λ frame. nat_lt most (length (encoding frame))) frames ≡ None → AreFitting most frames
none-long most [] h = tt
none-long most (f ∷ fs) h = by (nat_lt most (length (encoding f))) refl h (λ k. none-long most fs k) where
  by : (b : Bool) → nat_lt most (length (encoding f)) ≡ b → cond b (Some f) (find (λ frame. nat_lt most (length (encoding frame))) fs) ≡ None
      → (find (λ frame. nat_lt most (length (encoding frame))) fs ≡ None → AreFitting most fs) → AreFitting most (f ∷ fs)
  by true is k rest = absurd cc
  by false is k rest = (grind (arith, nat_tests, is), rest k)

fit-frames : (most n : ℕ) (frames : List Frame) (promise : ℕ) → AreFitting most frames → Fit most (group_of n frames promise)
fit-frames most n [] promise h = tt
fit-frames most n (f ∷ []) promise h = (h.0, tt)
fit-frames most n (f ∷ g ∷ fs) promise h = (h.0, fit-frames most n (g ∷ fs) promise h.1)

module _ (options : Options) where
  abbrev M : Talk → Type 0
  M t = Modest options t

  -- ---- commands

  unless : (o : Option Frame) (rule : Talk → Talk) (t : Talk) → M t → (o ≡ None → M (rule t)) → M (unless_too_long o rule t)
  unless None rule t h k = k refl
  unless (Some frame) rule t h k = h

  room : (o : Option ℕ) (rule : Talk → Talk) (t : Talk) → M t → M (rule t) → M (unless_full o rule t)
  room None rule t h k = k
  room (Some octets) rule t h k = h

  brief-drawn : (o : Option ℕ) (first : ℕ) (t : Talk) → M t → M (open_drawn o first t)
  brief-drawn None first t h = h
  brief-drawn (Some n) first t h = says-queue options n (channel_open n) t (omega arith) h

  brief-leave : (n code : ℕ) (text : List ℕ) (c : Channel) (answers : Option ℕ) (t : Talk) → length text ≤ 255 → M t → M (leave_channel n code text c answers t)
  brief-leave n code text c answers t le h =
      let x : Item = plain_item n (our_channel_close n code text) in
      let k = says-queue options n (our_channel_close n code text) t (channel-close-short n code text le) h in
      (h.0, h.1, h.2, fit-left t.capacity (pushed_control x t.outbox) k.3 (λ group. not (is_on n group)))

  brief-close : (r : Result Channel ErrorKind) (n code : ℕ) (text : List ℕ) (t : Talk) → length text ≤ 255 → M t → M (close_target r n code text t)
  brief-close (Err e) n code text t le h = h
  brief-close (Ok c) n code text t le h = brief-leave n code text c (Some (next_promise t)) t le h

  brief-drop : (r : Result Channel ErrorKind) (n : ℕ) (t : Talk) → M t → M (drop_target r n t)
  brief-drop (Err e) n t h = h
  brief-drop (Ok c) n t h = brief-leave n 200 (codes "OK") c None t (omega arith) h

  brief-go : (code : ℕ) (text : List ℕ) (answers : Option ℕ) (t : Talk) → length text ≤ 255 → M t → M (leave_connection code text answers t)
  brief-go code text answers t le h =
      let x : Item = plain_item 0 (our_close code text) in
      let k = says-queue options 0 (our_close code text) t (close-short code text le) h in
      (h.0, h.1, h.2, fit-ungrouped t.capacity (pushed_control x t.outbox) k.3)

  brief-send : (r : Result Channel ErrorKind) (n : ℕ) (m : OtherMethod) (t : Talk) → M t → M (send_target r n m t)
  brief-send (Err e) n m t h = h
  brief-send (Ok c) n m t h =
      let f : Frame = method_frame n m in
      unless (too_long (f ∷ []) t) (unless_full (too_full (f ∷ []) t) (queue_send n f)) t h
      (λ none.
      room (too_full (f ∷ []) t) (queue_send n f) t h
      (h.0, h.1, h.2, fit-control t.capacity t.outbox h.3 (promised_item n f (next_promise t)) (none-long t.capacity (f ∷ []) none).0))

  brief-publish : (r : Result Channel ErrorKind) (n : ℕ) (m : OtherMethod) (properties body : List ℕ) (t : Talk) → M t → M (publish_target r n m properties body t)
  brief-publish (Err e) n m properties body t h = h
  brief-publish (Ok c) n m properties body t h =
      let frames : List Frame = publish_frames n m properties body (body_limit t) in
      unless (too_long frames t) (unless_full (too_full frames t) (queue_publish n frames)) t h
      (λ none. room (too_full frames t) (queue_publish n frames) t h (
        h.0,
        h.1,
        h.2,
        fit-group t.capacity t.outbox h.3 (group_of n frames (next_promise t)) (fit-frames t.capacity n frames (next_promise t) (none-long t.capacity frames none)),
      ))

  brief-flow : (r : Result Channel ErrorKind) (n : ℕ) (active : Bool) (t : Talk) → M t → M (flow_target r n active t)
  brief-flow (Err e) n active t h = h
  brief-flow (Ok c) n active t h = says-queue options n (channel_flow n active) t (omega arith) h

  brief-secret : (secret reason : List ℕ) (t : Talk) → M t → M (update_secret secret reason t)
  brief-secret secret reason t h =
      let f : Frame = new_secret secret reason in
      unless (too_long (f ∷ []) t) (queue_secret f) t h
      (λ none. (h.0, h.1, h.2, fit-control t.capacity t.outbox h.3 (plain_item 0 f) (none-long t.capacity (f ∷ []) none).0))

  brief-rule : (s : ConnectionState) (c : Cmd) (t : Talk) → IsShortCommand c → M t → M (command_rule s c t)
  brief-rule Connected OpenChannel t k h =
      let first = first_number t.configuration.channel_max t.cursor in brief-drawn (drawn t.configuration.channel_max first t.channels) first t h
  brief-rule Connected (CloseChannel r code text) t k h = brief-close (target r word.ChannelClose t) r.id code text t k h
  brief-rule Connected (CloseConnection code text) t k h = brief-go code text (Some (next_promise t)) t k h
  brief-rule Connected (UpdateSecret secret reason) t k h = brief-secret secret reason t h
  brief-rule Connected (Send r method) t k h = brief-send (target r word.Send t) r.id method t h
  brief-rule Connected (Publish r method properties body) t k h = brief-publish (target r word.Publish t) r.id method properties body t h
  brief-rule Connected (Flow r active) t k h = brief-flow (target r word.ChannelFlow t) r.id active t h
  brief-rule Connected (DropChannel r) t k h = brief-drop (target r word.ChannelClose t) r.id t h
  brief-rule Connected DropConnection t k h = brief-go 200 (codes "OK") None t (omega arith) h
  brief-rule Connected Listen t k h = h
  brief-rule held (DropChannel r) t k h = h
  brief-rule held DropConnection t k h = h
  brief-rule held Listen t k h = h
  brief-rule held c t k h = h

  -- a command leaves it so
  pub modest-command : (c : Cmd) (t : Talk) → IsShortCommand c → Modest options t → Modest options (command c t)
  modest-command c t k h = brief-rule t.state c t k h

  -- ---- ticks

  brief-beat : (t : Talk) → M t → M (beat t)
  brief-beat t h =
      let x : Talk = missing_heartbeat t in
      let before : M x = if_case M (is_missed t) (lose MissingHeartbeatError t) t (says-lose options MissingHeartbeatError t h) h in
      if_case M (is_heartbeat_due x) (record (queue 0 Heartbeat x) { last_write = x.present }) x (says-queue options 0 Heartbeat x (omega arith) before) before

  brief-refresh : (answers : List ProviderAnswer) (t : Talk) → AreSayable options answers → M t → M (refresh answers t)
  brief-refresh (answer.Refreshed (Ok secret) ∷ rest) t k h = says-queue options 0 (new_secret secret refresh_reason) t k.0 h
  brief-refresh (answer.Refreshed (Err text) ∷ rest) t k h = h
  brief-refresh _ t k h = h

  brief-validity : (answers : List ProviderAnswer) (t : Talk) → AreSayable options answers → M t → M (validity_told answers t)
  brief-validity (answer.ValidFor time ∷ rest) t k h = if_case M (has_expired time t) (refresh rest t) t (brief-refresh rest t k h) h
  brief-validity _ t k h = h

  -- a tick leaves it so
  pub modest-tick : (answers : List ProviderAnswer) (t : Talk) → AreSayable options answers → Modest options t → Modest options (tick answers t)
  modest-tick answers t k h =
      let x : Talk = beat t in
      let b : M x = brief-beat t h in
      if_case M (asks_validity x) (validity_told answers x) x (brief-validity answers x k b) b
