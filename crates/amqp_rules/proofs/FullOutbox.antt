-- A command is refused because too much would wait exactly where more would wait than may.
use Rattle.std.proofs.Common.{◌≡◌, ◌≢◌, ◌∙◌, ap, sym, refl, subst, true≢false, ℕ, ◌<◌, nat_lt, Bool, true, false, cond, List, [], ◌∷◌, length, Option, Some, None, Result, Ok, Err, is_ok, arith}
use Rattle.std.proofs.lemmas.Bool.Decides.{nat_tests}
use Rattle.amqp_frame.specs.declared.frame.Frame.{Frame}
use Rattle.amqp_frame.specs.Frames.{encoding}
use Rattle.amqp_frame.specs.RawMethods.{OtherMethod}
use Rattle.amqp_types.specs.declared.word.Word.{Word}
use Rattle.amqp_types.specs.declared.word.Word.TheVariants as word
use Rattle.amqp_outbox.specs.Queued.{is_on}
use Rattle.std.specs.Prelude.{filter}
use Rattle.amqp_promise.specs.declared.state.ConnectionState.{ConnectionState}
use Rattle.amqp_promise.specs.declared.state.ConnectionState.TheVariants.{Connected, Closing}
use Rattle.amqp_promise.specs.declared.state.ChannelState.{ChannelState}
use Rattle.amqp_promise.specs.declared.state.ChannelState.TheVariants as channel
use Rattle.amqp_promise.specs.declared.error.ErrorKind.{ErrorKind}
use Rattle.amqp_promise.specs.declared.error.ErrorKind.TheVariants.{ChannelsLimitReached, InvalidChannelState, InvalidConnectionState, OutboxFull, SerialisationError}
use Rattle.amqp_channels.specs.declared.channels.Channel.{Channel}
use Rattle.amqp_commands.specs.declared.command.ChanRef.{ChanRef}
use Rattle.amqp_commands.specs.declared.command.Cmd.{Cmd}
use Rattle.amqp_commands.specs.declared.command.Cmd.TheVariants.{OpenChannel, CloseChannel, CloseConnection, UpdateSecret, Send, Publish, Flow, DropChannel, DropConnection, Listen}
use Rattle.amqp_maps.specs.Listed.{at, put}
use Rattle.amqp_rules.specs.Talk.{Talk}
use Rattle.amqp_channels.specs.Numbering.{first_number, drawn}
use Rattle.amqp_answers.specs.Settled.{Promises}
use Rattle.amqp_rules.specs.Changes.{rejected, refuse}
use Rattle.amqp_settings.specs.Handshake.{new_secret}
use Rattle.amqp_commands.specs.Publishing.{method_frame, publish_frames}
use Rattle.amqp_rules.specs.Commands.{takes_promise, named, target, target_by, target_in, open_as, open_drawn, close_channel, close_target, tell_flow, flow_target, queue_secret, too_long, unless_too_long, waiting_with, above_limit, too_full, unless_full, queue_send, send_target, body_limit, queue_publish, publish_target, close_connection, command, command_rule}
use Rattle.amqp_rules.specs.Laws.{IsAnsweredAtOnce, IsOutboxFull}
use Rattle.amqp_maps.proofs.Numbered.{put-same}
use Rattle.amqp_rules.proofs.Refusals.{same-error}

-- ---- the limit

-- a number that was compared, and is above the limit
abbrev Above : Option ℕ → ℕ → ℕ → Type 0
Above o waiting octets = (octets ≡ waiting) × ((limit : ℕ) × (o ≡ Some limit) × (limit < octets))

-- what is above the limit is the number that was compared
above-is : (o : Option ℕ) (waiting octets : ℕ) → above_limit o waiting ≡ Some octets → Above o waiting octets
above-is None waiting octets h = absurd cc
above-is (Some limit) waiting octets h = by (nat_lt limit waiting) refl h where
  by : (b : Bool) → nat_lt limit waiting ≡ b → cond b (Some waiting) None ≡ Some octets → Above (Some limit) waiting octets
  by true is h =
      let same : octets ≡ waiting = cc in
      (same, (limit, refl, grind (arith, nat_tests, is, same)))
  by false is h = absurd cc

above-there : (o : Option ℕ) (waiting octets limit : ℕ) → octets ≡ waiting → o ≡ Some limit → limit < octets → above_limit o waiting ≡ Some octets
above-there o waiting octets limit same is above =
    let test : nat_lt limit waiting ≡ true = grind (arith, nat_tests, above, same) in
    ap (λ x. above_limit x waiting) is ∙ ap (λ b. cond b (Some waiting) None) test ∙ ap Some (sym same)

module _ (octets : ℕ) (t : Talk) where
  -- the promise is answered with this error at once
  abbrev IsFull : Talk → Type 0
  IsFull u = IsAnsweredAtOnce (OutboxFull octets) t u

  -- ---- what is refused with another error, and what waits

  waits : (u : Talk) (before : Promises) → u.promises ≡ put t.made None before → IsFull u → ⊥
  waits u before is h =
      let there : at t.made u.promises ≡ Some None = ap (at t.made) is ∙ put-same t.made None before in cc

  refuses : (e : ErrorKind) → e ≢ OutboxFull octets → IsFull (refuse e t) → ⊥
  refuses e other h = other (same-error t (OutboxFull octets) e (refuse e t).promises refl h)

  in-other : (s : ChannelState) (w : Word) (c : Channel) (e : ErrorKind) → target_in s w c ≡ Err e → e ≢ OutboxFull octets
  in-other channel.Connected w c e is same = absurd cc
  in-other held w c e is same = absurd cc

  by-other : (o : Option Channel) (n : ℕ) (w : Word) (e : ErrorKind) → target_by o n w ≡ Err e → e ≢ OutboxFull octets
  by-other None n w e is same = absurd cc
  by-other (Some c) n w e is same = in-other c.state w c e is same

  drawn-not : (o : Option ℕ) (first : ℕ) → IsFull (open_drawn o first t) → ⊥
  drawn-not None first h = refuses ChannelsLimitReached (λ same. absurd cc) h
  drawn-not (Some n) first h = waits (open_as n t) t.promises refl h

  close-not : (r : ChanRef) (o : Result Channel ErrorKind) (code : ℕ) (text : List ℕ) → target r word.ChannelClose t ≡ o
      → IsFull (close_target o r.id code text t) → ⊥
  close-not r (Err e) code text is h = refuses e (by-other (named r t) r.id word.ChannelClose e is) h
  close-not r (Ok c) code text is h =
      waits (close_channel r.id code text c t) (rejected (InvalidChannelState channel.Closing word.ChannelClose) (filter (is_on r.id) t.outbox.publish) t.promises) refl h

  flow-not : (r : ChanRef) (o : Result Channel ErrorKind) (active : Bool) → target r word.ChannelFlow t ≡ o → IsFull (flow_target o r.id active t) → ⊥
  flow-not r (Err e) active is h = refuses e (by-other (named r t) r.id word.ChannelFlow e is) h
  flow-not r (Ok c) active is h = waits (tell_flow r.id active t) t.promises refl h

  secret-not : (o : Option Frame) (frame : Frame) → IsFull (unless_too_long o (queue_secret frame) t) → ⊥
  secret-not (Some long) frame h = refuses (SerialisationError (length (encoding long))) (λ same. absurd cc) h
  secret-not None frame h = waits (queue_secret frame t) t.promises refl h

  -- ---- what is sent

  -- frames that are queued are refused so only where none is too long and too much would wait
  frames-only : (frames : List Frame) (rule : Talk → Talk) (long : Option Frame) (full : Option ℕ) → (rule t).promises ≡ put t.made None t.promises
      → IsFull (unless_too_long long (unless_full full rule) t) → (long ≡ None) × (full ≡ Some octets)
  frames-only frames rule (Some frame) full queued h = absurd (refuses (SerialisationError (length (encoding frame))) (λ same. absurd cc) h)
  frames-only frames rule None None queued h = absurd (waits (rule t) t.promises queued h)
  frames-only frames rule None (Some k) queued h =
      let same : OutboxFull k ≡ OutboxFull octets = same-error t (OutboxFull octets) (OutboxFull k) (refuse (OutboxFull k) t).promises refl h in
      (refl, cc)

  frames-there : (frames : List Frame) (rule : Talk → Talk) → too_long frames t ≡ None → too_full frames t ≡ Some octets
      → IsFull (unless_too_long (too_long frames t) (unless_full (too_full frames t) rule) t)
  frames-there frames rule fits full =
      let P : Option Frame → Option ℕ → Type 0 = λ long more. IsFull (unless_too_long long (unless_full more rule) t) in
      subst (λ long. P long (too_full frames t)) (sym fits)
      (subst (P None) (sym full) (put-same t.made (Some (Err (OutboxFull octets))) t.promises))

  send-only : (r : ChanRef) (m : OtherMethod) (o : Result Channel ErrorKind) → t.state ≡ Connected → target r word.Send t ≡ o → IsFull (send_target o r.id m t)
      → IsOutboxFull octets (Send r m) t
  send-only r m (Err e) connected is h = absurd (refuses e (by-other (named r t) r.id word.Send e is) h)
  send-only r m (Ok c) connected is h =
      let frames : List Frame = method_frame r.id m ∷ [] in
      let k = frames-only frames (queue_send r.id (method_frame r.id m)) (too_long frames t) (too_full frames t) refl h in
      let a = above-is t.config.options.outbox_limit (waiting_with frames t) octets k.1 in
      record { connected = connected; channel = ap is_ok is; fits = k.0; counted = a.0; above = a.1 }

  publish-only : (r : ChanRef) (m : OtherMethod) (properties body : List ℕ) (o : Result Channel ErrorKind) → t.state ≡ Connected → target r word.Publish t ≡ o
      → IsFull (publish_target o r.id m properties body t) → IsOutboxFull octets (Publish r m properties body) t
  publish-only r m properties body (Err e) connected is h = absurd (refuses e (by-other (named r t) r.id word.Publish e is) h)
  publish-only r m properties body (Ok c) connected is h =
      let frames : List Frame = publish_frames r.id m properties body (body_limit t) in
      let k = frames-only frames (queue_publish r.id frames) (too_long frames t) (too_full frames t) refl h in
      let a = above-is t.config.options.outbox_limit (waiting_with frames t) octets k.1 in
      record { connected = connected; channel = ap is_ok is; fits = k.0; counted = a.0; above = a.1 }

  rule-only : (s : ConnectionState) (c : Cmd) → t.state ≡ s → takes_promise c ≡ true → IsFull (command_rule s c t) → IsOutboxFull octets c t
  rule-only Connected OpenChannel is takes h =
      let first = first_number t.configuration.channel_max t.cursor in absurd (drawn-not (drawn t.configuration.channel_max first t.channels) first h)
  rule-only Connected (CloseChannel r code text) is takes h = absurd (close-not r (target r word.ChannelClose t) code text refl h)
  rule-only Connected (CloseConnection code text) is takes h =
      absurd (waits (close_connection code text t) (rejected (InvalidConnectionState Closing) t.outbox.publish t.promises) refl h)
  rule-only Connected (UpdateSecret secret reason) is takes h = absurd (secret-not (too_long (new_secret secret reason ∷ []) t) (new_secret secret reason) h)
  rule-only Connected (Send r method) is takes h = send-only r method (target r word.Send t) is refl h
  rule-only Connected (Publish r method properties body) is takes h = publish-only r method properties body (target r word.Publish t) is refl h
  rule-only Connected (Flow r active) is takes h = absurd (flow-not r (target r word.ChannelFlow t) active refl h)
  rule-only _ (DropChannel r) is takes h = absurd cc
  rule-only _ DropConnection is takes h = absurd cc
  rule-only _ Listen is takes h = absurd cc
  rule-only s c is takes h = absurd (refuses (InvalidConnectionState s) (λ same. absurd cc) h)

  -- only where too much would wait is a command refused so
  pub full-only : (c : Cmd) → takes_promise c ≡ true → IsFull (command c t) → IsOutboxFull octets c t
  full-only c takes h = rule-only t.state c refl takes h

  send-there : (r : ChanRef) (m : OtherMethod) (o : Result Channel ErrorKind) → target r word.Send t ≡ o → IsOutboxFull octets (Send r m) t
      → IsFull (send_target o r.id m t)
  send-there r m (Err e) is full = absurd (true≢false (sym full.channel ∙ ap is_ok is))
  send-there r m (Ok c) is full =
      let frames : List Frame = method_frame r.id m ∷ [] in
      let a = full.above in
      frames-there frames (queue_send r.id (method_frame r.id m)) full.fits
      (above-there t.config.options.outbox_limit (waiting_with frames t) octets a.0 full.counted a.1 a.2)

  publish-there : (r : ChanRef) (m : OtherMethod) (properties body : List ℕ) (o : Result Channel ErrorKind) → target r word.Publish t ≡ o
      → IsOutboxFull octets (Publish r m properties body) t → IsFull (publish_target o r.id m properties body t)
  publish-there r m properties body (Err e) is full = absurd (true≢false (sym full.channel ∙ ap is_ok is))
  publish-there r m properties body (Ok c) is full =
      let frames : List Frame = publish_frames r.id m properties body (body_limit t) in
      let a = full.above in
      frames-there frames (queue_publish r.id frames) full.fits
      (above-there t.config.options.outbox_limit (waiting_with frames t) octets a.0 full.counted a.1 a.2)

  rule-there : (c : Cmd) → IsOutboxFull octets c t → IsFull (command_rule Connected c t)
  rule-there (Send r method) full = send-there r method (target r word.Send t) refl full
  rule-there (Publish r method properties body) full = publish-there r method properties body (target r word.Publish t) refl full
  rule-there _ full = absurd full.channel

  -- where too much would wait, a command is refused so
  pub full-there : (c : Cmd) → IsOutboxFull octets c t → IsFull (command c t)
  full-there c full = subst (λ s. IsFull (command_rule s c t)) (sym full.connected) (rule-there c full)
