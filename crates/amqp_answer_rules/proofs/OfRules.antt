-- What each rule beside frames does to promises.
use Rattle.std.proofs.Common.{◌≡◌, ◌≢◌, ◌⊎◌, ◌≤◌, ◌==◌, ◌&&◌, not, inl, inr, ℕ, zero, suc, ◌-◌, nat_le, IsOk, if◌then◌else◌, Bool, true, false, List, [], ◌∷◌, Option, Some, None, is_some, Result, Ok, Err, refl, ap, sym, ◌∙◌, subst, arith}
use Rattle.std.specs.Prelude.{codes, drop, filter, map}
use Rattle.amqp_types.specs.declared.error.AMQPError.{AMQPError}
use Rattle.amqp_types.specs.declared.word.Word.TheVariants as word
use Rattle.amqp_frame.specs.declared.frame.Frame.{Frame}
use Rattle.amqp_frame.specs.declared.frame.Frame.TheVariants.{Heartbeat}
use Rattle.amqp_frame.specs.RawMethods.{OtherMethod}
use Rattle.amqp_outbox.specs.declared.item.Item.{Item}
use Rattle.amqp_outbox.specs.Items.{promise_of_group}
use Rattle.amqp_outbox.specs.Queued.{is_on}
use Rattle.amqp_promise.specs.declared.io_fault.IoFault.{IoFault}
use Rattle.amqp_promise.specs.declared.state.ConnectionState.{ConnectionState}
use Rattle.amqp_promise.specs.declared.state.ConnectionState.TheVariants.{Connected}
use Rattle.amqp_promise.specs.declared.state.ConnectionState.TheVariants as connection
use Rattle.amqp_promise.specs.declared.state.ChannelState.TheVariants as channel
use Rattle.amqp_promise.specs.declared.error.ErrorKind.{ErrorKind}
use Rattle.amqp_promise.specs.declared.error.ErrorKind.TheVariants.{IOError, InvalidChannelState, InvalidConnectionState, MissingHeartbeatError, NoMemory, ProtocolError, SerialisationError}
use Rattle.amqp_auth.specs.declared.asked.Asked.{Asked}
use Rattle.amqp_channels.specs.declared.channels.Channel.{Channel}
use Rattle.amqp_answers.specs.declared.answer.Answer.{Answer}
use Rattle.amqp_answers.specs.declared.answer.Answer.TheVariants.{Sent}
use Rattle.amqp_commands.specs.declared.command.ChanRef.{ChanRef}
use Rattle.amqp_commands.specs.declared.command.Cmd.{Cmd}
use Rattle.amqp_commands.specs.declared.command.Cmd.TheVariants.{OpenChannel, CloseChannel, CloseConnection, UpdateSecret, Send, Publish, Flow, DropChannel, DropConnection, Listen}
use Rattle.amqp_outgoing.specs.declared.committed.Mark.{Mark}
use Rattle.amqp_outgoing.specs.declared.committed.Then.{Then}
use Rattle.amqp_outgoing.specs.declared.committed.Then.TheVariants.{Nothing, Answer as Answers, Pays, Finish}
use Rattle.amqp_answers.specs.declared.event.Event.{Event}
use Rattle.amqp_violations.specs.declared.misread.Misread.{Misread}
use Rattle.amqp_violations.specs.declared.server_close.ServerClose.{ServerClose}
use Rattle.amqp_violations.specs.declared.server_close.ServerClose.TheVariants.{WithoutError, WithError}
use Rattle.amqp_maps.specs.Listed.{at, put, without}
use Rattle.amqp_rules.specs.Talk.{Talk, acts, has_ended, is_asked, is_open, end_of}
use Rattle.amqp_rules.specs.Recovery.{delayed, next_delay}
use Rattle.amqp_answers.specs.Settled.{Promises, settled}
use Rattle.amqp_rules.specs.Changes.{fail, finish, finish_by, give, lose, present_at, promise, queue, rejected, starve}
use Rattle.amqp_rules.specs.Links.{asked, dropped, link_failed, linked, lost, misread, piece, refused_after}
use Rattle.amqp_violations.specs.Violations.{misread_error}
use Rattle.amqp_rules.specs.Ticks.{beat, is_heartbeat_due, is_missed, missing_heartbeat, refreshed, timed, tick}
use Rattle.amqp_rules.specs.Channels.{channel_at}
use Rattle.amqp_commands.specs.Publishing.{method_frame, publish_frames}
use Rattle.amqp_settings.specs.Handshake.{new_secret}
use Rattle.amqp_rules.specs.Commands.{body_limit, close_target, command, command_rule, drop_target, flow_target, leave_channel, leave_connection, open_drawn, publish_target, queue_publish, queue_secret, queue_send, send_target, takes_promise, target, too_full, too_long, unless_full, unless_too_long, update_secret}
use Rattle.amqp_rules.specs.Writing.{channel_close_ok_sent, end_overlong, follow, next_frame, next_within, commit, committed_as, overlong, sent, sent_among, taken}
use Rattle.amqp_rules.specs.Answers.{answer_of, end_event, take_answer, take_event, take_frames, without_event}
use Rattle.amqp_rules.proofs.Heard.{secret-case}
use Rattle.amqp_rules.proofs.Keeping.{off-finish}
use Rattle.amqp_rules.proofs.Sending.{pay-keeps, sent_among-closed}
use Rattle.amqp_maps.proofs.Numbered.{put-other, without-other}
use Rattle.amqp_types.proofs.Small.{and-other, at-most, if_by, if_case, if-false, is-at-most, the-number}
use Rattle.amqp_answer_rules.specs.Answering.{HasAnswer, IsLetGo, IsLost, IsNamed, IsSent, IsServerClose, IsSettledFor, IsTakenAnswer, KeepsPromises, LeavesPromises, SettlesFor, IsWaiting}
use Rattle.amqp_answer_rules.proofs.Slots.{Has, IsKept, Loses, Settle, groups-has, has-still, kept-settled, leaves-all, settled-has, settled-kept, settle-one, settle-groups, settled-told, settles-lost, settles-then}
use Rattle.amqp_answer_rules.proofs.OfFrames.{frame-settles}
use Rattle.amqp_answer_rules.proofs.FrameAnswers.{frame-answers}

-- ---- numbers

from-not-false : (b : Bool) → not b ≡ false → b ≡ true
from-not-false true h = refl
from-not-false false h = cc

some-not-zero : (n : ℕ) → 1 ≤ n → (n == 0) ≡ true → ⊥
some-not-zero n some h = let none : n ≡ 0 = the-number n 0 h in omega (arith, some, none)

-- ---- rules that change no promise

leaves : (t : Talk) → LeavesPromises t t
leaves t = record { same = refl; made = refl }

present-leaves : (at : ℕ) (t : Talk) → LeavesPromises t (present_at at t)
present-leaves at t = if_case (LeavesPromises t) (has_ended t) t _ (leaves t) (record { same = refl; made = refl })

linked-leaves : (t : Talk) → LeavesPromises t (linked t)
linked-leaves t = if_case (LeavesPromises t) (is_asked t) _ t (record { same = refl; made = refl }) (leaves t)

refused-leaves : (o : Option ℕ) (t : Talk) → LeavesPromises t (refused_after o t)
refused-leaves None t = record { same = refl; made = refl }
refused-leaves (Some delay) t = record { same = refl; made = refl }

failed-leaves : (t : Talk) → LeavesPromises t (link_failed t)
failed-leaves t = if_case (LeavesPromises t) (is_asked t) (refused_after (next_delay t) t) t (refused-leaves (next_delay t) t) (leaves t)

piece-leaves : (t : Talk) → LeavesPromises t (piece t)
piece-leaves t = if_case (LeavesPromises t) (is_open t) _ t (record { same = refl; made = refl }) (leaves t)

starve-leaves : (t : Talk) → LeavesPromises t (starve t)
starve-leaves t = if_case (LeavesPromises t) (has_ended t) t (fail NoMemory t) (leaves t) (record { same = refl; made = refl })

event-leaves : (kept at_end : List Event) (t : Talk) → LeavesPromises t (without_event kept at_end t)
event-leaves (event ∷ later) at_end t = record { same = refl; made = refl }
event-leaves [] (event ∷ later) t = record { same = refl; made = refl }
event-leaves [] [] t = leaves t

-- ---- rules by which a link may be lost

module _ (P : ℕ → Result Answer ErrorKind → Type 0) (t : Talk) where
  -- what stands beside promises is no matter
  beside : (u v : Talk) → v.promises ≡ u.promises → v.made ≡ u.made → SettlesFor P t u → SettlesFor P t v
  beside u v same made h = record { each = subst (Settle P t.promises) (sym same) h.each; made = made ∙ h.made }

  -- what follows the server's close
  finish-settles : (o : Option ServerClose) (u : Talk) → ((e : AMQPError) → o ≡ Some (WithError e) → Loses P (ProtocolError e)) → SettlesFor P t u
      → SettlesFor P t (finish_by o u)
  finish-settles None u p h = record { each = h.each; made = h.made }
  finish-settles (Some WithoutError) u p h = record { each = h.each; made = h.made }
  finish-settles (Some (WithError e)) u p h = settles-then P t u (lose (ProtocolError e) u) h (settles-lost P (ProtocolError e) u (p e refl))

misread-settles : (why : Misread) (t : Talk) → SettlesFor (IsLost (λ error. error ≡ misread_error why)) t (misread why t)
misread-settles why t =
    let P : ℕ → Result Answer ErrorKind → Type 0 = IsLost (λ error. error ≡ misread_error why) in
    if_case (SettlesFor P t) (acts t) (lose (misread_error why) t) (if is_open t then record t { input = dropped t.input } else t)
    (settles-lost P (misread_error why) t (λ k other. (other, refl)))
    (if_case (SettlesFor P t) (is_open t) (record t { input = dropped t.input }) t (record { each = λ number. inl refl; made = refl }) (leaves-all P t))

lost-settles : (fault : IoFault) (t : Talk) → SettlesFor (IsLost (λ error. (error ≡ IOError fault) ⊎ IsServerClose t error)) t (lost fault t)
lost-settles fault t =
    let P : ℕ → Result Answer ErrorKind → Type 0 = IsLost (λ error. (error ≡ IOError fault) ⊎ IsServerClose t error) in
    if_case (SettlesFor P t) (acts t) (lose (IOError fault) t) (if is_open t then finish t else t)
    (settles-lost P (IOError fault) t (λ k other. (other, inl refl)))
    (if_case (SettlesFor P t) (is_open t) (finish t) t
    (finish-settles P t t.server_close t (λ e closed k other. (other, inr (e, closed, refl))) (leaves-all P t)) (leaves-all P t))

tick-settles : (answers : List Asked) (t : Talk) → SettlesFor (IsLost (λ error. error ≡ MissingHeartbeatError)) t (tick answers t)
tick-settles answers t =
    let P : ℕ → Result Answer ErrorKind → Type 0 = IsLost (λ error. error ≡ MissingHeartbeatError) in
    let x : Talk = missing_heartbeat t in
    let missed : SettlesFor P t x =
    if_case (SettlesFor P t) (is_missed t) (lose MissingHeartbeatError t) t (settles-lost P MissingHeartbeatError t (λ k other. (other, refl))) (leaves-all P t) in
    let beats : SettlesFor P t (beat t) =
    if_case (SettlesFor P t) (is_heartbeat_due x) (record (queue 0 Heartbeat x) { last_write = x.present }) x
    (record { each = missed.each; made = missed.made }) missed in
    let told : SettlesFor P t (timed answers t) = secret-case (SettlesFor P t) answers (beat t) beats (λ asks said. said-settles said beats) in
    record { each = told.each; made = told.made }
  where
    said-settles : (said : Result (List ℕ) (List ℕ)) → SettlesFor (IsLost (λ error. error ≡ MissingHeartbeatError)) t (beat t)
        → SettlesFor (IsLost (λ error. error ≡ MissingHeartbeatError)) t (refreshed said (beat t))
    said-settles (Ok secret) h = record { each = h.each; made = h.made }
    said-settles (Err text) h = record { each = h.each; made = h.made }

-- ---- writing

overlong-settles : (o : Option ℕ) (P : ℕ → Result Answer ErrorKind → Type 0) (t u : Talk) → ((size : ℕ) → o ≡ Some size → Loses P (SerialisationError size)) → SettlesFor P t u
    → SettlesFor P t (end_overlong o u)
overlong-settles None P t u p h = h
overlong-settles (Some size) P t u p h = settles-then P t u (lose (SerialisationError size) u) h (settles-lost P (SerialisationError size) u (p size refl))

next-settles : (space : ℕ) (t : Talk)
    → SettlesFor (IsLost (λ error. (size : ℕ) × (overlong t ≡ Some size) × (error ≡ SerialisationError size))) t (next_frame space t)
next-settles space t =
    let P : ℕ → Result Answer ErrorKind → Type 0 = IsLost (λ error. (size : ℕ) × (overlong t ≡ Some size) × (error ≡ SerialisationError size)) in
    overlong-settles (overlong t) P t (commit space t) (λ size is k other. (other, (size, is, refl))) (committed (next_within space t))
  where
    committed : (o : Option _) → SettlesFor (IsLost (λ error. (size : ℕ) × (overlong t ≡ Some size) × (error ≡ SerialisationError size))) t (committed_as o t)
    committed None = leaves-all _ t
    committed (Some item) = record { each = λ number. inl refl; made = refl }

module _ (t : Talk) (all : ℕ) where
  abbrev P : ℕ → Result Answer ErrorKind → Type 0
  P = IsTakenAnswer all t

  -- these frames, of which so many bytes are sent, are the last that were committed
  abbrev Among : List Mark → ℕ → Type 0
  Among ms n = (k : ℕ) (given : Result Answer ErrorKind) → IsSent ms n k given → IsSent t.committed all k given

  -- what follows once a frame was sent, by what comes of the frames behind it
  follows : (ms : List Mark) (n : ℕ) (x : Talk) → x.server_close ≡ t.server_close → SettlesFor P t x
      → ((u : Talk) → u.server_close ≡ t.server_close → SettlesFor P t u → SettlesFor P t (sent_among ms n u))
      → (th : Then) → ((k : ℕ) → th ≡ Answers k → P k (Ok Sent)) → SettlesFor P t (sent_among ms n (follow th x))
  follows ms n x closed h later Nothing g = later x closed h
  follows ms n x closed h later (Answers number) g =
      later (give number (Ok Sent) x) closed
      (settles-then P t x (give number (Ok Sent) x) h (record { each = settle-one P number (Ok Sent) x.promises (g number refl); made = refl }))
  follows ms n x closed h later (Pays c) g =
      let same : (channel_close_ok_sent c x).promises ≡ x.promises = pay-keeps (λ (y : Talk). y.promises) (λ y cs ns. refl) (channel_at c x) c x in
      let made : (channel_close_ok_sent c x).made ≡ x.made = pay-keeps (λ (y : Talk). y.made) (λ y cs ns. refl) (channel_at c x) c x in
      let close : (channel_close_ok_sent c x).server_close ≡ x.server_close = pay-keeps (λ (y : Talk). y.server_close) (λ y cs ns. refl) (channel_at c x) c x in
      later (channel_close_ok_sent c x) (close ∙ closed) (beside P t x (channel_close_ok_sent c x) same made h)
  follows ms n x closed h later Finish g =
      subst (SettlesFor P t) (sym (sent_among-closed ms n (finish x) (off-finish x.server_close x).opened))
      (finish-settles P t x.server_close x (λ e is k other. inr (other, (e, sym closed ∙ is, refl))) h)

  sent-settles : (ms : List Mark) (n : ℕ) (u : Talk) → Among ms n → u.server_close ≡ t.server_close → SettlesFor P t u → SettlesFor P t (sent_among ms n u)
  sent-settles [] n u among closed h = h
  sent-settles (m ∷ ms) n u among closed h =
      if_case (SettlesFor P t) (is_open u)
      (if nat_le m.left n then sent_among ms (n - m.left) (sent m u) else record u { committed = record m { left = m.left - n } ∷ ms }) u
      (if_by (SettlesFor P t) (nat_le m.left n) (sent_among ms (n - m.left) (sent m u)) (record u { committed = record m { left = m.left - n } ∷ ms })
      (λ fits. follows ms (n - m.left) (record u { committed = drop 1 u.committed }) closed (record { each = h.each; made = h.made })
      (λ v same k. sent-settles ms (n - m.left) v (λ number given is. among number given (at-most m.left n fits, inr is)) same k) m.then
      (λ k is. inl (among k (Ok Sent) (at-most m.left n fits, inl (is, refl)))))
      (λ over. record { each = h.each; made = h.made })) h

  taken-settles : SettlesFor P t (taken all t)
  taken-settles = if_case (SettlesFor P t) _ (sent_among t.committed all (record t { last_write = t.present })) t
      (sent-settles t.committed all (record t { last_write = t.present }) (λ k given is. is) refl (record { each = λ number. inl refl; made = refl })) (leaves-all P t)

-- ---- that what was sent is answered

module _ (number : ℕ) where
  -- what follows a frame keeps what waits, or has its answer
  follow-kept : (th : Then) (x : Talk) → IsKept number x.promises → IsKept number (follow th x).promises
  follow-kept Nothing x h = h
  follow-kept (Answers k) x h = settled-kept number k (Ok Sent) x.promises h
  follow-kept (Pays c) x h = subst (IsKept number) (sym (pay-keeps (λ (y : Talk). y.promises) (λ y cs ns. refl) (channel_at c x) c x)) h
  follow-kept Finish x h =
      kept-settled number x.promises (finish x).promises (finish-settles (λ k b. Unit {0}) x x.server_close x (λ e is k other. tt) (leaves-all (λ k b. Unit {0}) x)).each h

  -- the answer of a frame before is kept by those behind
  behind-has : (ms : List Mark) (n : ℕ) (u : Talk) → Has number u.promises → Has number (sent_among ms n u).promises
  behind-has [] n u h = h
  behind-has (m ∷ ms) n u h =
      if_case (λ (x : Talk). Has number x.promises) (is_open u)
      (if nat_le m.left n then sent_among ms (n - m.left) (sent m u) else record u { committed = record m { left = m.left - n } ∷ ms }) u
      (if_case (λ (x : Talk). Has number x.promises) (nat_le m.left n) (sent_among ms (n - m.left) (sent m u))
      (record u { committed = record m { left = m.left - n } ∷ ms })
      (behind-has ms (n - m.left) (sent m u) (follow-has m.then (record u { committed = drop 1 u.committed }) h)) h) h
    where
      follow-has : (th : Then) (x : Talk) → Has number x.promises → Has number (follow th x).promises
      follow-has Nothing x k = k
      follow-has (Answers j) x k = has-still number x.promises (settled j (Ok Sent) x.promises) (settle-one (λ i b. Unit {0}) j (Ok Sent) x.promises tt) k
      follow-has (Pays c) x k = subst (Has number) (sym (pay-keeps (λ (y : Talk). y.promises) (λ y cs ns. refl) (channel_at c x) c x)) k
      follow-has Finish x k =
          has-still number x.promises (finish x).promises
          (finish-settles (λ i b. Unit {0}) x x.server_close x (λ e is j other. tt) (leaves-all (λ i b. Unit {0}) x)).each k

  -- frames answer, where one of them does
  abbrev Answering : List Mark → ℕ → Result Answer ErrorKind → Talk → Type 0
  Answering ms n given x = IsSent ms n number given → is_open (sent_among ms n x) ≡ true → Has number (sent_among ms n x).promises

  sent-has : (ms : List Mark) (n : ℕ) (given : Result Answer ErrorKind) (u : Talk) → is_open (sent_among ms n u) ≡ true → IsSent ms n number given → IsKept number u.promises
      → Has number (sent_among ms n u).promises
  sent-has [] n given u opened is h = absurd is
  sent-has (m ∷ ms) n given u opened (fits, is) h =
      by (is_open u) refl (nat_le m.left n) (is-at-most m.left n fits) opened
      (λ there still. sent-has ms (n - m.left) given (sent m u) still there (follow-kept m.then (record u { committed = drop 1 u.committed }) h))
    where
      next : ((m.then ≡ Answers number) × (given ≡ Ok Sent)) ⊎ IsSent ms (n - m.left) number given → is_open (sent_among ms (n - m.left) (sent m u)) ≡ true → Answering ms (n - m.left) given (sent m u)
          → Has number (sent_among ms (n - m.left) (sent m u)).promises
      next (inl now) still behind =
          let x : Talk = record u { committed = drop 1 u.committed } in
          behind-has ms (n - m.left) (sent m u)
          (subst (λ (th : Then). Has number (follow th x).promises) (sym now.0) (settled-has number (Ok Sent) u.promises h))
      next (inr later) still behind = behind later still

      by : (b : Bool) → is_open u ≡ b → (l : Bool) → l ≡ true
          → is_open (if b then (if l then sent_among ms (n - m.left) (sent m u) else record u { committed = record m { left = m.left - n } ∷ ms }) else u) ≡ true → Answering ms (n - m.left) given (sent m u)
          → Has number (if b then (if l then sent_among ms (n - m.left) (sent m u) else record u { committed = record m { left = m.left - n } ∷ ms }) else u).promises
      by true e true le still behind = next is still behind
      by true e false le still behind = cc
      by false e l le still behind = (let clash : true ≡ false = sym still ∙ e in cc)

  taken-has : (n : ℕ) (given : Result Answer ErrorKind) (t : Talk) → is_open (taken n t) ≡ true → 1 ≤ n → IsSent t.committed n number given → IsWaiting number t
      → HasAnswer number (taken n t)
  taken-has n given t opened some is waits = by (is_open t && not (n == 0)) refl opened where
    u : Talk
    u = record t { last_write = t.present }

    by : (b : Bool) → (is_open t && not (n == 0)) ≡ b → is_open (if b then sent_among t.committed n u else t) ≡ true
        → HasAnswer number (if b then sent_among t.committed n u else t)
    by true e still = sent-has t.committed n given u still is (inl waits)
    by false e still =
        let none : (n == 0) ≡ true = from-not-false (n == 0) (and-other (is_open t) (not (n == 0)) still e) in
        absurd (some-not-zero n some none)

-- ---- commands: beside the promise that is made

module _ (t : Talk) (number : ℕ) (other : number ≢ t.made) where
  -- this promise, by what the command does to those before the one that it makes
  abbrev Beside : Cmd → Talk → Type 0
  Beside cmd u = IsSettledFor (IsLetGo cmd t number) (at number t.promises) (at number u.promises)

  made-beside : (cmd : Cmd) (held : Option (Result Answer ErrorKind)) → IsSettledFor (IsLetGo cmd t number) (at number t.promises) (at number (put t.made held t.promises))
  made-beside cmd held = inl (put-other number t.made held t.promises other)

  -- where groups go before
  gone-beside : (cmd : Cmd) (e : ErrorKind) (groups : List (List Item)) (held : Option (Result Answer ErrorKind))
      → ((k : ℕ) → IsNamed k (map promise_of_group groups) → IsLetGo cmd t k (Err e))
      → IsSettledFor (IsLetGo cmd t number) (at number t.promises) (at number (put t.made held (rejected e groups t.promises)))
  gone-beside cmd e groups held p =
      let after : Promises = rejected e groups t.promises in
      settled-told (IsLetGo cmd t number) (at number t.promises) (at number t.promises) (at number after) (at number (put t.made held after)) refl
      (put-other number t.made held after other) (settle-groups (IsLetGo cmd t) e groups t.promises p number)

  drawn-beside : (cmd : Cmd) (o : Option ℕ) (first : ℕ) → Beside cmd (open_drawn o first t)
  drawn-beside cmd None first = made-beside cmd _
  drawn-beside cmd (Some n) first = made-beside cmd _

  unless-beside : (cmd : Cmd) (o : Option Frame) (rule : Talk → Talk) → Beside cmd (rule t) → Beside cmd (unless_too_long o rule t)
  unless-beside cmd None rule h = h
  unless-beside cmd (Some frame) rule h = made-beside cmd _

  room-beside : (cmd : Cmd) (o : Option ℕ) (rule : Talk → Talk) → Beside cmd (rule t) → Beside cmd (unless_full o rule t)
  room-beside cmd None rule h = h
  room-beside cmd (Some octets) rule h = made-beside cmd _

  -- what goes with a channel that is closed, where it was found
  abbrev Goes : Cmd → Result Channel ErrorKind → ℕ → Type 0
  Goes cmd o n =
      IsOk o → (k : ℕ) → IsNamed k (map promise_of_group (filter (is_on n) t.outbox.publish))
      → IsLetGo cmd t k (Err (InvalidChannelState channel.Closing word.ChannelClose))

  close-beside : (cmd : Cmd) (o : Result Channel ErrorKind) (n code : ℕ) (text : List ℕ) → Goes cmd o n → Beside cmd (close_target o n code text t)
  close-beside cmd (Err e) n code text p = made-beside cmd _
  close-beside cmd (Ok c) n code text p = gone-beside cmd _ (filter (is_on n) t.outbox.publish) _ (p refl)

  drop-beside : (cmd : Cmd) (o : Result Channel ErrorKind) (n : ℕ) → Goes cmd o n → Beside cmd (drop_target o n t)
  drop-beside cmd (Err e) n p = inl refl
  drop-beside cmd (Ok c) n p = settle-groups (IsLetGo cmd t) _ (filter (is_on n) t.outbox.publish) t.promises (p refl) number

  send-beside : (cmd : Cmd) (r : Result Channel ErrorKind) (n : ℕ) (m : OtherMethod) → Beside cmd (send_target r n m t)
  send-beside cmd (Err e) n m = made-beside cmd _
  send-beside cmd (Ok c) n m =
      let fs : List Frame = method_frame n m ∷ [] in
      let rule : Talk → Talk = queue_send n (method_frame n m) in
      unless-beside cmd (too_long fs t) (unless_full (too_full fs t) rule) (room-beside cmd (too_full fs t) rule (made-beside cmd _))

  publish-beside : (cmd : Cmd) (r : Result Channel ErrorKind) (n : ℕ) (m : OtherMethod) (properties body : List ℕ)
      → Beside cmd (publish_target r n m properties body t)
  publish-beside cmd (Err e) n m properties body = made-beside cmd _
  publish-beside cmd (Ok c) n m properties body =
      let fs : List Frame = publish_frames n m properties body (body_limit t) in
      let rule : Talk → Talk = queue_publish n fs in
      unless-beside cmd (too_long fs t) (unless_full (too_full fs t) rule) (room-beside cmd (too_full fs t) rule (made-beside cmd _))

  flow-beside : (cmd : Cmd) (r : Result Channel ErrorKind) (n : ℕ) (active : Bool) → Beside cmd (flow_target r n active t)
  flow-beside cmd (Err e) n active = made-beside cmd _
  flow-beside cmd (Ok c) n active = made-beside cmd _

  rule-beside : (s : ConnectionState) (cmd : Cmd) → t.state ≡ s → Beside cmd (command_rule s cmd t)
  rule-beside Connected OpenChannel held = drawn-beside OpenChannel _ _
  rule-beside Connected (CloseChannel r code text) held =
      close-beside (CloseChannel r code text) (target r word.ChannelClose t) r.id code text (λ ok k is. (held, ok, is, refl))
  rule-beside Connected (CloseConnection code text) held = gone-beside (CloseConnection code text) _ t.outbox.publish _ (λ k is. (held, is, refl))
  rule-beside Connected (UpdateSecret secret reason) held =
      let f : Frame = new_secret secret reason in
      unless-beside (UpdateSecret secret reason) (too_long (f ∷ []) t) (queue_secret f) (made-beside (UpdateSecret secret reason) _)
  rule-beside Connected (Send r m) held = send-beside (Send r m) (target r word.Send t) r.id m
  rule-beside Connected (Publish r m properties body) held = publish-beside (Publish r m properties body) (target r word.Publish t) r.id m properties body
  rule-beside Connected (Flow r active) held = flow-beside (Flow r active) (target r word.ChannelFlow t) r.id active
  rule-beside Connected (DropChannel r) held = drop-beside (DropChannel r) (target r word.ChannelClose t) r.id (λ ok k is. (held, ok, is, refl))
  rule-beside Connected DropConnection held =
      settle-groups (IsLetGo DropConnection t) _ t.outbox.publish t.promises (λ k is. (held, is, refl)) number
  rule-beside s (DropChannel r) held = inl refl
  rule-beside s DropConnection held = inl refl
  rule-beside s Listen held = inl refl
  rule-beside s cmd held = made-beside cmd _

-- ---- commands that take no promise

module _ (t : Talk) where
  unmade-drop : (r : ChanRef) (o : Result Channel ErrorKind) → (IsOk o → IsOk (target r word.ChannelClose t)) → t.state ≡ Connected
      → SettlesFor (IsLetGo (DropChannel r) t) t (drop_target o r.id t)
  unmade-drop r (Err e) found held = leaves-all (IsLetGo (DropChannel r) t) t
  unmade-drop r (Ok c) found held = record {
    each = settle-groups (IsLetGo (DropChannel r) t) _ (filter (is_on r.id) t.outbox.publish) t.promises (λ k is. (held, found refl, is, refl));
    made = refl;
  }

  unmade-rule : (s : ConnectionState) (cmd : Cmd) → t.state ≡ s → takes_promise cmd ≡ false → SettlesFor (IsLetGo cmd t) t (command_rule s cmd t)
  unmade-rule Connected (DropChannel r) held takes = unmade-drop r (target r word.ChannelClose t) (λ ok. ok) held
  unmade-rule Connected DropConnection held takes = record {
    each = settle-groups (IsLetGo DropConnection t) _ t.outbox.publish t.promises (λ k is. (held, is, refl));
    made = refl;
  }
  unmade-rule Connected Listen held takes = record { each = λ number. inl refl; made = refl }
  unmade-rule s (DropChannel r) held takes = leaves-all (IsLetGo (DropChannel r) t) t
  unmade-rule s DropConnection held takes = leaves-all (IsLetGo DropConnection t) t
  unmade-rule s Listen held takes = record { each = λ number. inl refl; made = refl }
  unmade-rule s cmd held takes = absurd cc

-- ---- that what a command lets go is answered

module _ (t : Talk) (number : ℕ) (other : number ≢ t.made) (waits : IsWaiting number t) where
  -- an answer stays beside the promise that is made
  made-has : (ps : Promises) → Has number ps → Has number (put t.made None ps)
  made-has ps h = (h.0, put-other number t.made None ps other ∙ h.1)

  close-has : (o : Result Channel ErrorKind) (n code : ℕ) (text : List ℕ) → IsOk o → IsNamed number (map promise_of_group (filter (is_on n) t.outbox.publish))
      → HasAnswer number (close_target o n code text t)
  close-has (Err e) n code text ok is = cc
  close-has (Ok c) n code text ok is = made-has _ (groups-has number _ (filter (is_on n) t.outbox.publish) t.promises is (inl waits))

  drop-has : (o : Result Channel ErrorKind) (n : ℕ) → IsOk o → IsNamed number (map promise_of_group (filter (is_on n) t.outbox.publish)) → HasAnswer number (drop_target o n t)
  drop-has (Err e) n ok is = cc
  drop-has (Ok c) n ok is = groups-has number _ (filter (is_on n) t.outbox.publish) t.promises is (inl waits)

  left-has : (cmd : Cmd) (given : Result Answer ErrorKind) → IsLetGo cmd t number given → HasAnswer number (command cmd t)
  left-has (CloseChannel r code text) (Err error) (held, ok, is, same) =
      subst (λ (s : ConnectionState). HasAnswer number (command_rule s (CloseChannel r code text) t)) (sym held)
      (close-has (target r word.ChannelClose t) r.id code text ok is)
  left-has (DropChannel r) (Err error) (held, ok, is, same) =
      subst (λ (s : ConnectionState). HasAnswer number (command_rule s (DropChannel r) t)) (sym held) (drop-has (target r word.ChannelClose t) r.id ok is)
  left-has (CloseConnection code text) (Err error) (held, is, same) =
      subst (λ (s : ConnectionState). HasAnswer number (command_rule s (CloseConnection code text) t)) (sym held)
      (made-has _ (groups-has number _ t.outbox.publish t.promises is (inl waits)))
  left-has DropConnection (Err error) (held, is, same) =
      subst (λ (s : ConnectionState). HasAnswer number (command_rule s DropConnection t)) (sym held)
      (groups-has number _ t.outbox.publish t.promises is (inl waits))
  left-has cmd given is = absurd is

-- ---- an answer that is taken

answer-makes : (number : ℕ) (t : Talk) → (take_answer number t).made ≡ t.made
answer-makes number t =
    if_case (λ (x : Talk). x.made ≡ t.made) (is_some (answer_of number t)) (record t { promises = without number t.promises }) t refl refl

answer-beside : (number other : ℕ) (t : Talk) → other ≢ number → at other (take_answer number t).promises ≡ at other t.promises
answer-beside number other t differs =
    if_case (λ (x : Talk). at other x.promises ≡ at other t.promises) (is_some (answer_of number t)) (record t { promises = without number t.promises }) t
    (without-other other number t.promises differs) refl

answer-none : (number : ℕ) (t : Talk) → answer_of number t ≡ None → take_answer number t ≡ t
answer-none number t none = if-false (is_some (answer_of number t)) (record t { promises = without number t.promises }) t (ap is_some none)

-- ---- all rules

pub keeps-promises : (t : Talk) → KeepsPromises t
keeps-promises t =
    record {
      moment = λ at. present-leaves at t;
      asked = record { same = refl; made = refl };
      linked = linked-leaves t;
      link_failed = failed-leaves t;
      piece = piece-leaves t;
      starve = starve-leaves t;
      event = event-leaves t.noted.events (end_event t.noted.tells_end (end_of t)) t;
      frames = λ opened. record { same = refl; made = refl };
      frame = λ f answers. frame-settles f answers t;
      replied = λ f answers number given act is waits. frame-answers f answers number given t act is waits;
      misread = λ why. misread-settles why t;
      lost = λ fault. lost-settles fault t;
      tick = λ answers. tick-settles answers t;
      next_frame = λ space. next-settles space t;
      taken = λ n. taken-settles t n;
      sent = λ n number given opened some is waits. taken-has number n given t opened some is waits;
      command = λ cmd number other. rule-beside t number other t.state cmd refl;
      left = λ cmd number given other is waits. left-has t number other waits cmd given is;
      unmade = λ cmd takes. unmade-rule t t.state cmd refl takes;
      answer = λ number other differs. answer-beside number other t differs;
      answer_makes = λ number. answer-makes number t;
      unanswered = λ number none. answer-none number t none;
    }
