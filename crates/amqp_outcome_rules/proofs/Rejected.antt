-- That what waits is answered where the link is lost and the session waits for another.
use Rattle.std.proofs.Common.{◌≡◌, ◌⊎◌, inl, inr, ◌-◌, ◌==◌, ◌&&◌, not, ℕ, zero, nat_le, Bool, true, false, if◌then◌else◌, List, [], ◌∷◌, Option, Some, None, is_some, Result, Ok, Err, refl, ap, sym, ◌∙◌, subst}
use Rattle.std.specs.Prelude.{drop}
use Rattle.amqp_types.specs.declared.error.AMQPError.{AMQPError}
use Rattle.amqp_frame.specs.declared.frame.Frame.{Frame}
use Rattle.amqp_frame.specs.declared.frame.Frame.TheVariants.{Method, Heartbeat}
use Rattle.amqp_frame.specs.declared.method.Method.TheVariants.{Blocked, Unblocked}
use Rattle.amqp_outbox.specs.declared.item.Item.{Item}
use Rattle.amqp_promise.specs.declared.io_fault.IoFault.{IoFault}
use Rattle.amqp_promise.specs.declared.state.ConnectionState.{ConnectionState}
use Rattle.amqp_promise.specs.declared.state.ConnectionState.TheVariants.{Reconnecting}
use Rattle.amqp_promise.specs.declared.error.ErrorKind.{ErrorKind}
use Rattle.amqp_promise.specs.declared.error.ErrorKind.TheVariants.{IOError, MissingHeartbeatError, ProtocolError}
use Rattle.amqp_auth.specs.declared.asked.Asked.{Asked}
use Rattle.amqp_answers.specs.declared.answer.Answer.{Answer}
use Rattle.amqp_answers.specs.declared.answer.Answer.TheVariants.{Sent}
use Rattle.amqp_outgoing.specs.declared.committed.Mark.{Mark}
use Rattle.amqp_outgoing.specs.declared.committed.Then.{Then}
use Rattle.amqp_outgoing.specs.declared.committed.Then.TheVariants.{Nothing, Answer as Answers, Pays, Finish}
use Rattle.amqp_answers.specs.declared.event.Event.{Event}
use Rattle.amqp_violations.specs.declared.misread.Misread.{Misread}
use Rattle.amqp_violations.specs.declared.server_close.ServerClose.{ServerClose}
use Rattle.amqp_violations.specs.declared.server_close.ServerClose.TheVariants.{WithoutError, WithError}
use Rattle.amqp_maps.specs.Listed.{at}
use Rattle.amqp_rules.specs.Talk.{Talk, acts, has_ended, hears_on, is_asked, is_open, end_of}
use Rattle.amqp_rules.specs.Recovery.{next_delay, recovery_delay}
use Rattle.amqp_answers.specs.Settled.{Promises, settled}
use Rattle.amqp_rules.specs.Changes.{finish, finish_by, give, lose, lose_by, queue}
use Rattle.amqp_rules.specs.Channels.{channel_at}
use Rattle.amqp_violations.specs.Violations.{misread_error}
use Rattle.amqp_rules.specs.Links.{dropped, link_failed, linked, lost, misread, refused_after}
use Rattle.amqp_rules.specs.Frames.{closed_rule, frame_rule, on_frame}
use Rattle.amqp_rules.specs.Causes.{IsFrameError}
use Rattle.amqp_rules.specs.Ticks.{beat, is_heartbeat_due, is_missed, missing_heartbeat, refreshed, tick}
use Rattle.amqp_rules.specs.Writing.{channel_close_ok_sent, commit, committed_as, end_overlong, follow, next_frame, next_within, overlong, sent, sent_among, taken}
use Rattle.amqp_rules.specs.Answers.{answer_of, end_event, without_event}
use Rattle.amqp_rules.proofs.FrameEnds.{waits-frame}
use Rattle.amqp_rules.proofs.FrameErrors.{frame-lost}
use Rattle.amqp_rules.proofs.Heard.{secret-case}
use Rattle.amqp_rules.proofs.Keeping.{off-finish}
use Rattle.amqp_rules.proofs.LostLinks.{lose-answers, lose-stays}
use Rattle.amqp_rules.proofs.Sending.{pay-keeps, sent_among-closed}
use Rattle.amqp_rules.proofs.Walk.{CommandRows, command-keeps}
use Rattle.amqp_types.proofs.Small.{at-most, if_by, if_case}
use Rattle.amqp_answer_rules.specs.Answering.{IsSent, IsServerClose, IsSettledFor, IsWaiting}
use Rattle.amqp_answer_rules.proofs.Slots.{settle-one}
use Rattle.amqp_outcome_rules.specs.Rejections.{GoesToReconnect, LosesBy, LosesNone, RejectsAll, RejectsAtLosses, RejectsUnsent}

-- ---- a link that is lost

-- where the session then waits for another, all that waited has the error
lost-rejects : (e : ErrorKind) (t : Talk) → (lose e t).state ≡ Reconnecting → RejectsAll e t (lose e t)
lost-rejects e t h number other waits = by (recovery_delay e t) refl h where
  by : (o : Option ℕ) → recovery_delay e t ≡ o → (lose_by o e t).state ≡ Reconnecting → at number (lose e t).promises ≡ Some (Some (Err e))
  by (Some delay) is k = lose-answers e t delay number is other waits
  by None is k = cc

module _ (P : ErrorKind → Type 0) (t : Talk) where
  -- a state that is as it was is no loss
  keeps-state : (u : Talk) → u.state ≡ t.state → LosesBy P t u
  keeps-state u same goes = absurd (goes.0 (sym same ∙ goes.1))

  loses-lose : (e : ErrorKind) → P e → LosesBy P t (lose e t)
  loses-lose e p goes = (e, p, lost-rejects e t goes.1)

  -- what follows the server's close
  loses-finish : (o : Option ServerClose) → ((e : AMQPError) → o ≡ Some (WithError e) → P (ProtocolError e)) → LosesBy P t (finish_by o t)
  loses-finish None p goes = (let clash = goes.1 in absurd cc)
  loses-finish (Some WithoutError) p goes = (let clash = goes.1 in absurd cc)
  loses-finish (Some (WithError e)) p goes = loses-lose (ProtocolError e) (p e refl) goes

-- ---- frames

state-closed : (f : Frame) (t : Talk) → (closed_rule f t).state ≡ t.state
state-closed (Method zero (Blocked reason)) t = refl
state-closed (Method zero Unblocked) t = refl
state-closed f t = refl

frame-loses : (f : Frame) (answers : List Asked) (t : Talk) → LosesBy (λ e. IsFrameError e f answers t) t (on_frame f answers t)
frame-loses f answers t goes = by (acts t) refl where
  P : ErrorKind → Type 0
  P e = IsFrameError e f answers t

  idle : acts t ≡ false → (on_frame f answers t).state ≡ t.state
  idle off =
      if_by (λ (x : Talk). x.state ≡ t.state) (acts t) (frame_rule f answers t) (if hears_on t then closed_rule f t else t)
      (λ on. let clash : true ≡ false = sym on ∙ off in absurd cc)
      (λ k. if_case (λ (x : Talk). x.state ≡ t.state) (hears_on t) (closed_rule f t) t (state-closed f t) refl)

  by : (b : Bool) → acts t ≡ b → (e : ErrorKind) × P e × RejectsAll e t (on_frame f answers t)
  by false off = absurd (goes.0 (sym (idle off) ∙ goes.1))
  by true on =
      let brought = waits-frame f answers t goes.0 goes.1 in
      let same : on_frame f answers t ≡ lose brought.0 t = frame-lost brought.0 f answers t on brought.1 in
      (brought.0, brought.1, subst (RejectsAll brought.0 t) (sym same) (lost-rejects brought.0 t (ap (λ (x : Talk). x.state) (sym same) ∙ goes.1)))

-- ---- links and time

misread-loses : (why : Misread) (t : Talk) → LosesBy (λ e. e ≡ misread_error why) t (misread why t)
misread-loses why t =
    let P : ErrorKind → Type 0 = λ e. e ≡ misread_error why in
    if_case (LosesBy P t) (acts t) (lose (misread_error why) t) (if is_open t then record t { input = dropped t.input } else t)
    (loses-lose P t (misread_error why) refl)
    (if_case (LosesBy P t) (is_open t) (record t { input = dropped t.input }) t (keeps-state P t (record t { input = dropped t.input }) refl) (keeps-state P t t refl))

lost-loses : (fault : IoFault) (t : Talk)
    → LosesBy (λ e. ((acts t ≡ true) × (e ≡ IOError fault)) ⊎ ((acts t ≡ false) × IsServerClose t e)) t (lost fault t)
lost-loses fault t =
    let P : ErrorKind → Type 0 = λ e. ((acts t ≡ true) × (e ≡ IOError fault)) ⊎ ((acts t ≡ false) × IsServerClose t e) in
    if_by (LosesBy P t) (acts t) (lose (IOError fault) t) (if is_open t then finish t else t)
    (λ on. loses-lose P t (IOError fault) (inl (on, refl)))
    (λ off. if_case (LosesBy P t) (is_open t) (finish t) t
    (loses-finish P t t.server_close (λ e is. inr (off, (e, is, refl)))) (keeps-state P t t refl))

-- what a tick changes beside a missing heartbeat
abbrev Held : Type 0
Held = ConnectionState × Promises

abbrev held : Talk → Held
held t = (t.state, t.promises)

tick-held : (answers : List Asked) (t : Talk) → held (tick answers t) ≡ held (missing_heartbeat t)
tick-held answers t =
    let x : Talk = missing_heartbeat t in
    secret-case (λ (y : Talk). held y ≡ held (beat t)) answers (beat t) refl (λ asks said. by said)
    ∙ if_case (λ (y : Talk). held y ≡ held x) (is_heartbeat_due x) (record (queue 0 Heartbeat x) { last_write = x.present }) x refl refl
  where
    by : (said : Result (List ℕ) (List ℕ)) → held (refreshed said (beat t)) ≡ held (beat t)
    by (Ok secret) = refl
    by (Err text) = refl

tick-loses : (answers : List Asked) (t : Talk) → LosesBy (λ e. e ≡ MissingHeartbeatError) t (tick answers t)
tick-loses answers t goes =
    let P : ErrorKind → Type 0 = λ e. e ≡ MissingHeartbeatError in
    let same : held (tick answers t) ≡ held (missing_heartbeat t) = tick-held answers t in
    let missed : LosesBy P t (missing_heartbeat t) =
    if_case (LosesBy P t) (is_missed t) (lose MissingHeartbeatError t) t (loses-lose P t MissingHeartbeatError refl) (keeps-state P t t refl) in
    let all = missed (goes.0, ap (λ (h : Held). h.0) (sym same) ∙ goes.1) in
    (all.0, all.1, λ number other waits. ap (λ (h : Held). at number h.1) same ∙ all.2 number other waits)

-- ---- bytes that were taken

module _ (t : Talk) (all : ℕ) where
  -- these frames, of which so many bytes are sent, are the last that were committed
  abbrev Among : List Mark → ℕ → Type 0
  Among ms n = (number : ℕ) → IsSent ms n number (Ok Sent) → IsSent t.committed all number (Ok Sent)

  -- a promise that waited waits, or its frame was sent
  abbrev IsAsBefore : ℕ → Promises → Type 0
  IsAsBefore number ps =
      (at number ps ≡ Some None) ⊎ (IsSent t.committed all number (Ok Sent) × (at number ps ≡ Some (Some (Ok Sent))))

  -- the session goes on as before, but for what was sent
  record GoesOn (u : Talk) : Type 0 where
    state : u.state ≡ t.state
    close : u.server_close ≡ t.server_close
    promises : (number : ℕ) → IsWaiting number t → IsAsBefore number u.promises

  abbrev Loses : Talk → Type 0
  Loses u = GoesToReconnect t u → (e : ErrorKind) × IsServerClose t e × RejectsUnsent all e t u

  still : (u : Talk) → u.state ≡ t.state → Loses u
  still u same goes = absurd (goes.0 (sym same ∙ goes.1))

  lost-unsent : (e : ErrorKind) (u : Talk) → GoesOn u → (lose e u).state ≡ Reconnecting → RejectsUnsent all e t (lose e u)
  lost-unsent e u on h number other waits = by (on.promises number waits) where
    by : IsAsBefore number u.promises
        → (at number (lose e u).promises ≡ Some (Some (Err e)))
        ⊎ (IsSent t.committed all number (Ok Sent) × (at number (lose e u).promises ≡ Some (Some (Ok Sent))))
    by (inl k) = inl (lost-rejects e u h number other k)
    by (inr k) = inr (k.0, lose-stays e u number (Ok Sent) k.1)

  finish-loses : (o : Option ServerClose) (u : Talk) → t.server_close ≡ o → GoesOn u → Loses (finish_by o u)
  finish-loses None u is on goes = (let clash = goes.1 in absurd cc)
  finish-loses (Some WithoutError) u is on goes = (let clash = goes.1 in absurd cc)
  finish-loses (Some (WithError e)) u is on goes = (ProtocolError e, (e, is, refl), lost-unsent (ProtocolError e) u on goes.1)

  -- a frame was sent, by whose last byte a promise is answered
  given-on : (j : ℕ) (u : Talk) → IsSent t.committed all j (Ok Sent) → GoesOn u → GoesOn (give j (Ok Sent) u)
  given-on j u is on = record { state = on.state; close = on.close; promises = λ number waits. by number (on.promises number waits) } where
    by : (number : ℕ) → IsAsBefore number u.promises → IsAsBefore number (settled j (Ok Sent) u.promises)
    by number before = kept before (settle-one (λ k (given : Result Answer ErrorKind). (k ≡ j) × (given ≡ Ok Sent)) j (Ok Sent) u.promises (refl, refl) number)
      where
        kept : IsAsBefore number u.promises
            → IsSettledFor (λ (given : Result Answer ErrorKind). (number ≡ j) × (given ≡ Ok Sent)) (at number u.promises) (at number (settled j (Ok Sent) u.promises))
            → IsAsBefore number (settled j (Ok Sent) u.promises)
        kept (inl k) (inl same) = inl (same ∙ k)
        kept (inr k) (inl same) = inr (k.0, same ∙ k.1)
        kept k (inr (waits, (answer, now, named))) =
            inr (subst (λ (m : ℕ). IsSent t.committed all m (Ok Sent)) (sym named.0) is, now ∙ ap (λ (a : Result Answer ErrorKind). Some (Some a)) named.1)

  paid-on : (c : ℕ) (u : Talk) → GoesOn u → GoesOn (channel_close_ok_sent c u)
  paid-on c u on =
      let o = channel_at c u in
      record {
        state = pay-keeps (λ (y : Talk). y.state) (λ y cs ns. refl) o c u ∙ on.state;
        close = pay-keeps (λ (y : Talk). y.server_close) (λ y cs ns. refl) o c u ∙ on.close;
        promises = λ number waits. subst (IsAsBefore number) (sym (pay-keeps (λ (y : Talk). y.promises) (λ y cs ns. refl) o c u)) (on.promises number waits);
      }

  follows : (ms : List Mark) (n : ℕ) (x : Talk) → GoesOn x → ((u : Talk) → GoesOn u → Loses (sent_among ms n u))
      → (th : Then) → ((j : ℕ) → th ≡ Answers j → IsSent t.committed all j (Ok Sent)) → Loses (sent_among ms n (follow th x))
  follows ms n x on later Nothing g = later x on
  follows ms n x on later (Answers j) g = later (give j (Ok Sent) x) (given-on j x (g j refl) on)
  follows ms n x on later (Pays c) g = later (channel_close_ok_sent c x) (paid-on c x on)
  follows ms n x on later Finish g =
      subst Loses (sym (sent_among-closed ms n (finish x) (off-finish x.server_close x).opened)) (finish-loses x.server_close x (sym on.close) on)

  sent-loses : (ms : List Mark) (n : ℕ) (u : Talk) → Among ms n → GoesOn u → Loses (sent_among ms n u)
  sent-loses [] n u among on = still u on.state
  sent-loses (m ∷ ms) n u among on =
      if_case Loses (is_open u)
      (if nat_le m.left n then sent_among ms (n - m.left) (sent m u) else record u { committed = record m { left = m.left - n } ∷ ms }) u
      (if_by Loses (nat_le m.left n) (sent_among ms (n - m.left) (sent m u)) (record u { committed = record m { left = m.left - n } ∷ ms })
      (λ fits. follows ms (n - m.left) (record u { committed = drop 1 u.committed }) (record { state = on.state; close = on.close; promises = on.promises })
      (λ v k. sent-loses ms (n - m.left) v (λ number is. among number (at-most m.left n fits, inr is)) k) m.then
      (λ j is. among j (at-most m.left n fits, inl (is, refl))))
      (λ over. still (record u { committed = record m { left = m.left - n } ∷ ms }) on.state))
      (still u on.state)

  taken-loses : Loses (taken all t)
  taken-loses =
      let u : Talk = record t { last_write = t.present } in
      if_case Loses (is_open t && not (all == 0)) (sent_among t.committed all u) t
      (sent-loses t.committed all u (λ number is. is) (record { state = refl; close = refl; promises = λ number waits. inl waits })) (still t refl)

-- ---- rules by which no link is lost

linked-none : (t : Talk) → LosesNone t (linked t)
linked-none t = if_case (LosesNone t) (is_asked t) _ t (λ h. absurd cc) (λ h. h)

failed-none : (t : Talk) → LosesNone t (link_failed t)
failed-none t = if_case (LosesNone t) (is_asked t) (refused_after (next_delay t) t) t (by (next_delay t)) (λ h. h) where
  by : (o : Option ℕ) → LosesNone t (refused_after o t)
  by (Some delay) h = h
  by None h = absurd cc

next-none : (space : ℕ) (t : Talk) → LosesNone t (next_frame space t)
next-none space t h = by (overlong t) h where
  same : (o : Option Item) → (committed_as o t).state ≡ t.state
  same None = refl
  same (Some item) = refl

  by : (o : Option ℕ) → (end_overlong o (commit space t)).state ≡ Reconnecting → t.state ≡ Reconnecting
  by None k = sym (same (next_within space t)) ∙ k
  by (Some size) k = absurd cc

told-rows : (t : Talk) → CommandRows (LosesNone t)
told-rows t = record {
  refuses = λ e u h. h;
  promises = λ u h. h;
  opens = λ n u h. h;
  opens_none = λ first u h. h;
  leaves_channel = λ n code text c answers u h. h;
  sends = λ n m u h. h;
  publishes = λ n m properties body u h. h;
  flows = λ n active u h. h;
  tells_secret = λ secret reason u h. h;
  listens = λ u h. h;
}

event-none : (kept at_end : List Event) (t : Talk) → LosesNone t (without_event kept at_end t)
event-none (event ∷ later) at_end t h = h
event-none [] (event ∷ later) t h = h
event-none [] [] t h = h

-- ---- all rules

pub rejects-at-losses : (t : Talk) → RejectsAtLosses t
rejects-at-losses t =
    record {
      frame = λ f answers. frame-loses f answers t;
      misread = λ why. misread-loses why t;
      lost = λ fault. lost-loses fault t;
      tick = λ answers. tick-loses answers t;
      taken = λ n. taken-loses t n;
      moment = λ at. if_case (LosesNone t) (has_ended t) t _ (λ h. h) (λ h. h);
      asked = λ h. h;
      linked = linked-none t;
      link_failed = failed-none t;
      piece = if_case (LosesNone t) (is_open t) _ t (λ h. h) (λ h. h);
      next_frame = λ space. next-none space t;
      starve = if_case (LosesNone t) (has_ended t) t _ (λ h. h) (λ h. absurd cc);
      command = λ cmd. command-keeps (LosesNone t) (told-rows t) (λ code text answers u h k. absurd cc) cmd t (λ h. h);
      answer = λ number. if_case (LosesNone t) (is_some (answer_of number t)) _ t (λ h. h) (λ h. h);
      event = event-none t.noted.events (end_event t.noted.tells_end (end_of t)) t;
      frames = λ opened h. h;
    }
