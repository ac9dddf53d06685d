-- How a turn, and a run of turns, may end a session.
use Rattle.std.proofs.Common.{◌≡◌, ◌⊎◌, inl, inr, ℕ, ◌-◌, ◌==◌, ◌&&◌, ◌||◌, not, nat_le, Bool, true, false, if◌then◌else◌, IsTrue, List, [], ◌∷◌, ◌++◌, length, drop, map, Option, Some, None, Err, is_some, is_none, true≢false, refl, ap, sym, ◌∙◌, subst, Result, Ok}
use Rattle.amqp_types.specs.declared.error.AMQPError.{AMQPError}
use Rattle.amqp_outgoing.specs.declared.committed.Mark.{Mark}
use Rattle.amqp_outgoing.specs.declared.committed.Then.{Then}
use Rattle.amqp_outgoing.specs.declared.committed.Then.TheVariants.{Nothing, Answer, Pays, Finish}
use Rattle.amqp_frame.specs.declared.frame.Read.{Read}
use Rattle.amqp_frame.specs.declared.frame.Read.TheVariants as reading
use Rattle.amqp_rules.specs.declared.state.Link.{Link}
use Rattle.amqp_rules.specs.declared.state.Link.TheVariants.{Due, Wanted, Open}
use Rattle.amqp_promise.specs.declared.io_fault.IoFault.{IoFault}
use Rattle.amqp_promise.specs.declared.io_fault.IoFault.TheVariants.{Aborted, Refused, Reset, BrokenPipe}
use Rattle.amqp_violations.specs.declared.server_close.ServerClose.{ServerClose}
use Rattle.amqp_violations.specs.declared.server_close.ServerClose.TheVariants.{WithoutError, WithError}
use Rattle.amqp_promise.specs.declared.error.ErrorKind.{ErrorKind}
use Rattle.amqp_promise.specs.declared.error.ErrorKind.TheVariants.{IOError, ProtocolError, SerialisationError, MissingHeartbeatError, NoMemory, OutOfTurns, ChannelsLimitReached}
use Rattle.amqp_auth.specs.declared.asked.Asked.{Asked}
use Rattle.amqp_rules.specs.Talk.{Talk, has_ended, is_open, is_acting, acts, is_asked, end_of, end_of_link}
use Rattle.amqp_rules.specs.Channels.{channel_at}
use Rattle.amqp_rules.specs.Changes.{present_at, queue, fail, lose, finish, finish_by, starve}
use Rattle.amqp_rules.specs.Recovery.{next_delay}
use Rattle.amqp_rules.specs.Links.{linked, refused_after, link_failed, piece, lost}
use Rattle.amqp_frame.specs.declared.frame.Frame.TheVariants.{Heartbeat}
use Rattle.amqp_rules.specs.Ticks.{is_missed, is_heartbeat_due, missing_heartbeat, beat, refreshed, link_at, timed, tick}
use Rattle.amqp_rules.specs.Commands.{command}
use Rattle.amqp_rules.specs.Writing.{follow, sent, sent_among, taken, end_overlong}
use Rattle.amqp_engine.specs.declared.port.Step.{Step}
use Rattle.amqp_engine.specs.declared.port.Step.TheVariants.{Linked, LinkFailed, Piece, End, Fault, Room, Tick, Command}
use Rattle.amqp_engine.specs.declared.port.Wrote.{Wrote}
use Rattle.amqp_engine.specs.declared.port.Wrote.TheVariants.{Took, Failed, NoMemory as WroteNoMemory}
use Rattle.amqp_engine.specs.Log.{Log}
use Rattle.amqp_engine.specs.Engine.{Engine, settle, rule_at, with_talk, step_engine, step_questions, took, wrote, commit_all, overlong_next, ended_overlong, refuse_overlong}
use Rattle.amqp_rules.specs.Writing.{frames_waiting}
use Rattle.amqp_engine.specs.Turn.{Turn, Notes, write_answers, Progress, asks, goes, reads, part, questioned, is_piece, step_part, is_part, begun, drain, drained, offer_part, offered, is_all, answered, read, after_writes, applied, turn, turns, starved_after, AreTurns}
use Rattle.amqp_engine.specs.Tell.{Applies, Runs, turn_of}
use Rattle.amqp_engine.specs.Causes.{is_final, FailsToWrite, IsReadError, Misreads, LosesClosed, IsCause, IsCaused, brought, is_tick, is_last, sends_close_ok}
use Rattle.amqp_rules.specs.Sound.{is_finish}
use Rattle.amqp_rules.proofs.Heard.{secret-case}
use Rattle.amqp_types.proofs.Small.{if_case, if_by, if-true, if-false, and-false, and-true, none-from, and-left, or-right}
use Rattle.amqp_rules.proofs.Keeping.{present-keeps, kept-open, off-finish, stays-command}
use Rattle.amqp_rules.proofs.Sending.{pay-keeps, follow-link}
use Rattle.amqp_rules.proofs.Recovering.{lose-case}
use Rattle.amqp_engine.proofs.Commits.{commits-keep}
use Rattle.amqp_rules.proofs.Ends.{Ends, ends-kept, ends-fail, ends-unrecovered, ends-close, ends-as, ends-then, ends-present, ends-moment}
use Rattle.amqp_engine.proofs.ReadEnds.{final-present, ends-settled}
use Rattle.amqp_engine.proofs.Over.{asks-end}
use Rattle.amqp_engine.proofs.ReadEnds.{Comes, ends-reads}

-- ---- steps

-- the link is lost, by this fault or after the server's close, and the session does not recover
abbrev LostError : IoFault → Talk → ErrorKind → Type 0
LostError fault t (IOError f) = IsTrue (is_open t) × (f ≡ fault) × IsTrue (is_final (IOError fault) t)
LostError fault t (ProtocolError e) = IsTrue (is_open t) × (t.server_close ≡ Some (WithError e)) × IsTrue (is_final (ProtocolError e) t)
LostError fault t _ = ⊥

-- a link that is lost ends a session by an error from which it does not recover
ends-final : (P : ErrorKind → Type 0) (e : ErrorKind) (t u : Talk) → (is_final e u ≡ true → P e) → Ends P t (lose e u)
ends-final P e t u p = ends-unrecovered P e t u (λ none. p (ap (λ (o : Option ℕ). is_none o) none))

ends-finish : (P : ErrorKind → Type 0) (o : Option ServerClose) (t u : Talk)
    → ((e : AMQPError) → o ≡ Some (WithError e) → is_final (ProtocolError e) u ≡ true → P (ProtocolError e)) → Ends P t (finish_by o u)
ends-finish P None t u p = ends-close P t u
ends-finish P (Some WithoutError) t u p = ends-close P t u
ends-finish P (Some (WithError e)) t u p = ends-final P (ProtocolError e) t u (p e refl)

ends-lost : (fault : IoFault) (t : Talk) → Ends (LostError fault t) t (lost fault t)
ends-lost fault t =
    let P : ErrorKind → Type 0 = LostError fault t in
    if_by (Ends P t) (acts t) (lose (IOError fault) t) (if is_open t then finish t else t)
    (λ acting. ends-final P (IOError fault) t t (λ last. (and-left (is_open t) (is_acting t.input) acting, refl, last)))
    (λ idle. if_by (Ends P t) (is_open t) (finish t) t
    (λ opened. ends-finish P t.server_close t t (λ e h last. (opened, h, last)))
    (λ closed. ends-kept P t t refl))

present-lost : (at : ℕ) (fault : IoFault) (t : Talk) (k : ErrorKind) → LostError fault (present_at at t) k → LostError fault t k
present-lost at fault t (IOError f) h = (sym (present-keeps is_open at t (λ n. refl)) ∙ h.0, h.1, sym (final-present at (IOError fault) t) ∙ h.2)
present-lost at fault t (ProtocolError e) h = (
  sym (present-keeps is_open at t (λ n. refl)) ∙ h.0,
  sym (present-keeps (λ x. x.server_close) at t (λ n. refl)) ∙ h.1,
  sym (final-present at (ProtocolError e) t) ∙ h.2,
)
present-lost at fault t _ h = h

ends-lost-at : (at : ℕ) (fault : IoFault) (x : Engine) → Ends (LostError fault x.talk) x.talk (settle (rule_at at (lost fault) x)).talk
ends-lost-at at fault x =
    let P : ErrorKind → Type 0 = LostError fault x.talk in
    let t = present_at at x.talk in
    ends-settled P x.talk (rule_at at (lost fault) x)
    (ends-present P at x.talk (lost fault t) (ends-as (LostError fault t) P t (lost fault t) (present-lost at fault x.talk) (ends-lost fault t)))

-- the error that a step brings
abbrev pub StepError : ℕ → Step → Engine → ErrorKind → Type 0
StepError at step x (IOError fault) = brought step x.talk ≡ Some fault
StepError at step x (ProtocolError e) = LosesClosed e step x
StepError at step x MissingHeartbeatError = IsTrue (is_tick step) × IsTrue (is_missed (present_at at x.talk)) × IsTrue (is_final MissingHeartbeatError x.talk)
StepError at step x _ = ⊥

end-lost : (at : ℕ) (x : Engine) (k : ErrorKind) → LostError Aborted x.talk k → StepError at End x k
end-lost at x (IOError fault) h =
    if-true (is_open x.talk && is_final (IOError Aborted) x.talk) (Some Aborted) None (and-true (is_open x.talk) _ h.0 h.2) ∙ ap Some (sym h.1)
end-lost at x (ProtocolError e) h = record { loss = refl; opened = h.0; closed = h.1; final = h.2 }
end-lost at x _ h = absurd h

fault-lost : (at : ℕ) (x : Engine) (k : ErrorKind) → LostError Reset x.talk k → StepError at Fault x k
fault-lost at x (IOError fault) h =
    if-true (is_open x.talk && is_final (IOError Reset) x.talk) (Some Reset) None (and-true (is_open x.talk) _ h.0 h.2) ∙ ap Some (sym h.1)
fault-lost at x (ProtocolError e) h = record { loss = refl; opened = h.0; closed = h.1; final = h.2 }
fault-lost at x _ h = absurd h

not-ended : {A : Type 0} (k : ErrorKind) → end_of_link Open ≡ Some (Err k) → A
not-ended k h = cc

ends-linked : (P : ErrorKind → Type 0) (t : Talk) → Ends P t (linked t)
ends-linked P t = if_case (Ends P t) (is_asked t) _ t (record { by = λ k h. not-ended k h }) (ends-kept P t t refl)

ends-refused : (P : ErrorKind → Type 0) (t : Talk) → (is_asked t ≡ true → next_delay t ≡ None → P (IOError Refused)) → Ends P t (link_failed t)
ends-refused P t p =
    if_by (Ends P t) (is_asked t) (refused_after (next_delay t) t) t (λ h. by (next_delay t) refl h) (λ h. ends-kept P t t refl)
  where
    by : (delay : Option ℕ) → next_delay t ≡ delay → is_asked t ≡ true → Ends P t (refused_after delay t)
    by (Some delay) is asked = record { by = λ k h. cc }
    by None is asked = ends-fail P (IOError Refused) t t (p asked is)

ends-piece : (P : ErrorKind → Type 0) (t : Talk) → Ends P t (piece t)
ends-piece P t = if_case (Ends P t) (is_open t) (record t { last_read = t.present }) t (ends-kept P t _ refl) (ends-kept P t t refl)

ends-tick : (P : ErrorKind → Type 0) (answers : List Asked) (t : Talk) → (is_missed t ≡ true → is_final MissingHeartbeatError t ≡ true → P MissingHeartbeatError)
    → Ends P t (tick answers t)
ends-tick P answers t p =
    let x : Talk = missing_heartbeat t in
    let first : Ends P t x =
    if_by (Ends P t) (is_missed t) (lose MissingHeartbeatError t) t (λ h. ends-final P MissingHeartbeatError t t (p h)) (λ h. ends-kept P t t refl) in
    let beaten : Ends P t (beat t) =
    if_case (Ends P t) (is_heartbeat_due x) (record (queue 0 Heartbeat x) { last_write = x.present }) x
    (ends-then P t x (record (queue 0 Heartbeat x) { last_write = x.present }) first (ends-kept P x (record (queue 0 Heartbeat x) { last_write = x.present }) refl)) first in
    let before : Ends P t (timed answers t) =
    secret-case (Ends P t) answers (beat t) beaten (λ asks said. ends-then P t (beat t) (refreshed said (beat t)) beaten (ends-kept P (beat t) (refreshed said (beat t)) (refreshed-end said (beat t)))) in
    ends-then P t (timed answers t) (tick answers t) before (ends-kept P (timed answers t) (tick answers t) (due-end (timed answers t).present (timed answers t).link))
  where
    due-end : (now : ℕ) (l : Link ErrorKind) → end_of_link (link_at now l) ≡ end_of_link l
    due-end now (Due moment) = if_case (λ (l : Link ErrorKind). end_of_link l ≡ None) (nat_le moment now) Wanted (Due moment) refl refl
    due-end now _ = refl

    refreshed-end : (said : Result (List ℕ) (List ℕ)) (y : Talk) → end_of (refreshed said y) ≡ end_of y
    refreshed-end (Ok secret) y = refl
    refreshed-end (Err text) y = refl

pub ends-step : (at : ℕ) (step : Step) (bytes : List ℕ) (answers : List Asked) (x : Engine) → Ends (StepError at step x) x.talk (step_engine at step bytes answers x).talk
ends-step at Linked bytes answers x =
    let P : ErrorKind → Type 0 = StepError at Linked x in
    if_case (λ (y : Engine). Ends P x.talk y.talk) (is_asked x.talk)
    (record { talk = linked (present_at at x.talk); unread = []; place = 0; unsent = []; starved = x.starved }) (rule_at at (λ t. t) x)
    (ends-present P at x.talk (linked (present_at at x.talk)) (ends-linked P (present_at at x.talk))) (ends-moment P at x.talk)
ends-step at LinkFailed bytes answers x =
    let P : ErrorKind → Type 0 = StepError at LinkFailed x in
    ends-settled P x.talk (rule_at at link_failed x)
    (ends-present P at x.talk (link_failed (present_at at x.talk)) (ends-refused P (present_at at x.talk)
    (λ h none. if-true (is_asked x.talk && is_none (next_delay x.talk)) (Some Refused) None
    (and-true (is_asked x.talk) (is_none (next_delay x.talk)) (sym (present-keeps is_asked at x.talk (λ n. refl)) ∙ h)
    (ap (λ (o : Option ℕ). is_none o) (sym (present-keeps next_delay at x.talk (λ n. refl)) ∙ none))))))
ends-step at (Piece n) bytes answers x =
    let P : ErrorKind → Type 0 = StepError at (Piece n) x in
    let after : Engine = record x { talk = piece (present_at at x.talk); unread = x.unread ++ bytes } in
    if_case (λ (y : Engine). Ends P x.talk y.talk) (is_open x.talk) (settle after) (rule_at at (λ t. t) x)
    (ends-settled P x.talk after (ends-present P at x.talk after.talk (ends-piece P (present_at at x.talk)))) (ends-moment P at x.talk)
ends-step at End bytes answers x = ends-as (LostError Aborted x.talk) (StepError at End x) x.talk _ (end-lost at x) (ends-lost-at at Aborted x)
ends-step at Fault bytes answers x = ends-as (LostError Reset x.talk) (StepError at Fault x) x.talk _ (fault-lost at x) (ends-lost-at at Reset x)
ends-step at Room bytes answers x = ends-moment _ at x.talk
ends-step at Tick bytes answers x =
    let P : ErrorKind → Type 0 = StepError at Tick x in
    ends-settled P x.talk (rule_at at (tick answers) x)
    (ends-present P at x.talk (tick answers (present_at at x.talk))
    (ends-tick P answers (present_at at x.talk) (λ missed last. (refl, missed, sym (final-present at MissingHeartbeatError x.talk) ∙ last))))
ends-step at (Command c) bytes answers x =
    let P : ErrorKind → Type 0 = StepError at (Command c) x in
    let t = present_at at x.talk in
    ends-present P at x.talk (command c t) (ends-kept P t (command c t) (ap end_of_link (stays-command c t).link))

ends-part : (u : Turn) (x : Engine) → Ends (StepError u.at u.step x) x.talk (step_part u.step u.bytes (begun u.at u.notes.starved u.notes.auths x)).engine.talk
ends-part u x =
    let P : ErrorKind → Type 0 = StepError u.at u.step x in
    let p = begun u.at u.notes.starved u.notes.auths x in
    let after = step_engine u.at u.step u.bytes u.notes.auths x in
    let e : Ends P x.talk after.talk = ends-step u.at u.step u.bytes u.notes.auths x in
    let Q : Progress → Type 0 = λ y. Ends P x.talk y.engine.talk in
    let q = questioned (step_questions u.at u.step u.notes.auths x) p in
    if_case Q (is_part u.step x) (if goes p then part after q else p) (record p { engine = after })
    (if_case Q (goes p) (part after q) p e (ends-kept P x.talk x.talk refl)) e

-- up to the writes of a turn
abbrev EarlyError : Turn → Engine → ErrorKind → Type 0
EarlyError u x k = StepError u.at u.step x k ⊎ Misreads k u x

ends-read : (u : Turn) (x : Engine) → Ends (EarlyError u x) x.talk (read u x).engine.talk
ends-read u x =
    let P : ErrorKind → Type 0 = EarlyError u x in
    let p = step_part u.step u.bytes (begun u.at u.notes.starved u.notes.auths x) in
    let e : Ends P x.talk p.engine.talk = ends-as (StepError u.at u.step x) P x.talk p.engine.talk (λ k h. inl h) (ends-part u x) in
    let n = length p.engine.unread in
    if_by (λ (y : Progress). Ends P x.talk y.engine.talk) (is_piece u.step) (reads n p) p
    (λ h. ends-then P x.talk p.engine.talk (reads n p).engine.talk e
    (ends-as (Comes p) P p.engine.talk (reads n p).engine.talk
    (λ k c. inr (record { piece = h; before = c.before; goes_on = c.goes_on; readable = c.readable; error_read = c.error_read; final = c.final })) (ends-reads n p)))
    (λ h. e)

-- ---- writes

or-left : (a b : Bool) → a ≡ true → (a || b) ≡ true
or-left true b h = refl
or-left false b h = cc

-- close-ok was sent after a close with this error, and the session does not recover
abbrev SentError : Bool → Talk → ErrorKind → Type 0
SentError is_sent t (ProtocolError e) =
    IsTrue is_sent × (t.server_close ≡ Some (WithError e)) × IsTrue (is_open t) × IsTrue (is_final (ProtocolError e) t)
SentError is_sent t _ = ⊥

ends-follow : (th : Then) (t : Talk) → is_open t ≡ true → Ends (SentError (is_finish th) t) t (follow th t)
ends-follow Nothing t opened = ends-kept _ t t refl
ends-follow (Answer n) t opened = ends-kept _ t _ refl
ends-follow (Pays n) t opened = ends-kept _ t _ (pay-keeps end_of (λ u cs ns. refl) (channel_at n t) n t)
ends-follow Finish t opened = ends-finish _ t.server_close t t (λ e h last. (refl, h, opened, last))

finish-closed : (o : Option ServerClose) (t : Talk) (e : AMQPError) → (finish_by o t).server_close ≡ Some (WithError e) → t.server_close ≡ Some (WithError e)
finish-closed None t e h = h
finish-closed (Some WithoutError) t e h = h
finish-closed (Some (WithError told)) t e h =
    lose-case (λ (x : Talk). x.server_close ≡ Some (WithError e) → t.server_close ≡ Some (WithError e)) (ProtocolError told) t (λ delay none. cc) (λ same. same) h

follow-closed : (th : Then) (t : Talk) (e : AMQPError) → (follow th t).server_close ≡ Some (WithError e) → t.server_close ≡ Some (WithError e)
follow-closed Nothing t e h = h
follow-closed (Answer n) t e h = h
follow-closed (Pays n) t e h = sym (pay-keeps (λ (x : Talk). x.server_close) (λ u cs ns. refl) (channel_at n t) n t) ∙ h
follow-closed Finish t e h = finish-closed t.server_close t e h

-- where the link is still open, the session recovers as before
follow-final : (th : Then) (t : Talk) (k : ErrorKind) → is_open (follow th t) ≡ true → is_final k (follow th t) ≡ is_final k t
follow-final Nothing t k now = refl
follow-final (Answer n) t k now = refl
follow-final (Pays n) t k now = pay-keeps (is_final k) (λ u cs ns. refl) (channel_at n t) n t
follow-final Finish t k now = absurd (true≢false (sym now ∙ (off-finish t.server_close t).opened))

sent-first : (m : Mark) (ms : List Mark) (n : ℕ) (t : Talk) → nat_le m.left n ≡ true → (k : ErrorKind)
    → SentError (is_finish m.«then») (record t { committed = drop 1 t.committed }) k → SentError (sends_close_ok n (m ∷ ms)) t k
sent-first m ms n t le (ProtocolError e) h =
    (and-true (nat_le m.left n) _ le (or-left (is_finish m.«then») (sends_close_ok (n - m.left) ms) h.0), h.1, h.2, h.3)
sent-first m ms n t le _ h = h

sent-later : (m : Mark) (ms : List Mark) (n : ℕ) (t : Talk) → nat_le m.left n ≡ true → (k : ErrorKind)
    → SentError (sends_close_ok (n - m.left) ms) (sent m t) k → SentError (sends_close_ok n (m ∷ ms)) t k
sent-later m ms n t le (ProtocolError e) h =
    let first : Talk = record t { committed = drop 1 t.committed } in (
      and-true (nat_le m.left n) _ le (or-right (is_finish m.«then») (sends_close_ok (n - m.left) ms) h.0),
      follow-closed m.«then» first e h.1,
      kept-open first (sent m t) (follow-link m.«then» first) h.2,
      sym (follow-final m.«then» first (ProtocolError e) h.2) ∙ h.3,
    )
sent-later m ms n t le _ h = h

ends-sent : (ms : List Mark) (n : ℕ) (t : Talk) → Ends (SentError (sends_close_ok n ms) t) t (sent_among ms n t)
ends-sent [] n t = ends-kept _ t t refl
ends-sent (m ∷ ms) n t =
    let P : ErrorKind → Type 0 = SentError (sends_close_ok n (m ∷ ms)) t in
    let x = sent m t in
    let first : Talk = record t { committed = drop 1 t.committed } in
    let last = sent_among ms (n - m.left) x in
    let part : Talk = record t { committed = record m { left = m.left - n } ∷ ms } in
    if_by (Ends P t) (is_open t) (if nat_le m.left n then last else part) t
    (λ opened. if_by (Ends P t) (nat_le m.left n) last part
    (λ h. ends-then P t x last (ends-then P t first x (ends-kept P t first refl)
    (ends-as (SentError (is_finish m.«then») first) P first x (sent-first m ms n t h) (ends-follow m.«then» first opened)))
    (ends-as (SentError (sends_close_ok (n - m.left) ms) x) P x last (sent-later m ms n t h) (ends-sent ms (n - m.left) x)))
    (λ h. ends-kept P t part refl))
    (λ closed. ends-kept P t t refl)

-- the error of a write that is answered so
abbrev WroteError : Wrote → Engine → ErrorKind → Type 0
WroteError w x (IOError fault) = (fault ≡ BrokenPipe) × (w ≡ Failed) × IsTrue (is_final (IOError BrokenPipe) x.talk)
WroteError w x (ProtocolError e) = IsTrue (is_last w x) × (x.talk.server_close ≡ Some (WithError e)) × IsTrue (is_final (ProtocolError e) x.talk)
WroteError w x _ = ⊥

failed-lost : (x : Engine) (k : ErrorKind) → LostError BrokenPipe x.talk k → WroteError Failed x k
failed-lost x (IOError fault) h = (h.1, refl, h.2)
failed-lost x (ProtocolError e) h = (refl, h.1, h.2)
failed-lost x _ h = h

took-sent : (at n : ℕ) (x : Engine) (k : ErrorKind)
    → SentError (sends_close_ok n (present_at at x.talk).committed) (present_at at x.talk) k → WroteError (Took n) x k
took-sent at n x (ProtocolError e) h = (
  ap (sends_close_ok n) (sym (present-keeps (λ t. t.committed) at x.talk (λ m. refl))) ∙ h.0,
  sym (present-keeps (λ t. t.server_close) at x.talk (λ m. refl)) ∙ h.1,
  sym (final-present at (ProtocolError e) x.talk) ∙ h.3,
)
took-sent at n x _ h = absurd h

ends-taken : (n : ℕ) (t : Talk) → Ends (SentError (sends_close_ok n t.committed) t) t (taken n t)
ends-taken n t =
    let P : ErrorKind → Type 0 = SentError (sends_close_ok n t.committed) t in
    let u : Talk = record t { last_write = t.present } in
    let Q : ErrorKind → Type 0 = SentError (sends_close_ok n t.committed) u in
    let e : Ends Q u (sent_among t.committed n u) = ends-sent t.committed n u in
    if_case (Ends P t) (is_open t && not (n == 0)) (sent_among t.committed n u) t
    (ends-then P t u (sent_among t.committed n u) (ends-kept P t u refl) (ends-as Q P u (sent_among t.committed n u) (moved t.committed) e)) (ends-kept P t t refl)
  where
    moved : (ms : List Mark) (k : ErrorKind) → SentError (sends_close_ok n ms) (record t { last_write = t.present }) k → SentError (sends_close_ok n ms) t k
    moved ms (ProtocolError e) h = h
    moved ms _ h = h

ends-took : (P : ErrorKind → Type 0) (at n : ℕ) (x : Engine)
    → ((k : ErrorKind) → SentError (sends_close_ok n (present_at at x.talk).committed) (present_at at x.talk) k → P k) → Ends P x.talk (took at n x).talk
ends-took P at n x f =
    let t = present_at at x.talk in
    let after : Engine = record x { talk = taken n t; unsent = drop n x.unsent } in
    ends-settled P x.talk after
    (ends-present P at x.talk (taken n t) (ends-as (SentError (sends_close_ok n t.committed) t) P t (taken n t) f (ends-taken n t)))

pub taken-none : (t : Talk) → taken 0 t ≡ t
taken-none t = if-false (is_open t && not (0 == 0)) (sent_among t.committed 0 (record t { last_write = t.present })) t (and-false (is_open t) (not (0 == 0)) refl)

ends-wrote : (at : ℕ) (w : Wrote) (x : Engine) → Ends (WroteError w x) x.talk (wrote at w x).talk
ends-wrote at Failed x = ends-as (LostError BrokenPipe x.talk) (WroteError Failed x) x.talk _ (failed-lost x) (ends-lost-at at BrokenPipe x)
ends-wrote at (Took n) x = ends-took (WroteError (Took n) x) at n x (took-sent at n x)
ends-wrote at WroteNoMemory x =
    let P : ErrorKind → Type 0 = WroteError WroteNoMemory x in
    let t = present_at at x.talk in
    let after : Engine = record x { talk = taken 0 t; unsent = drop 0 x.unsent } in
    ends-settled P x.talk after (ends-present P at x.talk (taken 0 t) (ends-kept P t (taken 0 t) (ap end_of (taken-none t))))

-- the error of an offer that is answered so
abbrev pub OfferError : Wrote → Engine → ErrorKind → Type 0
OfferError w x (IOError fault) = (fault ≡ BrokenPipe) × (w ≡ Failed) × IsTrue (is_final (IOError BrokenPipe) x.talk)
OfferError w x (ProtocolError e) =
    IsTrue (is_last w (commit_all x)) × (x.talk.server_close ≡ Some (WithError e)) × IsTrue (is_final (ProtocolError e) x.talk)
OfferError w x _ = ⊥

commits-final : (k : ErrorKind) (x : Engine) → is_final k (commit_all x).talk ≡ is_final k x.talk
commits-final k x = commits-keep (λ (y : Engine). is_final k y.talk) (λ y fs ms bytes. refl) (frames_waiting x.talk) x

offer-wrote : (w : Wrote) (x : Engine) (k : ErrorKind) → WroteError w (commit_all x) k → OfferError w x k
offer-wrote w x (IOError fault) h = (h.0, h.1, sym (commits-final (IOError BrokenPipe) x) ∙ h.2)
offer-wrote w x (ProtocolError e) h = (
  h.0,
  sym (commits-keep (λ (y : Engine). y.talk.server_close) (λ y fs ms bytes. refl) (frames_waiting x.talk) x) ∙ h.1,
  sym (commits-final (ProtocolError e) x) ∙ h.2,
)
offer-wrote w x _ h = h

pub ends-answered : (at : ℕ) (w : Wrote) (x : Engine) → Ends (OfferError w x) x.talk (answered at w x).talk
ends-answered at w x =
    let P : ErrorKind → Type 0 = OfferError w x in
    let c = commit_all x in
    let same : end_of c.talk ≡ end_of x.talk = commits-keep (λ (y : Engine). end_of y.talk) (λ y fs ms bytes. refl) (frames_waiting x.talk) x in
    ends-then P x.talk c.talk (answered at w x).talk (ends-kept P x.talk c.talk same)
    (ends-as (WroteError w c) P c.talk (answered at w x).talk (offer-wrote w x) (ends-wrote at w c))

-- among these writes is the last, after a close with this error
pub record Closes (error : AMQPError) (ws : List Wrote) (p : Progress) : Type 0 where
  before : List Wrote
  answer : Wrote
  after : List Wrote
  answers : ws ≡ before ++ answer ∷ after
  last : IsTrue (is_last answer (commit_all (drain before p).engine))
  closed : (drain before p).engine.talk.server_close ≡ Some (WithError error)
  final : IsTrue (is_final (ProtocolError error) (drain before p).engine.talk)

-- one of these writes failed, and the session does not recover
pub record Fails (ws : List Wrote) (p : Progress) : Type 0 where
  before : List Wrote
  after : List Wrote
  answers : ws ≡ before ++ Failed ∷ after
  final : IsTrue (is_final (IOError BrokenPipe) (drain before p).engine.talk)

-- the error of these writes
abbrev pub WritesError : List Wrote → Progress → ErrorKind → Type 0
WritesError ws p (IOError fault) = (fault ≡ BrokenPipe) × Fails ws p
WritesError ws p (ProtocolError e) = Closes e ws p
WritesError ws p (SerialisationError size) = IsTrue (goes (drain ws p)) × (overlong_next (drain ws p).engine ≡ Some size)
WritesError ws p _ = ⊥

writes-first : (w : Wrote) (ws : List Wrote) (p : Progress) (k : ErrorKind) → OfferError w p.engine k → WritesError (w ∷ ws) p k
writes-first w ws p (IOError fault) h = (h.0, record { before = []; after = ws; answers = ap (λ v. v ∷ ws) h.1; final = h.2 })
writes-first w ws p (ProtocolError e) h = record { before = []; answer = w; after = ws; answers = refl; last = h.0; closed = h.1; final = h.2 }
writes-first w ws p (SerialisationError size) h = absurd h
writes-first w ws p _ h = h

writes-later : (w : Wrote) (ws : List Wrote) (p : Progress) (k : ErrorKind) → WritesError ws (offer_part w p) k → WritesError (w ∷ ws) p k
writes-later w ws p (IOError fault) h =
    (h.0, record { before = w ∷ h.1.before; after = h.1.after; answers = ap (λ vs. w ∷ vs) h.1.answers; final = h.1.final })
writes-later w ws p (ProtocolError e) h =
    record { before = w ∷ h.before; answer = h.answer; after = h.after; answers = ap (λ vs. w ∷ vs) h.answers; last = h.last; closed = h.closed; final = h.final }
writes-later w ws p _ h = h

-- a frame that can't go out is in the way
ends-overlong : (P : ErrorKind → Type 0) (o : Option ℕ) (x : Engine) → ((size : ℕ) → o ≡ Some size → P (SerialisationError size)) → Ends P x.talk (ended_overlong o x).talk
ends-overlong P None x p = ends-kept P x.talk x.talk refl
ends-overlong P (Some size) x p =
    ends-settled P x.talk (with_talk (end_overlong (Some size)) (commit_all x)) (ends-fail P (SerialisationError size) x.talk (commit_all x).talk (p size refl))

pub ends-drained : (ws : List Wrote) (p : Progress) → Ends (WritesError ws p) p.engine.talk (drained ws p).engine.talk
ends-drained [] p =
    let P : ErrorKind → Type 0 = WritesError [] p in
    if_by (λ (q : Progress). Ends P p.engine.talk q.engine.talk) (goes p) (record p { engine = refuse_overlong p.engine }) p
    (λ on. ends-overlong P (overlong_next p.engine) p.engine (λ size is. (on, is)))
    (λ off. ends-kept P p.engine.talk p.engine.talk refl)
ends-drained (w ∷ ws) p =
    let P : ErrorKind → Type 0 = WritesError (w ∷ ws) p in
    let x = offer_part w p in
    let last = drained ws x in
    let first : Ends P p.engine.talk x.engine.talk =
    ends-as (OfferError w p.engine) P p.engine.talk x.engine.talk (writes-first w ws p) (ends-answered p.at w p.engine) in
    if_case (λ (q : Progress). Ends P p.engine.talk q.engine.talk) (is_all w (length (offered p.engine))) last x
    (ends-then P p.engine.talk x.engine.talk last.engine.talk first
    (ends-as (WritesError ws x) P x.engine.talk last.engine.talk (writes-later w ws p) (ends-drained ws x)))
    first

-- ---- a turn

-- what is read brings no fault, refuses no memory and takes no turn more
pub not-a-fault : (fault : IoFault) (r : Read) (answers : List Asked) (x : Engine) → IsReadError (IOError fault) r answers x → ⊥
not-a-fault fault (reading.Whole f n) answers x h = h.1.1
not-a-fault fault (reading.TooLarge size) answers x h = let clash = h.1 in cc
not-a-fault fault (reading.BadHeartbeat channel) answers x h = let clash = h.1 in cc
not-a-fault fault reading.Bad answers x h = let clash = h.1 in cc
not-a-fault fault _ answers x h = h

not-memory : (r : Read) (answers : List Asked) (x : Engine) → IsReadError NoMemory r answers x → ⊥
not-memory (reading.Whole f n) answers x h = h.1.1
not-memory (reading.TooLarge size) answers x h = let clash = h.1 in cc
not-memory (reading.BadHeartbeat channel) answers x h = let clash = h.1 in cc
not-memory reading.Bad answers x h = let clash = h.1 in cc
not-memory _ answers x h = h

not-silence : (r : Read) (answers : List Asked) (x : Engine) → IsReadError MissingHeartbeatError r answers x → ⊥
not-silence (reading.Whole f n) answers x h = h.1.1
not-silence (reading.TooLarge size) answers x h = let clash = h.1 in cc
not-silence (reading.BadHeartbeat channel) answers x h = let clash = h.1 in cc
not-silence reading.Bad answers x h = let clash = h.1 in cc
not-silence _ answers x h = h

not-overlong : (size : ℕ) (r : Read) (answers : List Asked) (x : Engine) → IsReadError (SerialisationError size) r answers x → ⊥
not-overlong size (reading.Whole f n) answers x h = h.1.1
not-overlong size (reading.TooLarge n) answers x h = let clash = h.1 in cc
not-overlong size (reading.BadHeartbeat channel) answers x h = let clash = h.1 in cc
not-overlong size reading.Bad answers x h = let clash = h.1 in cc
not-overlong size _ answers x h = h

pub not-turns : (r : Read) (answers : List Asked) (x : Engine) → IsReadError OutOfTurns r answers x → ⊥
not-turns (reading.Whole f n) answers x h = h.1.1
not-turns (reading.TooLarge size) answers x h = let clash = h.1 in cc
not-turns (reading.BadHeartbeat channel) answers x h = let clash = h.1 in cc
not-turns reading.Bad answers x h = let clash = h.1 in cc
not-turns _ answers x h = h

early-cause : (u : Turn) (x : Engine) (k : ErrorKind) → EarlyError u x k → IsCause k u x
early-cause u x (IOError fault) h = elim h [ inl e ↦ inl e | inr r ↦ absurd (not-a-fault fault _ _ _ r.error_read) ]
early-cause u x (ProtocolError e) h = elim h [ inl l ↦ inr (inl l) | inr r ↦ inl r ]
early-cause u x MissingHeartbeatError h = elim h [ inl silence ↦ silence | inr r ↦ absurd (not-silence _ _ _ r.error_read) ]
early-cause u x (SerialisationError size) h = elim h [ inl e ↦ absurd e | inr r ↦ absurd (not-overlong size _ _ _ r.error_read) ]
early-cause u x NoMemory h = elim h [ inl e ↦ absurd e | inr r ↦ absurd (not-memory _ _ _ r.error_read) ]
early-cause u x _ h = elim h [ inl e ↦ absurd e | inr r ↦ r ]

-- that one failed is noted, and those before it took bytes
failed-noted : (ks : List ℕ) (b : Bool) (before after : List Wrote) → (map Took ks ++ (if b then Failed ∷ [] else [])) ≡ (before ++ Failed ∷ after)
    → (b ≡ true) × (map Took ks ≡ before)
failed-noted [] true [] after h = (refl, refl)
failed-noted [] true (w ∷ []) after h = cc
failed-noted [] true (w ∷ (v ∷ vs)) after h = cc
failed-noted [] false [] after h = cc
failed-noted [] false (w ∷ ws) after h = cc
failed-noted (k ∷ ks) b [] after h = cc
failed-noted (k ∷ ks) b (w ∷ ws) after h =
    let rest : map Took ks ++ (if b then Failed ∷ [] else []) ≡ ws ++ Failed ∷ after = cc in
    let later = failed-noted ks b ws after rest in
    let first : Took k ≡ w = cc in
    (later.0, ap (λ vs. Took k ∷ vs) later.1 ∙ ap (λ v. v ∷ ws) first)

fails-to-write : (u : Turn) (x : Engine) → Fails (write_answers u.notes) (read u x) → FailsToWrite u x
fails-to-write u x h =
    let noted = failed-noted u.notes.tooks u.notes.failed h.before h.after h.answers in
    let Q : List Wrote → Type 0 = λ ws. IsTrue (is_final (IOError BrokenPipe) (drain ws (read u x)).engine.talk) in
    (noted.0, subst Q (sym noted.1) h.final)

writes-cause : (u : Turn) (x : Engine) (k : ErrorKind) → WritesError (write_answers u.notes) (read u x) k → IsCause k u x
writes-cause u x (IOError fault) h = inr (h.0, fails-to-write u x h.1)
writes-cause u x (ProtocolError e) h =
    inr (inr (record { before = h.before; answer = h.answer; after = h.after; answers = h.answers; last = h.last; closed = h.closed; final = h.final }))
writes-cause u x (SerialisationError size) h = record { goes_on = h.0; next = h.1 }
writes-cause u x _ h = absurd h

pub starved-cause : (P : ErrorKind → Type 0) (cut : Option ℕ) (at : ℕ) (x : Engine) → (is_some cut ≡ true → P NoMemory) → Ends P x.talk (starved_after cut at x).talk
starved-cause P None at x p = ends-kept P x.talk x.talk refl
starved-cause P (Some j) at x p =
    let t = present_at at x.talk in
    ends-present P at x.talk (starve t) (if_case (Ends P t) (has_ended t) t (fail NoMemory t) (ends-kept P t t refl) (ends-fail P NoMemory t t (p refl)))

ends-applied : (u : Turn) (x : Engine) → Ends (λ k. IsCause k u x) x.talk (applied u x).talk
ends-applied u x =
    let P : ErrorKind → Type 0 = λ k. IsCause k u x in
    let r = read u x in
    let w = after_writes u x in
    ends-then P x.talk w.engine.talk (applied u x).talk
    (ends-then P x.talk r.engine.talk w.engine.talk
    (ends-as (EarlyError u x) P x.talk r.engine.talk (early-cause u x) (ends-read u x))
    (ends-as (WritesError (write_answers u.notes) r) P r.engine.talk w.engine.talk (writes-cause u x) (ends-drained (write_answers u.notes) r)))
    (if_case (λ (y : Engine). Ends P w.engine.talk y.talk) (has_ended x.talk) w.engine (starved_after u.notes.starved u.at w.engine)
    (ends-kept P w.engine.talk w.engine.talk refl) (starved-cause P u.notes.starved u.at w.engine (λ h. h)))

not-before : {A : Type 0} (k : ErrorKind) (t : Talk) → has_ended t ≡ false → end_of t ≡ Some (Err k) → A
not-before k t running h =
    let none : end_of t ≡ None = none-from (end_of t) running in
    cc

turn-cause : (u : Turn) (e : Engine) (k : ErrorKind) → has_ended e.talk ≡ false → end_of (turn u e).talk ≡ Some (Err k) → IsCause k u (asks e)
turn-cause u e k running h =
    elim ((ends-applied u (asks e)).by k h) [ inl before ↦ not-before k e.talk running (sym (asks-end e) ∙ before) | inr cause ↦ cause ]

pub applied-ends : (u : Turn) (e : Engine) (k : ErrorKind) → has_ended e.talk ≡ false → end_of (applied u e).talk ≡ Some (Err k) → IsCause k u e
applied-ends u e k running h = elim ((ends-applied u e).by k h) [ inl before ↦ not-before k e.talk running before | inr cause ↦ cause ]

-- no session ends since no number was free
limit-not : (r : Read) (answers : List Asked) (x : Engine) → IsReadError ChannelsLimitReached r answers x → ⊥
limit-not (reading.Whole f n) answers x h = h.1.1
limit-not (reading.TooLarge size) answers x h = let clash = h.1 in cc
limit-not (reading.BadHeartbeat channel) answers x h = let clash = h.1 in cc
limit-not reading.Bad answers x h = let clash = h.1 in cc
limit-not _ answers x h = h

pub never-limit : (u : Turn) (e : Engine) → has_ended e.talk ≡ false → end_of (applied u e).talk ≡ Some (Err ChannelsLimitReached) → ⊥
never-limit u e running h = limit-not _ _ _ (applied-ends u e ChannelsLimitReached running h).error_read

-- the turn that is applied brings the error about
pub applied-cause : (at : ℕ) (step : Step) (bytes : List ℕ) (notes : Notes) (e e' : Engine) (log log' : Option Log) (k : ErrorKind)
    → Applies at step bytes notes e e' log log' → has_ended e.talk ≡ false → end_of e'.talk ≡ Some (Err k) → IsCause k (turn_of at step bytes notes) e
applied-cause at step bytes notes e e' log log' k a running h =
    elim ((ends-applied (turn_of at step bytes notes) e).by k (ap (λ (x : Engine). end_of x.talk) a.leaves ∙ h)) [
      | inl before ↦ not-before k e.talk running before
      | inr cause ↦ cause
    ]

-- ---- turns

-- turns that end the session with an error have a last one that brings it about
pub turns-cause : (us : List Turn) (e : Engine) (k : ErrorKind) → has_ended e.talk ≡ false → AreTurns us e → end_of (turns us e).talk ≡ Some (Err k) → IsCaused k us e
turns-cause [] e k running may h = not-before k e.talk running h
turns-cause (u ∷ []) e k running may h = record { before = []; last = u; split = refl; cause = turn-cause u e k running h }
turns-cause (u ∷ (v ∷ vs)) e k running may h =
    let later = turns-cause (v ∷ vs) (turn u e) k may.1.0.running may.1 h in
    record { before = u ∷ later.before; last = later.last; split = ap (λ ws. u ∷ ws) later.split; cause = later.cause }

-- and so does a run
pub runs-cause : (n : ℕ) (e e' : Engine) (log log' : Option Log) (k : ErrorKind) → (r : Runs n e e' log log') → has_ended e.talk ≡ false
    → end_of e'.talk ≡ Some (Err k) → IsCaused k r.us e
runs-cause n e e' log log' k r running h = turns-cause r.us e k running r.leads.may (ap (λ (x : Engine). end_of x.talk) r.leads.leaves ∙ h)
