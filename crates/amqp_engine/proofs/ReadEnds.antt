-- How reading may end a session.
use Rattle.std.proofs.Common.{◌≡◌, ◌⊎◌, inl, inr, ℕ, zero, suc, ◌+◌, ◌&&◌, Bool, true, false, if◌then◌else◌, IsTrue, drop, Option, Some, None, is_none, Err, refl, ap, sym, ◌∙◌, subst, List}
use Rattle.amqp_frame.specs.declared.frame.Frame.{Frame}
use Rattle.amqp_frame.specs.declared.frame.Frame.TheVariants.{ProtocolHeader, Method}
use Rattle.amqp_frame.specs.declared.frame.Read.{Read}
use Rattle.amqp_frame.specs.declared.frame.Read.TheVariants as reading
use Rattle.amqp_frame.specs.declared.method.Method.{Method as AnyMethod}
use Rattle.amqp_frame.specs.declared.method.Method.TheVariants.{ChannelOpenOk, ChannelClose, ChannelCloseOk, ChannelFlow, ChannelFlowOk}
use Rattle.amqp_violations.specs.declared.misread.Misread.{Misread}
use Rattle.amqp_violations.specs.declared.misread.Misread.TheVariants as why
use Rattle.amqp_promise.specs.declared.error.ErrorKind.{ErrorKind}
use Rattle.amqp_promise.specs.declared.error.ErrorKind.TheVariants.{InvalidProtocolVersion, InvalidChannel, InvalidConnectionState, ProtocolError, AuthProviderError}
use Rattle.amqp_auth.specs.declared.asked.Question.{Question}
use Rattle.amqp_auth.specs.declared.asked.Asked.{Asked}
use Rattle.amqp_rules.specs.Talk.{Talk, is_acting, acts, hears_on, is_open, has_ended, end_of}
use Rattle.amqp_rules.specs.Negotiation.{frame_limit}
use Rattle.amqp_rules.specs.Recovery.{recovery_delay}
use Rattle.amqp_rules.specs.Changes.{present_at, lose}
use Rattle.amqp_rules.specs.Links.{dropped, misread}
use Rattle.amqp_violations.specs.Violations.{misread_error}
use Rattle.amqp_rules.specs.Frames.{questions_in, frame_rule, closed_rule, on_frame}
use Rattle.amqp_engine.specs.Plan.{at_most_64}
use Rattle.amqp_engine.specs.Engine.{Engine, settle, front_of, can_read, read_row, read_badly, read_one, rule_at}
use Rattle.amqp_engine.specs.Turn.{Progress, goes, reads, read_part}
use Rattle.amqp_rules.specs.Causes.{IsFrameError, IsJudgedError, IsUnawaited, IsUndue, is_awaited, refused_in}
use Rattle.amqp_engine.specs.Causes.{is_final, IsReadError}
use Rattle.amqp_types.proofs.Small.{if_case, if_by, if-true, if-false, and-left, and-right}
use Rattle.amqp_rules.proofs.Ends.{Ends, ends-kept, ends-unrecovered, ends-to, ends-as, ends-then, ends-present}
use Rattle.amqp_rules.proofs.Keeping.{present-keeps}
use Rattle.amqp_frame.proofs.FrontStays.{is_memory, says-front}
use Rattle.amqp_engine.proofs.Settling.{settle-talk}
use Rattle.amqp_rules.proofs.FrameErrors.{frame-errors}
use Rattle.amqp_rules.proofs.FrameEnds.{end-closed}

-- ---- the errors of a frame

abbrev FrameCause : Frame → List Asked → Talk → ErrorKind → Type 0
FrameCause f answers t k = (IsTrue (is_acting t.input) × IsFrameError k f answers t) × IsTrue (is_final k t)

final-from : (k : ErrorKind) (t : Talk) → recovery_delay k t ≡ None → is_final k t ≡ true
final-from k t none = ap (λ (o : Option ℕ). is_none o) none

ends-acting : (f : Frame) (answers : List Asked) (t : Talk) → Ends (FrameCause f answers t) t (on_frame f answers t)
ends-acting f answers t = record { by = λ k h. by (acts t) refl k h }
  where
    by : (b : Bool) → acts t ≡ b → (k : ErrorKind) → end_of (on_frame f answers t) ≡ Some (Err k) → (end_of t ≡ Some (Err k)) ⊎ FrameCause f answers t k
    by false idle k h =
        let otherwise : Talk = if hears_on t then closed_rule f t else t in
        let kept : end_of otherwise ≡ end_of t =
        if_case (λ (x : Talk). end_of x ≡ end_of t) (hears_on t) (closed_rule f t) t (end-closed f t) refl in
        inl (sym (ap end_of (if-false (acts t) (frame_rule f answers t) otherwise idle) ∙ kept) ∙ h)
    by true acting k h =
        let cause = (frame-errors k f answers t acting).0 h in
        inr ((and-right (is_open t) (is_acting t.input) acting, cause.0), final-from k t cause.1)

-- ---- errors do not look at the moment

moment-awaited : (m : AnyMethod) (c n : ℕ) (t : Talk) → is_awaited m c (record t { present = n }) ≡ is_awaited m c t
moment-awaited ChannelOpenOk c n t = refl
moment-awaited ChannelCloseOk c n t = refl
moment-awaited (ChannelFlow active) c n t = refl
moment-awaited (ChannelClose code text class method) c n t = refl
moment-awaited (ChannelFlowOk active) c n t = refl
moment-awaited _ c n t = refl

moment-unawaited : (n : ℕ) (e : ErrorKind) (f : Frame) (t : Talk) → IsUnawaited e f (record t { present = n }) → IsUnawaited e f t
moment-unawaited n e (Method (suc c) m) t h = (h.0, h.1, sym (moment-awaited m (suc c) n t) ∙ h.2, h.3)
moment-unawaited n e _ t h = h

moment-undue : (n : ℕ) (f : Frame) (t : Talk) → IsUndue f (record t { present = n }) → IsUndue f t
moment-undue n (Method zero m) t h = h
moment-undue n _ t h = h

moment-rule : (n : ℕ) (k : ErrorKind) (f : Frame) (t : Talk) → IsJudgedError k f (record t { present = n }) → IsJudgedError k f t
moment-rule n (InvalidConnectionState state) f t h = (moment-undue n f t h.0, h.1)
moment-rule n (InvalidChannel channel) f t h = h
moment-rule n (ProtocolError e) f t h = elim h [ inl p ↦ inl p | inr p ↦ inr (moment-unawaited n (ProtocolError e) f t p) ]
moment-rule n _ f t h = h

moment-asked : (n : ℕ) (f : Frame) (t : Talk) → questions_in f (record t { present = n }) ≡ questions_in f t
moment-asked n (Method zero m) t = refl
moment-asked n _ t = refl

moment-frame : (n : ℕ) (k : ErrorKind) (f : Frame) (answers : List Asked) (t : Talk) → IsFrameError k f answers (record t { present = n }) → IsFrameError k f answers t
moment-frame n (InvalidProtocolVersion version) (ProtocolHeader v) answers t h = h
moment-frame n (AuthProviderError text) f answers t h = subst (λ (q : List Question). refused_in q answers ≡ Some text) (moment-asked n f t) h
moment-frame n k f answers t h = (h.0, moment-rule n k f t h.1)

moment-error : (n : ℕ) (k : ErrorKind) (r : Read) (answers : List Asked) (x : Engine) → IsReadError k r answers (record x { talk = record x.talk { present = n } }) → IsReadError k r answers x
moment-error n k (reading.Whole f size) answers x h = (h.0, moment-frame n k f answers x.talk h.1)
moment-error n k _ answers x h = h

present-error : (at : ℕ) (r : Read) (answers : List Asked) (x : Engine) (k : ErrorKind) → IsReadError k r answers (rule_at at (λ t. t) x) → IsReadError k r answers x
present-error at r answers x k =
    if_case (λ (t : Talk). IsReadError k r answers (record x { talk = t }) → IsReadError k r answers x) (has_ended x.talk) x.talk (record x.talk { present = _ })
    (λ h. h) (λ h. moment-error _ k r answers x h)

-- what stands at the front ends the session by this error
abbrev pub ReadEnd : Read → List Asked → Engine → ErrorKind → Type 0
ReadEnd r answers x k = IsReadError k r answers x × IsTrue (is_final k x.talk)

-- that a session does not recover does not look at the moment
pub final-present : (at : ℕ) (k : ErrorKind) (t : Talk) → is_final k (present_at at t) ≡ is_final k t
final-present at k t = present-keeps (is_final k) at t (λ n. refl)

present-end : (at : ℕ) (r : Read) (answers : List Asked) (x : Engine) (k : ErrorKind) → ReadEnd r answers (rule_at at (λ t. t) x) k → ReadEnd r answers x k
present-end at r answers x k h = (present-error at r answers x k h.0, sym (final-present at k x.talk) ∙ h.1)

pub ends-settled : (P : ErrorKind → Type 0) (t : Talk) (x : Engine) → Ends P t x.talk → Ends P t (settle x).talk
ends-settled P t x e = ends-to P t x.talk (settle x).talk (settle-talk x) e

-- ---- reading

ends-misread : (P : ErrorKind → Type 0) (w : Misread) (t : Talk)
    → (IsTrue (is_acting t.input) → recovery_delay (misread_error w) t ≡ None → P (misread_error w)) → Ends P t (misread w t)
ends-misread P w t p =
    if_by (Ends P t) (acts t) (lose (misread_error w) t) (if is_open t then record t { input = dropped t.input } else t)
    (λ acting. ends-unrecovered P (misread_error w) t t (p (and-right (is_open t) (is_acting t.input) acting)))
    (λ idle. if_case (Ends P t) (is_open t) (record t { input = dropped t.input }) t (ends-kept P t _ refl) (ends-kept P t t refl))

ends-badly : (at : ℕ) (r : Read) (w : Misread) (answers : List Asked) (x : Engine) → (IsTrue (is_acting x.talk.input) → IsReadError (misread_error w) r answers x)
    → Ends (ReadEnd r answers x) x.talk (read_badly at w x).talk
ends-badly at r w answers x p =
    let P : ErrorKind → Type 0 = ReadEnd r answers x in
    let t = present_at at x.talk in
    let input : is_acting t.input ≡ is_acting x.talk.input = present-keeps (λ (u : Talk). is_acting u.input) at x.talk (λ n. refl) in
    ends-settled P x.talk (rule_at at (misread w) x)
    (ends-present P at x.talk (misread w t)
    (ends-misread P w t (λ acting none. (p (sym input ∙ acting), sym (final-present at (misread_error w) x.talk) ∙ final-from (misread_error w) t none))))

pub ends-read-row : (at : ℕ) (r : Read) (answers : List Asked) (x : Engine) → is_memory r ≡ false → Ends (ReadEnd r answers x) x.talk (read_row at r answers x).talk
ends-read-row at (reading.Whole f n) answers x none =
    let P : ErrorKind → Type 0 = ReadEnd (reading.Whole f n) answers x in
    let now : Engine = rule_at at (λ t. t) x in
    let after : Engine = record x { talk = on_frame f answers (present_at at x.talk); unread = drop n x.unread; place = at_most_64 (x.place + n) } in
    ends-settled P x.talk after
    (ends-present P at x.talk after.talk (ends-as (FrameCause f answers now.talk) P now.talk after.talk (present-end at (reading.Whole f n) answers x) (ends-acting f answers now.talk)))
ends-read-row at (reading.TooLarge size) answers x none = ends-badly at (reading.TooLarge size) (why.TooLarge size) answers x (λ acting. (acting, refl))
ends-read-row at (reading.BadHeartbeat channel) answers x none = ends-badly at (reading.BadHeartbeat channel) (why.BadHeartbeat channel) answers x (λ acting. (acting, refl))
ends-read-row at reading.More answers x none = ends-kept _ x.talk x.talk refl
ends-read-row at reading.Bad answers x none = ends-badly at reading.Bad (why.Bad x.place) answers x (λ acting. (acting, refl))
ends-read-row at reading.NoMemory answers x none = cc

pub ends-read-one : (at : ℕ) (answers : List Asked) (x : Engine) → Ends (ReadEnd (front_of x) answers x) x.talk (read_one at answers x).talk
ends-read-one at answers x = ends-read-row at (front_of x) answers x ((says-front (frame_limit x.talk)).held x.unread)

-- the reading from here on comes to what brings this error
pub record Comes (p : Progress) (k : ErrorKind) : Type 0 where
  pub before : ℕ
  pub goes_on : IsTrue (goes (reads before p))
  pub readable : IsTrue (can_read (reads before p).engine)
  pub error_read : IsReadError k (front_of (reads before p).engine) (reads before p).answers (reads before p).engine
  pub final : IsTrue (is_final k (reads before p).engine.talk)

comes-later : (p : Progress) (k : ErrorKind) → (goes p && can_read p.engine) ≡ true → Comes (read_part p) k → Comes p k
comes-later p k h c =
    let same : reads (suc c.before) p ≡ reads c.before (read_part p) = if-true (goes p && can_read p.engine) (reads c.before (read_part p)) p h in
    let G : Progress → Type 0 = λ x. IsTrue (goes x) in
    let P : Progress → Type 0 = λ x. IsTrue (can_read x.engine) in
    let Q : Progress → Type 0 = λ x. IsReadError k (front_of x.engine) x.answers x.engine in
    let F : Progress → Type 0 = λ x. IsTrue (is_final k x.engine.talk) in
    record {
      before = suc c.before;
      goes_on = subst G (sym same) c.goes_on;
      readable = subst P (sym same) c.readable;
      error_read = subst Q (sym same) c.error_read;
      final = subst F (sym same) c.final;
    }

pub ends-reads : (n : ℕ) (p : Progress) → Ends (Comes p) p.engine.talk (reads n p).engine.talk
ends-reads zero p = ends-kept (Comes p) p.engine.talk p.engine.talk refl
ends-reads (suc n) p =
    let P : ErrorKind → Type 0 = Comes p in
    let t = p.engine.talk in
    let x = read_part p in
    if_by (λ (y : Progress). Ends P t y.engine.talk) (goes p && can_read p.engine) (reads n x) p
    (λ h. ends-then P t x.engine.talk (reads n x).engine.talk
    (ends-as (ReadEnd (front_of p.engine) p.answers p.engine) P t x.engine.talk
    (λ k e. record {
      before = zero;
      goes_on = and-left (goes p) (can_read p.engine) h;
      readable = and-right (goes p) (can_read p.engine) h;
      error_read = e.0;
      final = e.1;
    }) (ends-read-one p.at p.answers p.engine))
    (ends-as (Comes x) P x.engine.talk (reads n x).engine.talk (λ k c. comes-later p k h c) (ends-reads n x)))
    (λ h. ends-kept P t t refl)
