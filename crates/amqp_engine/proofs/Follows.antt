-- The parts of a turn keep the tie of a faultless server with the session: a new session, the step, what is read, and what is written.
use Rattle.std.proofs.Common.{◌≡◌, ◌≢◌, inl, inr, ℕ, ◌+◌, ◌&&◌, not, if◌then◌else◌, Bool, true, false, true≢false, List, [], ◌∷◌, ◌++◌, length, drop, length-append, Some, refl, ap, sym, ◌∙◌, subst, arith}
use Rattle.std.specs.Prelude.{unwrap_or}
use Rattle.amqp_frame.specs.declared.frame.Frame.{Frame}
use Rattle.amqp_frame.specs.declared.frame.Read.{Read}
use Rattle.amqp_frame.specs.declared.frame.Read.TheVariants.{Whole}
use Rattle.amqp_frame.specs.FrameReading.{front}
use Rattle.amqp_frame.specs.Frames.{FrameOf}
use Rattle.amqp_frame.specs.Fronts.{IsWithinLimit}
use Rattle.amqp_frame.proofs.FrontLaws.{front_again}
use Rattle.amqp_auth.specs.declared.asked.Asked.{Asked}
use Rattle.amqp_rules.specs.declared.state.Input.{Input}
use Rattle.amqp_rules.specs.declared.state.Input.TheVariants.{Acting, Closed, Dropped}
use Rattle.amqp_rules.specs.declared.state.Link.{Link}
use Rattle.amqp_rules.specs.declared.state.Link.TheVariants.{Due, Wanted, Asked as AskedLink, Open, Ended}
use Rattle.amqp_outgoing.specs.declared.committed.Mark.{Mark}
use Rattle.amqp_rules.proofs.Keeping.{present-keeps}
use Rattle.amqp_engine.specs.Plan.{at_most_64}
use Rattle.amqp_engine.specs.Sending.{committed_before}
use Rattle.amqp_promise.specs.declared.error.ErrorKind.{ErrorKind}
use Rattle.amqp_maps.specs.Listed.{at}
use Rattle.amqp_rules.specs.Talk.{Talk, is_open, is_asked, is_acting, is_dropped_input, drops_input, is_open_link, is_wanted_link}
use Rattle.amqp_rules.specs.Changes.{present_at}
use Rattle.amqp_rules.specs.Links.{asked, piece}
use Rattle.amqp_rules.specs.Frames.{on_frame, frame_questions}
use Rattle.amqp_rules.specs.Ticks.{is_missed, tick}
use Rattle.amqp_rules.specs.Writing.{taken}
use Rattle.amqp_faultless.specs.Faultless.{Server, heard_from}
use Rattle.amqp_types.proofs.Small.{if_case, if-true, if-false}
use Rattle.amqp_faultless.proofs.Greeted.{IsMet, Heard, AreSaid}
use Rattle.amqp_faultless.proofs.Hears.{heard-met}
use Rattle.amqp_faultless.proofs.Tells.{met-command, met-present, met-piece, met-tick}
use Rattle.amqp_faultless.proofs.Speaks.{GoOn, met-taken, said_all}
use Rattle.amqp_faultless.proofs.FirstAndLast.{IsFresh, kept-least}
use Rattle.amqp_engine.specs.declared.port.Step.{Step}
use Rattle.amqp_engine.specs.declared.port.Step.TheVariants.{Linked, LinkFailed, Piece, End, Fault, Room, Tick, Command}
use Rattle.amqp_engine.specs.Account.{IsNew}
use Rattle.amqp_engine.specs.Engine.{Engine, with_talk, rule_at, settle, step_piece, step_engine, front_of, is_more, read_row, read_one, commit_all, took}
use Rattle.amqp_engine.specs.Turn.{wants_ask, asks}
use Rattle.amqp_frame.proofs.FrontStays.{says-front}
use Rattle.amqp_engine.proofs.Settling.{settle-talk}
use Rattle.amqp_engine.proofs.SpeaksAll.{met-commit-all}

-- ---- a new session

-- a new one is
pub new-fresh : (t : Talk) → IsNew t → IsFresh t
new-fresh t (config, inl is) =
    let P : Talk → Type 0 = IsFresh in
    subst P (sym is) (record { wanted = refl; first = record { made = omega arith; held = refl }; none = refl; room = omega arith; agreed = kept-least (unwrap_or config.uri.query.frame_max 0) })
new-fresh t (config, inr is) =
    let P : Talk → Type 0 = IsFresh in
    subst P (sym is) (record { wanted = refl; first = record { made = omega arith; held = refl }; none = refl; room = omega arith; agreed = kept-least (unwrap_or config.uri.query.frame_max 0) })

-- ---- the front of what is unread

-- a frame that is begun, and not whole
pub front-begun : (f : Frame) (begun rest : List ℕ) (limit : ℕ) → FrameOf f (begun ++ rest) → IsWithinLimit limit (length (begun ++ rest)) f → rest ≢ []
    → is_more (front begun limit) ≡ true
front-begun f begun rest limit spelled within some = by (is_more (front begun limit)) refl where
  nothing : (xs : List ℕ) → length xs ≡ 0 → xs ≡ []
  nothing [] h = refl
  nothing (x ∷ xs) h = absurd (omega (arith, h))

  none : (xs : List ℕ) → xs ++ [] ≡ xs
  none [] = refl
  none (x ∷ xs) = ap (λ ys. x ∷ ys) (none xs)

  by : (b : Bool) → is_more (front begun limit) ≡ b → is_more (front begun limit) ≡ true
  by true is = is
  by false is =
      let whole : front ((begun ++ rest) ++ []) limit ≡ Whole f (length (begun ++ rest)) = front_again f (begun ++ rest) [] limit spelled within in
      let stays : front (begun ++ rest) limit ≡ front begun limit = (says-front limit).stays begun rest is in
      let here : front begun limit ≡ Whole f (length (begun ++ rest)) = sym stays ∙ ap (λ x. front x limit) (sym (none (begun ++ rest))) ∙ whole in
      let size = (says-front limit).size begun f (length (begun ++ rest)) here in
      let sum = length-append begun rest in
      absurd (some (nothing rest (let a = size.1 in omega (arith, a, sum))))

-- ---- reading

-- a frame is read, before what is left is settled
abbrev pub read_whole : ℕ → List Asked → Engine → Frame → ℕ → Engine
read_whole at answers e f n =
    record e { talk = on_frame f answers (present_at at e.talk); unread = drop n e.unread; place = at_most_64 (e.place + n) }

acting-kept : (i : Input) → is_acting i ≡ true → is_dropped_input i ≡ false
acting-kept Acting h = refl
acting-kept (Closed crossed) h = refl
acting-kept (Dropped crossed) h = absurd (true≢false (sym h))

-- while the session is met, the bytes behind the frame stay
pub met-unread : (s : Server) (x : Engine) → IsMet s x.talk → (settle x).unread ≡ x.unread
met-unread s x m =
    let P : Engine → Type 0 = λ y. y.unread ≡ x.unread in
    let kept : Engine = if drops_input x.talk then record x { unread = []; place = 0 } else x in
    let Q : Engine → Type 0 = λ y. y.unread ≡ x.unread in
    ap (λ (y : Engine). y.unread) (if-true (is_open x.talk) kept (record x { unread = []; place = 0; unsent = [] }) m.opened)
    ∙ ap (λ (y : Engine). y.unread) (if-false (drops_input x.talk) (record x { unread = []; place = 0 }) x (acting-kept x.talk.input m.acting))

-- a frame that stands at the front is heard
pub read-heard : (at : ℕ) (answers : List Asked) (e : Engine) (f : Frame) (n : ℕ) (s s' : Server) → IsMet s e.talk → front_of e ≡ Whole f n → heard_from s.stage f s ≡ Some s'
    → AreSaid (frame_questions f (present_at at e.talk)) answers → Heard s' (read_one at answers e).talk
read-heard at answers e f n s s' m is says said =
    let P : Talk → Type 0 = Heard s' in
    let told : (read_one at answers e).talk ≡ on_frame f answers (present_at at e.talk) =
    ap (λ (r : Read). (read_row at r answers e).talk) is ∙ settle-talk _ in
    subst P (sym told) (heard-met f answers s s' (present_at at e.talk) (met-present at s e.talk m) says said)

-- ---- the step

-- a step that brings no link and no end, and no tick that misses a heartbeat
abbrev pub IsCalm : ℕ → Step → Talk → Type 0
IsCalm at Linked t = ⊥
IsCalm at LinkFailed t = ⊥
IsCalm at End t = ⊥
IsCalm at Fault t = ⊥
IsCalm at Tick t = is_missed (present_at at t) ≡ false
IsCalm at _ t = Unit {0}

pub met-step : (at : ℕ) (step : Step) (bytes : List ℕ) (answers : List Asked) (s : Server) (e : Engine) → IsCalm at step e.talk → IsMet s e.talk
    → IsMet s (step_engine at step bytes answers e).talk
met-step at (Piece n) bytes answers s e calm m =
    let P : Engine → Type 0 = λ x. IsMet s x.talk in
    let x : Engine = record e { talk = piece (present_at at e.talk); unread = e.unread ++ bytes } in
    let Q : Talk → Type 0 = IsMet s in
    if_case P (is_open e.talk) (settle x) (rule_at at (λ t. t) e)
    (subst Q (sym (settle-talk x)) (met-piece s (present_at at e.talk) (met-present at s e.talk m))) (met-present at s e.talk m)
met-step at Room bytes answers s e calm m = met-present at s e.talk m
met-step at Tick bytes answers s e calm m =
    let Q : Talk → Type 0 = IsMet s in
    subst Q (sym (settle-talk (rule_at at (tick answers) e))) (met-tick answers s (present_at at e.talk) calm (met-present at s e.talk m))
met-step at (Command c) bytes answers s e calm m = met-command c s (present_at at e.talk) (met-present at s e.talk m)
met-step at Linked bytes answers s e calm m = absurd calm
met-step at LinkFailed bytes answers s e calm m = absurd calm
met-step at End bytes answers s e calm m = absurd calm
met-step at Fault bytes answers s e calm m = absurd calm

-- what is read leaves the bytes behind it
pub read-unread : (at : ℕ) (answers : List Asked) (e : Engine) (f : Frame) (n : ℕ) (s' : Server) → front_of e ≡ Whole f n → IsMet s' (read_one at answers e).talk
    → (read_one at answers e).unread ≡ drop n e.unread
read-unread at answers e f n s' is m =
    let told : read_one at answers e ≡ settle (read_whole at answers e f n) = ap (λ (r : Read). read_row at r answers e) is in
    let P : Talk → Type 0 = IsMet s' in
    let same : (read_one at answers e).talk ≡ on_frame f answers (present_at at e.talk) = ap (λ (x : Engine). x.talk) told ∙ settle-talk (read_whole at answers e f n) in
    ap (λ (x : Engine). x.unread) told ∙ met-unread s' (read_whole at answers e f n) (subst P same m)

-- a piece joins what is unread
pub piece-unread : (at : ℕ) (bytes : List ℕ) (s : Server) (e : Engine) → IsMet s e.talk → (step_piece at bytes e).unread ≡ e.unread ++ bytes
piece-unread at bytes s e m =
    let x : Engine = record e { talk = piece (present_at at e.talk); unread = e.unread ++ bytes } in
    ap (λ (y : Engine). y.unread) (if-true (is_open e.talk) (settle x) (rule_at at (λ t. t) e) m.opened)
    ∙ met-unread s x (met-piece s (present_at at e.talk) (met-present at s e.talk m))

-- no link is asked for while one is open
open-unwanted : (l : Link ErrorKind) → is_open_link l ≡ true → is_wanted_link l ≡ false
open-unwanted Open h = refl
open-unwanted Wanted h = absurd (true≢false (sym h))
open-unwanted AskedLink h = absurd (true≢false (sym h))
open-unwanted (Due moment) h = refl
open-unwanted (Ended r) h = refl

pub met-asks : (s : Server) (e : Engine) → IsMet s e.talk → asks e ≡ e
met-asks s e m = if-false (wants_ask e) (with_talk asked e) e (ap (λ b. b && not (is_asked e.talk)) (open-unwanted e.talk.link m.opened))

-- ---- writing

-- what is offered is taken
pub met-took : (at k : ℕ) (s : Server) (e : Engine) → GoOn e.talk.committed → IsMet s e.talk → IsMet s (took at k e).talk
met-took at k s e goes m =
    let P : Talk → Type 0 = IsMet s in
    let G : List Mark → Type 0 = GoOn in
    let same : (present_at at e.talk).committed ≡ e.talk.committed = present-keeps (λ t. t.committed) at e.talk (λ n. refl) in
    subst P (sym (settle-talk (record e { talk = taken k (present_at at e.talk); unsent = drop k e.unsent })))
    (met-taken k s (present_at at e.talk) (subst G (sym same) goes) (met-present at s e.talk m))

-- all that may go out is committed, and taken: then it is said
pub met-offer : (at k : ℕ) (s : Server) (e : Engine) → GoOn (commit_all e).talk.committed → IsMet s e.talk → IsMet (said_all (committed_before e) s) (took at k (commit_all e)).talk
met-offer at k s e goes m = met-took at k (said_all (committed_before e) s) (commit_all e) goes (met-commit-all e s m)
