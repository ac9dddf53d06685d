-- The clock of a session through what is read and written, and through the step of a turn.
use Rattle.std.proofs.Common.{◌≡◌, ◌≤◌, ℕ, ◌+◌, if◌then◌else◌, true, List, [], ◌++◌, drop, refl, sym, ◌∙◌, subst}
use Rattle.amqp_frame.specs.declared.frame.Read.{Read}
use Rattle.amqp_frame.specs.declared.frame.Read.TheVariants.{Whole, More, TooLarge, BadHeartbeat}
use Rattle.amqp_violations.specs.declared.misread.Misread.{Misread}
use Rattle.amqp_violations.specs.declared.misread.Misread.TheVariants as why
use Rattle.amqp_auth.specs.declared.asked.Asked.{Asked as ProviderAnswer}
use Rattle.amqp_rules.specs.Talk.{Talk, is_open, is_asked}
use Rattle.amqp_rules.specs.Changes.{present_at}
use Rattle.amqp_rules.specs.Frames.{on_frame}
use Rattle.amqp_rules.specs.Links.{linked, misread, piece}
use Rattle.amqp_rules.specs.Ticks.{tick}
use Rattle.amqp_rules.specs.Writing.{frames_waiting, taken}
use Rattle.amqp_faultless.specs.Faultless.{Server}
use Rattle.amqp_types.proofs.Small.{if-true}
use Rattle.amqp_rules.proofs.Keeping.{present-keeps}
use Rattle.amqp_faultless.proofs.Greeted.{IsMet}
use Rattle.amqp_faultless.proofs.Clock.{IsClock, clock-present, clock-piece, clock-linked, clock-tick, clock-early, clock-same, clock-misread, clock-frame, clock-taken, clock-command}
use Rattle.amqp_faultless.proofs.Open.{open-runs}
use Rattle.amqp_engine.specs.declared.port.Step.{Step}
use Rattle.amqp_engine.specs.declared.port.Step.TheVariants.{Linked, LinkFailed, Piece, End, Fault, Room, Tick, Command}
use Rattle.amqp_engine.specs.Plan.{at_most_64}
use Rattle.amqp_engine.specs.Engine.{Engine, settle, rule_at, front_of, read_row, read_badly, read_one, commit_all, took, step_linked, step_engine}
use Rattle.amqp_engine.specs.Turn.{is_piece}
use Rattle.amqp_engine.proofs.Settling.{settle-talk}
use Rattle.amqp_engine.proofs.Commits.{commits-keep}
use Rattle.amqp_engine.proofs.Follows.{IsCalm}

-- ---- what is read and written

module _ (moment last : ℕ) where
  abbrev C : Talk → Type 0
  C t = IsClock moment last t

  on-badly : (at : ℕ) (w : Misread) (e : Engine) → at ≤ moment → C e.talk → C (read_badly at w e).talk
  on-badly at w e le h =
      let P : Talk → Type 0 = C in
      subst P (sym (settle-talk (rule_at at (misread w) e))) (clock-misread moment last w (present_at at e.talk) (clock-early moment last at e.talk le h))

  on-row : (at : ℕ) (r : Read) (answers : List ProviderAnswer) (e : Engine) → at ≤ moment → C e.talk → C (read_row at r answers e).talk
  on-row at (Whole f n) answers e le h =
      let P : Talk → Type 0 = C in
      let t : Talk = present_at at e.talk in
      let z : Engine = record e { talk = on_frame f answers t; unread = drop n e.unread; place = at_most_64 (e.place + n) } in
      subst P (sym (settle-talk z)) (clock-frame moment last f answers t (clock-early moment last at e.talk le h))
  on-row at (TooLarge size) answers e le h = on-badly at (why.TooLarge size) e le h
  on-row at (BadHeartbeat channel) answers e le h = on-badly at (why.BadHeartbeat channel) e le h
  on-row at More answers e le h = h
  on-row at _ answers e le h = on-badly at (why.Bad e.place) e le h

  -- an offer is taken
  pub clock-offer : (at k : ℕ) (e : Engine) → at ≤ moment → C e.talk → C (took at k (commit_all e)).talk
  clock-offer at k e le h =
      let P : Talk → Type 0 = C in
      let n : ℕ = frames_waiting e.talk in
      let x : Engine = commit_all e in
      let z : Engine = record x { talk = taken k (present_at at x.talk); unsent = drop k x.unsent } in
      let committed : C x.talk =
      clock-same moment last e.talk x.talk (commits-keep (λ (y : Engine). y.talk.present) (λ y q ms bytes. refl) n e)
      (commits-keep (λ (y : Engine). y.talk.last_read) (λ y q ms bytes. refl) n e) h in
      subst P (sym (settle-talk z)) (clock-taken moment last k (present_at at x.talk) (clock-early moment last at x.talk le committed))

  -- what stands at the front is read, at a moment that is not later
  pub clock-read : (at : ℕ) (answers : List ProviderAnswer) (e : Engine) → at ≤ moment → C e.talk → C (read_one at answers e).talk
  clock-read at answers e le h = on-row at (front_of e) answers e le h

-- ---- the step

-- a step that brings no link and no end, and no tick that misses a heartbeat: a piece counts as read when it comes
pub clock-step : (moment last at : ℕ) (step : Step) (bytes : List ℕ) (answers : List ProviderAnswer) (s : Server) (e : Engine) → moment ≤ at
    → IsCalm at step e.talk → IsMet s e.talk → IsClock moment last e.talk
    → IsClock at (if is_piece step then at else last) (step_engine at step bytes answers e).talk
clock-step moment last at (Piece n) bytes answers s e rise calm m h =
    let P : Engine → Type 0 = λ x. IsClock at at x.talk in
    let Q : Talk → Type 0 = IsClock at at in
    let x : Engine = record e { talk = piece (present_at at e.talk); unread = e.unread ++ bytes } in
    let came : IsClock at at x.talk = clock-piece moment last at e.talk (open-runs e.talk m.opened) m.opened rise h in
    subst P (sym (if-true (is_open e.talk) (settle x) (rule_at at (λ t. t) e) m.opened)) (subst Q (sym (settle-talk x)) came)
clock-step moment last at Room bytes answers s e rise calm m h = clock-present moment last at e.talk rise h
clock-step moment last at Tick bytes answers s e rise calm m h =
    let Q : Talk → Type 0 = IsClock at last in
    subst Q (sym (settle-talk (rule_at at (tick answers) e)))
    (clock-tick at last answers (present_at at e.talk) calm (clock-present moment last at e.talk rise h))
clock-step moment last at (Command c) bytes answers s e rise calm m h =
    clock-command at last c (present_at at e.talk) (clock-present moment last at e.talk rise h)
clock-step moment last at Linked bytes answers s e rise calm m h = absurd calm
clock-step moment last at LinkFailed bytes answers s e rise calm m h = absurd calm
clock-step moment last at End bytes answers s e rise calm m h = absurd calm
clock-step moment last at Fault bytes answers s e rise calm m h = absurd calm

-- the link that was asked for comes
pub clock-link : (moment at : ℕ) (e : Engine) → moment ≤ at → is_asked e.talk ≡ true → IsClock moment 0 e.talk → IsClock at 0 (step_linked at e).talk
clock-link moment at e rise is h =
    let P : Engine → Type 0 = λ x. IsClock at 0 x.talk in
    let t : Talk = present_at at e.talk in
    let came : Engine = record { talk = linked t; unread = []; place = 0; unsent = []; starved = e.starved } in
    let asked : is_asked t ≡ true = present-keeps is_asked at e.talk (λ n. refl) ∙ is in
    subst P (sym (if-true (is_asked e.talk) came (rule_at at (λ x. x) e) is)) (clock-linked at t asked (clock-present moment 0 at e.talk rise h))
