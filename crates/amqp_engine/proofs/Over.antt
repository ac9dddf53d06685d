-- What a turn does to a session that had ended, and to one that goes on.
use Rattle.std.proofs.Common.{◌≡◌, ◌⊎◌, inl, inr, ℕ, ◌&&◌, if◌then◌else◌, Bool, true, false, List, [], ◌∷◌, ◌++◌, length, is_some, refl, ap, ◌∙◌, subst}
use Rattle.amqp_promise.specs.declared.error.ErrorKind.{ErrorKind}
use Rattle.amqp_rules.specs.declared.state.Link.{Link}
use Rattle.amqp_rules.specs.declared.state.Link.TheVariants.{Due, Wanted, Asked, Open, Ended}
use Rattle.amqp_promise.specs.declared.io_fault.IoFault.{IoFault}
use Rattle.amqp_promise.specs.declared.io_fault.IoFault.TheVariants.{Aborted, Reset}
use Rattle.amqp_auth.specs.declared.asked.Asked.{Asked as ProviderAnswer}
use Rattle.amqp_rules.specs.Talk.{Talk, is_open, is_open_link, is_asked, is_asked_link, has_ended, end_of, end_of_link}
use Rattle.amqp_rules.specs.Changes.{present_at, fail, starve}
use Rattle.amqp_rules.specs.Ticks.{tick}
use Rattle.amqp_rules.specs.Links.{asked, asked_link, linked, link_failed, piece, lost}
use Rattle.amqp_engine.specs.declared.port.Step.{Step}
use Rattle.amqp_engine.specs.declared.port.Step.TheVariants.{Linked, LinkFailed, Piece, End, Fault, Room, Tick, Command}
use Rattle.amqp_engine.specs.declared.port.Wrote.{Wrote}
use Rattle.amqp_engine.specs.Engine.{Engine, rule_at, with_talk, settle, step_engine, step_questions, can_write, refuse_overlong}
use Rattle.amqp_engine.specs.Turn.{Turn, write_answers, Progress, asks, wants_ask, begun, goes, part, questioned, is_part, is_piece, step_part, reading, drained, AreAnswers, read, after_writes, applied, turn, starved_after}
use Rattle.amqp_types.proofs.Small.{if_case, if-true, if-false, and-right}
use Rattle.amqp_engine.proofs.Overlong.{closed-refuses}
use Rattle.amqp_engine.proofs.Settling.{settle-talk}
use Rattle.amqp_rules.proofs.Keeping.{present-keeps, kept-ended, failed-link, lost-link, tick-stays, stays-command}
use Rattle.amqp_engine.proofs.Reading.{reads-rest}

-- ---- a link is asked for

asked-end : (l : Link ErrorKind) → end_of_link (asked_link l) ≡ end_of_link l
asked-end (Due moment) = refl
asked-end Wanted = refl
asked-end Asked = refl
asked-end Open = refl
asked-end (Ended r) = refl

pub asks-end : (e : Engine) → end_of (asks e).talk ≡ end_of e.talk
asks-end e = if_case (λ (x : Engine). end_of x.talk ≡ end_of e.talk) (wants_ask e) (with_talk asked e) e (asked-end e.talk.link) refl

pub asks-running : (e : Engine) → has_ended e.talk ≡ false → has_ended (asks e).talk ≡ false
asks-running e running = ap is_some (asks-end e) ∙ running

-- a turn of a session that goes on ends it where it was cut
pub turn-is : (u : Turn) (e : Engine) → has_ended e.talk ≡ false → turn u e ≡ starved_after u.notes.starved u.at (after_writes u (asks e)).engine
turn-is u e running =
    let after = (after_writes u (asks e)).engine in
    if-false (has_ended (asks e).talk) after (starved_after u.notes.starved u.at after) (asks-running e running)

-- ---- what has ended

pub ended-closed : (l : Link ErrorKind) → is_some (end_of_link l) ≡ true → is_open_link l ≡ false
ended-closed (Due moment) h = cc
ended-closed Wanted h = cc
ended-closed Asked h = cc
ended-closed Open h = cc
ended-closed (Ended r) h = refl

ended-unasked : (l : Link ErrorKind) → is_some (end_of_link l) ≡ true → is_asked_link l ≡ false
ended-unasked (Due moment) h = cc
ended-unasked Wanted h = cc
ended-unasked Asked h = cc
ended-unasked Open h = cc
ended-unasked (Ended r) h = refl

-- a moment, and memory that was refused, leave it as it is
pub present-over : (at : ℕ) (t : Talk) → has_ended t ≡ true → present_at at t ≡ t
present-over at t h = if-true (has_ended t) t (record t { present = _ }) h

pub starve-over : (at : ℕ) (e : Engine) → has_ended e.talk ≡ true → rule_at at starve e ≡ e
starve-over at e h =
    let same : starve (present_at at e.talk) ≡ e.talk =
    ap starve (present-over at e.talk h) ∙ if-true (has_ended e.talk) e.talk (fail _ e.talk) h in
    ap (λ (t : Talk). record e { talk = t }) same

moment-ended : (at : ℕ) (t : Talk) → has_ended t ≡ true → has_ended (present_at at t) ≡ true
moment-ended at t h = present-keeps has_ended at t (λ n. refl) ∙ h

lost-ended : (fault : IoFault) (t : Talk) → has_ended t ≡ true → has_ended (lost fault t) ≡ true
lost-ended fault t h = kept-ended t (lost fault t) (lost-link fault t) h

linked-ended : (t : Talk) → has_ended t ≡ true → has_ended (linked t) ≡ true
linked-ended t h = ap has_ended (if-false (is_asked t) _ t (ended-unasked t.link h)) ∙ h

-- a step leaves it ended
pub step-ended : (at : ℕ) (step : Step) (bytes : List ℕ) (answers : List ProviderAnswer) (e : Engine) → has_ended e.talk ≡ true → has_ended (step_engine at step bytes answers e).talk ≡ true
step-ended at Linked bytes answers e h =
    let t = present_at at e.talk in
    if_case (λ (x : Engine). has_ended x.talk ≡ true) (is_asked e.talk)
    (record { talk = linked t; unread = []; place = 0; unsent = []; starved = e.starved }) (rule_at at (λ x. x) e)
    (linked-ended t (moment-ended at e.talk h)) (moment-ended at e.talk h)
step-ended at LinkFailed bytes answers e h =
    let t = present_at at e.talk in
    ap has_ended (settle-talk (rule_at at link_failed e)) ∙ kept-ended t (link_failed t) (failed-link t) (moment-ended at e.talk h)
step-ended at (Piece n) bytes answers e h =
    let t = present_at at e.talk in
    let x : Engine = record e { talk = piece t; unread = e.unread ++ bytes } in
    let m = moment-ended at e.talk h in
    if_case (λ (y : Engine). has_ended y.talk ≡ true) (is_open e.talk) (settle x) (rule_at at (λ y. y) e)
    (ap has_ended (settle-talk x) ∙ if_case (λ (y : Talk). has_ended y ≡ true) (is_open t) (record t { last_read = t.present }) t m m) m
step-ended at End bytes answers e h = ap has_ended (settle-talk (rule_at at (lost Aborted) e)) ∙ lost-ended Aborted (present_at at e.talk) (moment-ended at e.talk h)
step-ended at Fault bytes answers e h = ap has_ended (settle-talk (rule_at at (lost Reset) e)) ∙ lost-ended Reset (present_at at e.talk) (moment-ended at e.talk h)
step-ended at Room bytes answers e h = moment-ended at e.talk h
step-ended at Tick bytes answers e h = ap has_ended (settle-talk (rule_at at (tick answers) e)) ∙ tick-stays answers (present_at at e.talk) (moment-ended at e.talk h)
step-ended at (Command c) bytes answers e h =
    ap (λ (l : Link ErrorKind). is_some (end_of_link l)) (stays-command c (present_at at e.talk)).link ∙ moment-ended at e.talk h

-- nothing is read or written
pub over-reads : (piece : Bool) (p : Progress) → has_ended p.engine.talk ≡ true → reading piece p ≡ p
over-reads true p h =
    let closed : is_open p.engine.talk ≡ false = ended-closed p.engine.talk.link h in
    reads-rest (length p.engine.unread) p (closed-and (is_open p.engine.talk) _ closed)
  where
    closed-and : (a b : Bool) → a ≡ false → (a && b) ≡ false
    closed-and true b g = cc
    closed-and false b g = refl
over-reads false p h = refl

pub over-writes : (e : Engine) → has_ended e.talk ≡ true → can_write e ≡ false
over-writes e h = closed-and (is_open e.talk) _ (ended-closed e.talk.link h)
  where
    closed-and : (a b : Bool) → a ≡ false → (a && b) ≡ false
    closed-and true b g = cc
    closed-and false b g = refl

pub over-refuses : (e : Engine) → has_ended e.talk ≡ true → refuse_overlong e ≡ e
over-refuses e h = closed-refuses e (ended-closed e.talk.link h)

no-answers : (ws : List Wrote) (p : Progress) → has_ended p.engine.talk ≡ true → AreAnswers ws p → drained ws p ≡ p
no-answers [] p h may =
    let same : record p { engine = refuse_overlong p.engine } ≡ p = ap (λ (x : Engine). record p { engine = x }) (over-refuses p.engine h) in
    if_case (λ (q : Progress). q ≡ p) (goes p) (record p { engine = refuse_overlong p.engine }) p same refl
no-answers (w ∷ ws) p h may =
    let can : can_write p.engine ≡ true = and-right (goes p) (can_write p.engine) may.0 in
    let not_so : can_write p.engine ≡ false = over-writes p.engine h in
    cc

-- it takes the step at most
pub applied-over : (u : Turn) (e : Engine) → has_ended e.talk ≡ true → AreAnswers (write_answers u.notes) (read u e)
    → (applied u e ≡ e) ⊎ (applied u e ≡ step_engine u.at u.step u.bytes u.notes.auths e)
applied-over u e h may =
    let p = begun u.at u.notes.starved u.notes.auths e in
    let x = step_engine u.at u.step u.bytes u.notes.auths e in
    let s = step_part u.step u.bytes p in
    let Is : Progress → Type 0 = λ y. (y.engine ≡ e) ⊎ (y.engine ≡ x) in
    let stepped : Is s =
    let q = questioned (step_questions u.at u.step u.notes.auths e) p in
    if_case Is (is_part u.step e) (if goes p then part x q else p) (record p { engine = x })
    (if_case Is (goes p) (part x q) p (inr refl) (inl refl)) (inr refl) in
    let over : has_ended s.engine.talk ≡ true =
    elim stepped [ inl same ↦ ap (λ (y : Engine). has_ended y.talk) same ∙ h | inr same ↦ ap (λ (y : Engine). has_ended y.talk) same ∙ step-ended u.at u.step u.bytes u.notes.auths e h ] in
    let here : read u e ≡ s = over-reads (is_piece u.step) s over in
    let ws = write_answers u.notes in
    let A : Progress → Type 0 = λ y. AreAnswers ws y in
    let done : after_writes u e ≡ s = ap (drained ws) here ∙ no-answers ws s over (subst A here may) in
    let is : applied u e ≡ s.engine =
    if-true (has_ended e.talk) (after_writes u e).engine (starved_after u.notes.starved u.at (after_writes u e).engine) h ∙ ap (λ (y : Progress). y.engine) done in
    elim stepped [ inl same ↦ inl (is ∙ same) | inr same ↦ inr (is ∙ same) ]

-- and stays ended
pub applied-ended : (u : Turn) (e : Engine) → has_ended e.talk ≡ true → AreAnswers (write_answers u.notes) (read u e) → has_ended (applied u e).talk ≡ true
applied-ended u e h may =
    elim (applied-over u e h may) [
      | inl same ↦ ap (λ (x : Engine). has_ended x.talk) same ∙ h
      | inr same ↦ ap (λ (x : Engine). has_ended x.talk) same ∙ step-ended u.at u.step u.bytes u.notes.auths e h
    ]
