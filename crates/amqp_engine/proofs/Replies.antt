-- Of answers that can be said, those that a turn takes can be said, and those that it leaves: of what belongs together it takes all or nothing.
use Rattle.std.proofs.lemmas.List.{take_at, drop_at}
use Rattle.std.proofs.Common.{◌++◌, ◌≡◌, ℕ, zero, suc, ◌&&◌, if◌then◌else◌, true≢false, List, [], ◌∷◌, ◌++◌, length, take, drop, Ok, Err, sym, subst}
use Rattle.amqp_frame.specs.declared.frame.Frame.{Frame}
use Rattle.amqp_frame.specs.declared.frame.Frame.TheVariants.{Method}
use Rattle.amqp_frame.specs.declared.frame.Read.{Read}
use Rattle.amqp_frame.specs.declared.frame.Read.TheVariants as front
use Rattle.amqp_frame.specs.declared.method.Method.{Method as AnyMethod}
use Rattle.amqp_frame.specs.declared.method.Method.TheVariants.{Start, Secure}
use Rattle.amqp_promise.specs.declared.state.ConnectionState.{ConnectionState}
use Rattle.amqp_promise.specs.declared.state.ConnectionState.TheVariants.{Connecting}
use Rattle.amqp_rules.specs.declared.state.Phase.{Phase}
use Rattle.amqp_rules.specs.declared.state.Phase.TheVariants.{AwaitStart, AwaitTune}
use Rattle.amqp_auth.specs.declared.asked.Question.{Question}
use Rattle.amqp_auth.specs.declared.asked.Question.TheVariants as question
use Rattle.amqp_auth.specs.declared.asked.Asked.{Asked}
use Rattle.amqp_auth.specs.declared.asked.Asked.TheVariants as answer
use Rattle.amqp_auth.specs.Asking.{Answer}
use Rattle.amqp_settings.specs.Config.{Options}
use Rattle.amqp_rules.specs.Talk.{Talk, acts}
use Rattle.amqp_rules.specs.Changes.{present_at}
use Rattle.amqp_rules.specs.Frames.{method_questions, questions_in, frame_questions}
use Rattle.amqp_rules.specs.Ticks.{beat, asks_validity, has_expired, refresh_questions, tick_questions}
use Rattle.amqp_faultless.specs.Faultless.{AreSayable}
use Rattle.amqp_types.proofs.Small.{if_case}
use Rattle.amqp_engine.specs.declared.port.Step.{Step}
use Rattle.amqp_engine.specs.declared.port.Step.TheVariants.{Tick}
use Rattle.amqp_engine.specs.Engine.{Engine, can_read, front_of, step_engine, step_questions, row_questions, read_questions}
use Rattle.amqp_engine.specs.Turn.{Turn, Progress, begun, goes, part, questioned, is_part, is_piece, step_part, read_part, reads, read}
use Rattle.amqp_engine.proofs.Answering.{answer-size}
use Rattle.amqp_engine.proofs.Asks.{asked_in}
use Rattle.amqp_engine.proofs.Hearkens.{asked-reads}

-- ---- questions that are asked together

-- where a provider is asked by which mechanism it starts, it is asked next what it says first, and this by nothing else
abbrev pub AskWhole : List Question → Type 0
AskWhole [] = Unit {0}
AskWhole (question.Mechanism ∷ question.Starter ∷ qs) = AskWhole qs
AskWhole (question.Challenge challenge ∷ qs) = AskWhole qs
AskWhole (question.ValidFor ∷ qs) = AskWhole qs
AskWhole (question.Refresh ∷ qs) = AskWhole qs
AskWhole _ = ⊥

whole-append : (qs rs : List Question) → AskWhole qs → AskWhole rs → AskWhole (qs ++ rs)
whole-append [] rs h k = k
whole-append (question.Mechanism ∷ question.Starter ∷ qs) rs h k = whole-append qs rs h k
whole-append (question.Challenge challenge ∷ qs) rs h k = whole-append qs rs h k
whole-append (question.ValidFor ∷ qs) rs h k = whole-append qs rs h k
whole-append (question.Refresh ∷ qs) rs h k = whole-append qs rs h k
whole-append (q ∷ qs) rs h k = absurd h

-- of answers that can be said, those to such questions can be said, and those after them
pub whole-sayable : (options : Options) (qs : List Question) (all : List Asked) → AskWhole qs → Answer qs (take (length qs) all) → AreSayable options all
    → AreSayable options (take (length qs) all) × AreSayable options (drop (length qs) all)
whole-sayable options [] all w h k = (tt, k)
whole-sayable options (q ∷ qs) [] w h k = absurd h
whole-sayable options (question.Mechanism ∷ question.Starter ∷ qs) (answer.Mechanism name ∷ []) w h k = absurd h.1
whole-sayable options (question.Mechanism ∷ question.Starter ∷ qs) (answer.Mechanism name ∷ answer.Starter (Ok said) ∷ rest) w h k =
    let x = whole-sayable options qs rest w h.1.1 k.1 in ((k.0, x.0), x.1)
whole-sayable options (question.Challenge challenge ∷ qs) (answer.Challenge (Ok said) ∷ rest) w h k =
    let x = whole-sayable options qs rest w h.1 k.1 in ((k.0, x.0), x.1)
whole-sayable options (question.ValidFor ∷ qs) (answer.ValidFor time ∷ rest) w h k = whole-sayable options qs rest w h.1 k
whole-sayable options (question.Refresh ∷ qs) (answer.Refreshed (Ok secret) ∷ rest) w h k =
    let x = whole-sayable options qs rest w h.1 k.1 in ((k.0, x.0), x.1)
whole-sayable options (question.Mechanism ∷ question.Starter ∷ qs) (answer.Mechanism name ∷ x ∷ rest) w h k = absurd k
whole-sayable options (question.Mechanism ∷ question.Starter ∷ qs) (x ∷ rest) w h k = absurd (true≢false (sym h.0))
whole-sayable options (question.Challenge challenge ∷ qs) (answer.Challenge (Err text) ∷ rest) w h k = absurd k
whole-sayable options (question.Challenge challenge ∷ qs) (x ∷ rest) w h k = absurd (true≢false (sym h.0))
whole-sayable options (question.ValidFor ∷ qs) (x ∷ rest) w h k = absurd (true≢false (sym h.0))
whole-sayable options (question.Refresh ∷ qs) (answer.Refreshed (Err text) ∷ rest) w h k = absurd k
whole-sayable options (question.Refresh ∷ qs) (x ∷ rest) w h k = absurd (true≢false (sym h.0))
whole-sayable options (q ∷ qs) (x ∷ rest) w h k = absurd w

-- ---- while frames are read

whole-method : (st : ConnectionState) (p : Phase) (m : AnyMethod) → AskWhole (method_questions st p m)
whole-method Connecting AwaitStart (Start a b c d e) = tt
whole-method Connecting AwaitTune (Secure challenge) = tt
whole-method st p m = tt

whole-acting : (f : Frame) (t : Talk) → AskWhole (questions_in f t)
whole-acting (Method zero m) t = whole-method t.state t.phase m
whole-acting f t = tt

whole-frame : (f : Frame) (t : Talk) → AskWhole (frame_questions f t)
whole-frame f t = let none : List Question = [] in if_case AskWhole (acts t) (questions_in f t) none (whole-acting f t) tt

whole-row : (at : ℕ) (r : Read) (e : Engine) → AskWhole (row_questions at r e)
whole-row at (front.Whole f n) e = whole-frame f (present_at at e.talk)
whole-row at _ e = tt

whole-asked : (n : ℕ) (p : Progress) → AskWhole (asked_in n p)
whole-asked zero p = tt
whole-asked (suc n) p =
    let none : List Question = [] in
    if_case AskWhole (goes p && can_read p.engine) (read_questions p.at p.engine ++ asked_in n (read_part p)) none
    (whole-append (read_questions p.at p.engine) (asked_in n (read_part p)) (whole-row p.at (front_of p.engine) p.engine) (whole-asked n (read_part p)))
    tt

-- ---- in a turn

whole-refresh : (answers : List Asked) (t : Talk) → AskWhole (refresh_questions answers t)
whole-refresh (answer.ValidFor time ∷ later) t =
    let none : List Question = [] in if_case AskWhole (has_expired time t) (question.Refresh ∷ []) none tt tt
whole-refresh _ t = tt

whole-tick : (answers : List Asked) (t : Talk) → AskWhole (tick_questions answers t)
whole-tick answers t =
    let none : List Question = [] in
    let x : Talk = beat t in
    if_case AskWhole (asks_validity x) (question.ValidFor ∷ refresh_questions answers x) none (whole-refresh answers x) tt

whole-step : (at : ℕ) (step : Step) (answers : List Asked) (e : Engine) → AskWhole (step_questions at step answers e)
whole-step at Tick answers e = whole-tick answers (present_at at e.talk)
whole-step at _ answers e = tt

-- what is asked so far
abbrev AskedWhole : Progress → Type 0
AskedWhole p = AskWhole p.questions

whole-part : (step : Step) (bytes : List ℕ) (p : Progress) → AskedWhole p → AskedWhole (step_part step bytes p)
whole-part step bytes p h =
    let after : Engine = step_engine p.at step bytes p.answers p.engine in
    let qs : List Question = step_questions p.at step p.answers p.engine in
    let done : Progress = part after (questioned qs p) in
    if_case AskedWhole (is_part step p.engine) (if goes p then done else p) (record p { engine = after })
    (if_case AskedWhole (goes p) done p (whole-append p.questions qs h (whole-step p.at step p.answers p.engine)) h) h

whole-reads : (n : ℕ) (p : Progress) → AskedWhole p → AskedWhole (reads n p)
whole-reads n p h = subst AskWhole (sym (asked-reads n p)) (whole-append p.questions (asked_in n p) h (whole-asked n p))

-- what a turn asks
pub whole-turn : (u : Turn) (e : Engine) → AskWhole (read u e).questions
whole-turn u e =
    let s : Progress = step_part u.step u.bytes (begun u.at u.notes.starved u.notes.auths e) in
    let h : AskedWhole s = whole-part u.step u.bytes (begun u.at u.notes.starved u.notes.auths e) tt in
    if_case AskedWhole (is_piece u.step) (reads (length s.engine.unread) s) s (whole-reads (length s.engine.unread) s h) h

-- of the answers, those that a turn takes, and those after them
pub turn-sayable : (options : Options) (u : Turn) (e : Engine) (rest : List Asked) → Answer (read u e).questions u.notes.auths
    → AreSayable options (u.notes.auths ++ rest) → AreSayable options u.notes.auths × AreSayable options rest
turn-sayable options u e rest answered sayable =
    let qs : List Question = (read u e).questions in
    let auths : List Asked = u.notes.auths in
    let size : length auths ≡ length qs = sym (answer-size qs auths answered) in
    let first : take (length qs) (auths ++ rest) ≡ auths = take_at auths rest (length qs) size in
    let left : drop (length qs) (auths ++ rest) ≡ rest = drop_at auths rest (length qs) size in
    let A : List Asked → Type 0 = Answer qs in
    let S : List Asked → Type 0 = AreSayable options in
    let x = whole-sayable options qs (auths ++ rest) (whole-turn u e) (subst A (sym first) answered) sayable in
    (subst S first x.0, subst S left x.1)
