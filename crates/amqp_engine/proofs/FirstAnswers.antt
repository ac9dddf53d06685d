-- What is done goes by as many answers as there are questions: where those are the same, whatever follows them, it does the
-- same.
use Rattle.std.proofs.Common.{◌≡◌, ◌∙◌, sym, ap, subst, refl, ℕ, zero, suc, ◌+◌, ◌&&◌, if◌then◌else◌, Bool, true, false, List, [], ◌∷◌, ◌++◌, length, take, drop, Option, arith, append_assoc, append-nil, length-append}
use Rattle.std.proofs.lemmas.List.{take-take, drop-take, drop-drop}
use Rattle.amqp_frame.specs.declared.frame.Frame.{Frame}
use Rattle.amqp_frame.specs.declared.frame.Frame.TheVariants.{ProtocolHeader, Method, Raw, Heartbeat}
use Rattle.amqp_frame.specs.declared.frame.RawKind.TheVariants.{RawMethod}
use Rattle.amqp_frame.specs.declared.frame.Read.{Read}
use Rattle.amqp_frame.specs.declared.frame.Read.TheVariants as reading
use Rattle.amqp_frame.specs.declared.method.Method.{Method as AnyMethod}
use Rattle.amqp_frame.specs.declared.method.Method.TheVariants.{Start, Secure, Tune, OpenOk, Close, CloseOk, Blocked, Unblocked, UpdateSecretOk}
use Rattle.amqp_auth.specs.declared.asked.Question.{Question}
use Rattle.amqp_auth.specs.declared.asked.Question.TheVariants as question
use Rattle.amqp_auth.specs.declared.asked.Asked.{Asked}
use Rattle.amqp_auth.specs.declared.asked.Asked.TheVariants as answer
use Rattle.amqp_promise.specs.declared.state.ConnectionState.{ConnectionState}
use Rattle.amqp_promise.specs.declared.state.ConnectionState.TheVariants.{Connecting, Connected, Closing}
use Rattle.amqp_rules.specs.declared.state.Phase.{Phase}
use Rattle.amqp_rules.specs.declared.state.Phase.TheVariants.{AwaitStart, AwaitTune, AwaitOpenOk}
use Rattle.amqp_rules.specs.Talk.{Talk, acts, hears_on}
use Rattle.amqp_violations.specs.Violations.{stray_channel_frame}
use Rattle.amqp_rules.specs.Changes.{misplaced, present_at}
use Rattle.amqp_rules.specs.ConnectionMethods.{on_start, on_secure, connection_rule}
use Rattle.amqp_frame.specs.Methods.{is_of_a_channel}
use Rattle.amqp_rules.specs.Frames.{method_questions, questions_in, frame_questions, frame_rule, closed_rule, on_frame}
use Rattle.amqp_rules.specs.Ticks.{beat, asks_validity, has_expired, refresh, refresh_questions, validity_told, link_due, tick, tick_questions}
use Rattle.amqp_engine.specs.declared.port.Step.{Step}
use Rattle.amqp_engine.specs.declared.port.Step.TheVariants.{Tick}
use Rattle.amqp_engine.specs.Plan.{at_most_64}
use Rattle.amqp_engine.specs.Engine.{Engine, settle, step_engine, step_questions, can_read, front_of, read_row, row_questions, read_one, read_questions}
use Rattle.amqp_engine.specs.Turn.{Progress, begun, goes, part, questioned, is_part, is_piece, step_part, is_before, reads, read_part, reading as reads_after}
use Rattle.amqp_types.proofs.Small.{if_case}
use Rattle.amqp_engine.proofs.Applying.{no-questions}

-- ---- two lists of answers

-- the first so many are the same
abbrev pub Alike : ℕ → List Asked → List Asked → Type 0
Alike n xs ys = take n xs ≡ take n ys

-- so are fewer of them
pub fewer-alike : (m n : ℕ) (xs ys : List Asked) → Alike (m + n) xs ys → Alike m xs ys
fewer-alike m n xs ys h = sym (take-take m (m + n) xs (omega arith)) ∙ ap (take m) h ∙ take-take m (m + n) ys (omega arith)

-- and those behind them
pub later-alike : (m n : ℕ) (xs ys : List Asked) → Alike (m + n) xs ys → Alike n (drop m xs) (drop m ys)
later-alike m n xs ys h = sym (drop-take m n xs) ∙ ap (drop m) h ∙ drop-take m n ys

-- ---- frames

start-taken : (xs : List Asked) (t : Talk) → on_start (take 2 xs) t ≡ on_start xs t
start-taken (answer.Mechanism mechanism ∷ answer.Starter said ∷ later) t = refl
start-taken _ t = refl

secure-taken : (xs : List Asked) (t : Talk) → on_secure (take 1 xs) t ≡ on_secure xs t
secure-taken (answer.Challenge said ∷ later) t = refl
secure-taken _ t = refl

connection-taken : (s : ConnectionState) (p : Phase) (m : AnyMethod) (xs : List Asked) (t : Talk)
    → connection_rule s p m (take (length (method_questions s p m)) xs) t ≡ connection_rule s p m xs t
connection-taken s p (Close code text class method) xs t = refl
connection-taken s p (Blocked reason) xs t = refl
connection-taken s p Unblocked xs t = refl
connection-taken Closing p CloseOk xs t = refl
connection-taken Closing p m xs t = refl
connection-taken Connecting AwaitStart (Start a b c d e) xs t = start-taken xs t
connection-taken Connecting AwaitTune (Secure challenge) xs t = secure-taken xs t
connection-taken Connecting AwaitTune (Tune a b c) xs t = refl
connection-taken Connecting AwaitOpenOk OpenOk xs t = refl
connection-taken Connected p UpdateSecretOk xs t = refl
connection-taken s p m xs t = refl

rule-taken : (f : Frame) (xs : List Asked) (t : Talk) → frame_rule f (take (length (questions_in f t)) xs) t ≡ frame_rule f xs t
rule-taken (Method zero m) xs t =
    ap (λ (x : Talk). if is_of_a_channel m then misplaced (stray_channel_frame RawMethod) t else x) (connection-taken t.state t.phase m xs t)
rule-taken (Method (suc n) m) xs t = refl
rule-taken (ProtocolHeader version) xs t = refl
rule-taken Heartbeat xs t = refl
rule-taken (Raw zero kind bytes) xs t = refl
rule-taken (Raw (suc n) kind bytes) xs t = refl

frame-taken : (f : Frame) (xs : List Asked) (t : Talk) → on_frame f (take (length (frame_questions f t)) xs) t ≡ on_frame f xs t
frame-taken f xs t = by (acts t)
  where
    by : (b : Bool)
        → (if b then frame_rule f (take (length (if b then questions_in f t else [])) xs) t else (if hears_on t then closed_rule f t else t))
        ≡ (if b then frame_rule f xs t else (if hears_on t then closed_rule f t else t))
    by true = rule-taken f xs t
    by false = refl

frame-first : (f : Frame) (xs ys : List Asked) (t : Talk) → Alike (length (frame_questions f t)) xs ys → on_frame f ys t ≡ on_frame f xs t
frame-first f xs ys t h = sym (frame-taken f ys t) ∙ ap (λ (zs : List Asked). on_frame f zs t) (sym h) ∙ frame-taken f xs t

row-first : (at : ℕ) (r : Read) (xs ys : List Asked) (e : Engine) → Alike (length (row_questions at r e)) xs ys → read_row at r ys e ≡ read_row at r xs e
row-first at (reading.Whole f n) xs ys e h =
    ap (λ (t : Talk). settle (record e { talk = t; unread = drop n e.unread; place = at_most_64 (e.place + n) }))
    (frame-first f xs ys (present_at at e.talk) h)
row-first at _ xs ys e h = refl

-- what is read goes by the answers to what it asks
pub read_one-first : (at : ℕ) (xs ys : List Asked) (e : Engine) → Alike (length (read_questions at e)) xs ys → read_one at ys e ≡ read_one at xs e
read_one-first at xs ys e h = row-first at (front_of e) xs ys e h

-- ---- steps

refresh-taken : (xs : List Asked) (t : Talk) → refresh (take 1 xs) t ≡ refresh xs t
refresh-taken (answer.Refreshed said ∷ later) t = refl
refresh-taken _ t = refl

refresh-first : (xs ys : List Asked) (t : Talk) → Alike 1 xs ys → refresh ys t ≡ refresh xs t
refresh-first xs ys t h = sym (refresh-taken ys t) ∙ ap (λ (zs : List Asked). refresh zs t) (sym h) ∙ refresh-taken xs t

-- the first of some answers, where there is one
abbrev first_or : Asked → List Asked → Asked
first_or x [] = x
first_or x (y ∷ ys) = y

-- the validity goes by the answers to what is asked of it
abbrev SameValidity : Talk → List Asked → List Asked → Type 0
SameValidity t xs ys =
    (validity_told ys t ≡ validity_told xs t) × (refresh_questions ys t ≡ refresh_questions xs t)

-- where the first answers are one, those behind it are looked at where a refresh is asked for
validity-head : (x : Asked) (xs ys : List Asked) (t : Talk) → Alike (length (refresh_questions (x ∷ xs) t)) xs ys → SameValidity t (x ∷ xs) (x ∷ ys)
validity-head (answer.ValidFor time) xs ys t h = (by (has_expired time t) h, refl)
  where
    by : (b : Bool) → Alike (length (if b then question.Refresh ∷ [] else [])) xs ys → (if b then refresh ys t else t) ≡ (if b then refresh xs t else t)
    by true h = refresh-first xs ys t h
    by false h = refl
validity-head _ xs ys t h = (refl, refl)

validity-first : (xs ys : List Asked) (t : Talk) → Alike (suc (length (refresh_questions xs t))) xs ys → SameValidity t xs ys
validity-first [] [] t h = (refl, refl)
validity-first [] (y ∷ ys) t h = cc
validity-first (x ∷ xs) [] t h = cc
validity-first (x ∷ xs) (y ∷ ys) t h =
    let same : x ≡ y = ap (first_or x) h in
    let rest : Alike (length (refresh_questions (x ∷ xs) t)) xs ys = ap (drop 1) h in
    subst (λ (z : Asked). SameValidity t (x ∷ xs) (z ∷ ys)) same (validity-head x xs ys t rest)

tick-first : (xs ys : List Asked) (t : Talk) → Alike (length (tick_questions xs t)) xs ys → (tick ys t ≡ tick xs t) × (tick_questions ys t ≡ tick_questions xs t)
tick-first xs ys t h = (let k = by (asks_validity x) h in (ap link_due k.0, k.1))
  where
    x : Talk
    x = beat t

    by : (b : Bool) → Alike (length (if b then question.ValidFor ∷ refresh_questions xs x else [])) xs ys
        → ((if b then validity_told ys x else x) ≡ (if b then validity_told xs x else x))
        × ((if b then question.ValidFor ∷ refresh_questions ys x else []) ≡ (if b then question.ValidFor ∷ refresh_questions xs x else []))
    by true h = (let k = validity-first xs ys x h in (k.0, ap (λ (q : List Question). question.ValidFor ∷ q) k.1))
    by false h = (refl, refl)

-- a step goes by the answers to what it asks
pub step-first : (at : ℕ) (step : Step) (bytes : List ℕ) (xs ys : List Asked) (e : Engine) → Alike (length (step_questions at step xs e)) xs ys
    → (step_engine at step bytes ys e ≡ step_engine at step bytes xs e) × (step_questions at step ys e ≡ step_questions at step xs e)
step-first at Tick bytes xs ys e h =
    let k = tick-first xs ys (present_at at e.talk) h in (ap (λ (t : Talk). settle (record e { talk = t })) k.0, k.1)
step-first at _ bytes xs ys e h = (refl, refl)

-- ---- the parts of a turn

-- the same, where other answers are still to be taken
abbrev pub with_answers : List Asked → Progress → Progress
with_answers ys p = record p { answers = ys }

-- what the frames ask that are read, of at most so many
abbrev pub later_questions : ℕ → Progress → List Question
later_questions zero p = []
later_questions (suc n) p = if goes p && can_read p.engine then read_questions p.at p.engine ++ later_questions n (read_part p) else []

-- that is what is asked while they are read
pub reads-asked : (n : ℕ) (p : Progress) → (reads n p).questions ≡ p.questions ++ later_questions n p
reads-asked zero p = sym (append-nil p.questions)
reads-asked (suc n) p = by (goes p && can_read p.engine) (reads-asked n (read_part p))
  where
    by : (b : Bool) → (reads n (read_part p)).questions ≡ (p.questions ++ read_questions p.at p.engine) ++ later_questions n (read_part p)
        → (if b then reads n (read_part p) else p).questions ≡ p.questions ++ (if b then read_questions p.at p.engine ++ later_questions n (read_part p) else [])
    by true rest = rest ∙ append_assoc p.questions (read_questions p.at p.engine) (later_questions n (read_part p))
    by false rest = sym (append-nil p.questions)

-- what comes of one frame more
part-first : (p : Progress) (ys : List Asked) → Alike (length (read_questions p.at p.engine)) p.answers ys
    → read_part (with_answers ys p) ≡ with_answers (drop (length (read_questions p.at p.engine)) ys) (read_part p)
part-first p ys h =
    ap (λ (e : Engine). part e (questioned (read_questions p.at p.engine) (with_answers ys p))) (read_one-first p.at p.answers ys p.engine h)

-- the frames that are read go by the answers to what they ask
pub reads-first : (n : ℕ) (p : Progress) (ys : List Asked) → Alike (length (later_questions n p)) p.answers ys
    → reads n (with_answers ys p) ≡ with_answers (drop (length (later_questions n p)) ys) (reads n p)
reads-first zero p ys h = refl
reads-first (suc n) p ys h =
    by (goes p && can_read p.engine) h (reads-first n (read_part p) (drop (length (read_questions p.at p.engine)) ys))
  where
    here : List Question
    here = read_questions p.at p.engine

    behind : List Question
    behind = later_questions n (read_part p)

    Later : Type 0
    Later =
        Alike (length behind) (drop (length here) p.answers) (drop (length here) ys)
        → reads n (with_answers (drop (length here) ys) (read_part p)) ≡ with_answers (drop (length behind) (drop (length here) ys)) (reads n (read_part p))

    by : (b : Bool) → Alike (length (if b then here ++ behind else [])) p.answers ys → Later
        → (if b then reads n (read_part (with_answers ys p)) else with_answers ys p)
        ≡ with_answers (drop (length (if b then here ++ behind else [])) ys) (if b then reads n (read_part p) else p)
    by true h rest =
        let size : length (here ++ behind) ≡ length here + length behind = length-append here behind in
        let all : Alike (length here + length behind) p.answers ys = subst (λ k. Alike k p.answers ys) size h in
        ap (reads n) (part-first p ys (fewer-alike (length here) (length behind) p.answers ys all))
        ∙ rest (later-alike (length here) (length behind) p.answers ys all)
        ∙ ap (λ (left : List Asked). with_answers left (reads n (read_part p))) (drop-drop (length behind) (length here) ys ∙ ap (λ k. drop k ys) (sym size))
    by false h rest = refl

-- the step of a turn goes by the answers to what it asks
step_part-first : (at : ℕ) (cut : Option ℕ) (step : Step) (bytes : List ℕ) (xs ys : List Asked) (e : Engine)
    → Alike (length (step_part step bytes (begun at cut xs e)).questions) xs ys
    → step_part step bytes (begun at cut ys e)
    ≡ with_answers (drop (length (step_part step bytes (begun at cut xs e)).questions) ys) (step_part step bytes (begun at cut xs e))
step_part-first at cut step bytes xs ys e h = by (is_part step e) (is_before cut 0) refl h
  where
    stepped : Bool → Bool → List Asked → Progress
    stepped b c zs =
        let p = begun at cut zs e in
        let after = step_engine at step bytes zs e in
        if b then (if c then part after (questioned (step_questions at step zs e) p) else p) else record p { engine = after }

    by : (b c : Bool) → is_part step e ≡ b → Alike (length (stepped b c xs).questions) xs ys
        → stepped b c ys ≡ with_answers (drop (length (stepped b c xs).questions) ys) (stepped b c xs)
    by true true is h =
        let k = step-first at step bytes xs ys e h in
        ap (λ (qs : List Question). part (step_engine at step bytes ys e) (questioned qs (begun at cut ys e))) k.1
        ∙ ap (λ (x : Engine). part x (questioned (step_questions at step xs e) (begun at cut ys e))) k.0
    by true false is h = refl
    by false c is h =
        let none : length (step_questions at step xs e) ≡ 0 = ap length (no-questions at step xs e is) in
        let k = step-first at step bytes xs ys e (subst (λ n. Alike n xs ys) (sym none) refl) in
        ap (λ (x : Engine). record (begun at cut ys e) { engine = x }) k.0

-- and leaves the others
step_part-left : (at : ℕ) (cut : Option ℕ) (step : Step) (bytes : List ℕ) (xs : List Asked) (e : Engine)
    → (step_part step bytes (begun at cut xs e)).answers ≡ drop (length (step_part step bytes (begun at cut xs e)).questions) xs
step_part-left at cut step bytes xs e =
    let p = begun at cut xs e in
    let after = step_engine at step bytes xs e in
    let q = questioned (step_questions at step xs e) p in
    if_case (λ (s : Progress). s.answers ≡ drop (length s.questions) xs) (is_part step e) (if goes p then part after q else p) (record p { engine = after })
    (if_case (λ (s : Progress). s.answers ≡ drop (length s.questions) xs) (goes p) (part after q) p refl refl) refl

-- a turn up to its writes, of a step that comes with these answers
abbrev pub read_with : ℕ → Option ℕ → Step → List ℕ → List Asked → Engine → Progress
read_with at cut step bytes answers e = reads_after (is_piece step) (step_part step bytes (begun at cut answers e))

-- it goes by the answers to what is asked in it
pub read-first : (at : ℕ) (cut : Option ℕ) (step : Step) (bytes : List ℕ) (xs ys : List Asked) (e : Engine)
    → Alike (length (read_with at cut step bytes xs e).questions) xs ys
    → read_with at cut step bytes ys e ≡ with_answers (drop (length (read_with at cut step bytes xs e).questions) ys) (read_with at cut step bytes xs e)
read-first at cut step bytes xs ys e h = by (is_piece step) h
  where
    s : Progress
    s = step_part step bytes (begun at cut xs e)

    by : (b : Bool) → Alike (length (reads_after b s).questions) xs ys
        → reads_after b (step_part step bytes (begun at cut ys e)) ≡ with_answers (drop (length (reads_after b s).questions) ys) (reads_after b s)
    by true h =
        let n = length s.engine.unread in
        let here = length s.questions in
        let behind = length (later_questions n s) in
        let size : length (reads n s).questions ≡ here + behind = ap length (reads-asked n s) ∙ length-append s.questions (later_questions n s) in
        let all : Alike (here + behind) xs ys = subst (λ k. Alike k xs ys) size h in
        let rest : Alike behind s.answers (drop here ys) =
        ap (take behind) (step_part-left at cut step bytes xs e) ∙ later-alike here behind xs ys all in
        ap (reads_after true) (step_part-first at cut step bytes xs ys e (fewer-alike here behind xs ys all))
        ∙ reads-first n s (drop here ys) rest
        ∙ ap (λ (left : List Asked). with_answers left (reads n s)) (drop-drop behind here ys ∙ ap (λ k. drop k ys) (sym size))
    by false h = step_part-first at cut step bytes xs ys e h
