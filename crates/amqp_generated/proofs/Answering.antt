-- What the provider of the address answers in the run of a generated script begins with the answers to start.
use Rattle.std.proofs.Common.{◌≡◌, ℕ, zero, suc, ◌&&◌, true, true≢false, List, [], ◌∷◌, ◌++◌, length, take, drop, append_assoc, Option, None, Result, refl, ap, sym, ◌∙◌, subst}
use Rattle.std.specs.Prelude.{codes}
use Rattle.amqp_types.specs.Reading.{short_string_at, long_string_at, scalar_at, row_at, pair_with, table_with, value_at, table_at}
use Rattle.amqp_frame.specs.FrameReading.{front, framed, sized, ended, content, method_payload, connection_arguments_at, start_at}
use Rattle.amqp_types.proofs.Small.{if-true}
use Rattle.amqp_frame.specs.Frames.{encoding}
use Rattle.amqp_uri.specs.Address.{local}
use Rattle.amqp_auth.specs.declared.asked.Question.{Question}
use Rattle.amqp_auth.specs.declared.asked.Question.TheVariants as question
use Rattle.amqp_auth.specs.declared.asked.Asked.{Asked}
use Rattle.amqp_auth.specs.declared.asked.Asked.TheVariants as answer
use Rattle.amqp_auth.specs.Providers.{Exchange, Allows}
use Rattle.amqp_auth.specs.DefaultAnswers.{default_of, default_answer, AnswersEach}
use Rattle.amqp_auth.specs.Asking.{Answer, fits, paired}
use Rattle.amqp_rules.specs.Talk.{is_open}
use Rattle.amqp_engine.specs.declared.given.Given.{Given}
use Rattle.amqp_engine.specs.declared.given.GivenStep.TheVariants.{Bytes}
use Rattle.amqp_engine.specs.declared.port.Step.TheVariants.{Piece}
use Rattle.amqp_engine.specs.Plan.{coming_of}
use Rattle.amqp_engine.specs.Log.{Log, loaded}
use Rattle.amqp_engine.specs.Engine.{Engine, begin, step_engine, can_read, read_questions}
use Rattle.amqp_engine.specs.Turn.{Turn, Progress, begun, goes, asks, step_part, read, read_part, reads, turn, cut_questions, exchange_of, exchanges}
use Rattle.amqp_engine.specs.Tell.{log_turn}
use Rattle.amqp_engine.specs.Play.{told_turn, played_turn_of, played_turns, replayed, AreAnswered}
use Rattle.amqp_engine.proofs.FirstAnswers.{later_questions, reads-asked, read_with}
use Rattle.amqp_engine.proofs.Uncut.{played-uncut}
use Rattle.amqp_replay.specs.Top.{AreProvidersAnswers}
use Rattle.amqp_generated.specs.Login.{guest_login}
use Rattle.amqp_generated.proofs.OpenSession.{now}
use Rattle.amqp_generated.proofs.Scripts.{broker_start, first_steps}
use Rattle.amqp_generated.proofs.Handshake.{client, link_turn}

-- ---- two answers

is-mechanism : (given : Asked) → fits question.Mechanism given ≡ true → (name : List ℕ) × (given ≡ answer.Mechanism name)
is-mechanism (answer.Mechanism name) h = (name, refl)
is-mechanism (answer.Starter said) h = absurd (true≢false (sym h))
is-mechanism (answer.Challenge said) h = absurd (true≢false (sym h))
is-mechanism (answer.ValidFor time) h = absurd (true≢false (sym h))
is-mechanism (answer.Refreshed said) h = absurd (true≢false (sym h))

is-starter : (given : Asked) → fits question.Starter given ≡ true → (said : Result (List ℕ) (List ℕ)) × (given ≡ answer.Starter said)
is-starter (answer.Mechanism name) h = absurd (true≢false (sym h))
is-starter (answer.Starter said) h = (said, refl)
is-starter (answer.Challenge said) h = absurd (true≢false (sym h))
is-starter (answer.ValidFor time) h = absurd (true≢false (sym h))
is-starter (answer.Refreshed said) h = absurd (true≢false (sym h))

-- the answers to start come first
record Starts (answers : List Asked) : Type 0 where
  name : List ℕ
  said : Result (List ℕ) (List ℕ)
  rest : List Asked
  are : answers ≡ answer.Mechanism name ∷ answer.Starter said ∷ rest

starts : (later : List Question) (answers : List Asked) → Answer (question.Mechanism ∷ question.Starter ∷ later) answers → Starts answers
starts later [] h = absurd h
starts later (a ∷ []) h = absurd h.1
starts later (a ∷ b ∷ rest) h =
    let first = is-mechanism a h.0 in
    let second = is-starter b h.1.0 in
    record {
      name = first.0;
      said = second.0;
      rest = rest;
      are = ap (λ x. x ∷ b ∷ rest) first.1 ∙ ap (λ y. answer.Mechanism first.0 ∷ y ∷ rest) second.1;
    }

split : (n : ℕ) (xs : List Asked) → xs ≡ take n xs ++ drop n xs
split zero xs = refl
split (suc n) [] = refl
split (suc n) (x ∷ xs) = ap (λ ys. x ∷ ys) (split n xs)

-- ---- what is asked first in a turn, and what is answered to it

-- where a frame can be read, what it asks comes first
asked-by : (n : ℕ) (p : Progress) (first : List Question) → (goes p && can_read p.engine) ≡ true → read_questions p.at p.engine ≡ first
    → (reads (suc n) p).questions ≡ p.questions ++ (first ++ later_questions n (read_part p))
asked-by n p first can is =
    reads-asked (suc n) p
    ∙ ap (λ qs. p.questions ++ qs)
    (if-true (goes p && can_read p.engine) (read_questions p.at p.engine ++ later_questions n (read_part p)) [] can
    ∙ ap (λ qs. qs ++ later_questions n (read_part p)) is)

-- bytes came, of a turn with these answers
abbrev came_with : List Asked → Engine → Progress
came_with answers e = record { at = 0; cut = None; answers = answers; questions = []; engine = e; done = 1 }

piece-asks : (bytes : List ℕ) (answers : List Asked) (e came : Engine) (n : ℕ) → step_part (Piece (length bytes)) bytes (begun 0 None answers e) ≡ came_with answers came
    → length came.unread ≡ suc n → can_read came ≡ true → read_questions 0 came ≡ question.Mechanism ∷ question.Starter ∷ []
    → (later : List Question) × ((read_with 0 None (Piece (length bytes)) bytes answers e).questions ≡ question.Mechanism ∷ question.Starter ∷ later)
piece-asks bytes answers e came n is size can asks_two = (
  later_questions n (read_part (came_with answers came)),
  ap (λ (q : Progress). (reads (length q.engine.unread) q).questions) is
      ∙ ap (λ k. (reads k (came_with answers came)).questions) size
      ∙ asked-by n (came_with answers came) (question.Mechanism ∷ question.Starter ∷ []) can asks_two,
)

-- bytes come on an open link
open-piece : (bytes : List ℕ) (answers : List Asked) (e : Engine) → is_open e.talk ≡ true
    → step_part (Piece (length bytes)) bytes (begun 0 None answers e) ≡ came_with answers (step_engine 0 (Piece (length bytes)) bytes [] e)
open-piece bytes answers e opened =
    if-true (is_open e.talk) (came_with answers (step_engine 0 (Piece (length bytes)) bytes [] e)) _ opened

-- a turn that is not cut
read-uncut : (u : Turn) (e : Engine) → u.notes.starved ≡ None → read u e ≡ read_with u.at None u.step u.bytes u.notes.auths e
read-uncut u e whole = ap (λ (cut : Option ℕ). read_with u.at cut u.step u.bytes u.notes.auths e) whole

turn-asks : (bytes : List ℕ) (answers : List Asked) (e came : Engine) (a : Log) (n : ℕ)
    → ((given : List Asked) → step_part (Piece (length bytes)) bytes (begun 0 None given (asks e)) ≡ came_with given came)
    → length came.unread ≡ suc n → can_read came ≡ true → read_questions 0 came ≡ question.Mechanism ∷ question.Starter ∷ []
    → (later : List Question) × ((read (played_turn_of (coming_of (now (Bytes bytes))) answers e a) (asks e)).questions ≡ question.Mechanism ∷ question.Starter ∷ later)
turn-asks bytes answers e came a n is size can asks_two =
    let u = played_turn_of (coming_of (now (Bytes bytes))) answers e a in
    let asked = piece-asks bytes u.notes.auths (asks e) came n (is u.notes.auths) size can asks_two in
    (asked.0, ap (λ (q : Progress). q.questions) (read-uncut u (asks e) (played-uncut (coming_of (now (Bytes bytes))) answers e a)) ∙ asked.1)

-- what is exchanged from the second turn on, where the first asks nothing
second-exchanged : (u v : Turn) (us : List Turn) (e : Engine) → exchange_of u (asks e) ≡ []
    → exchanges (u ∷ v ∷ us) e ≡ exchange_of v (asks (turn u e)) ++ exchanges us (turn v (turn u e))
second-exchanged u v us e none =
    ap (λ xs. xs ++ (exchange_of v (asks (turn u e)) ++ exchanges us (turn v (turn u e)))) none

-- two answers are those of a provider that answers each question so
given-so : (own : Question → Asked) (questions cut later : List Question) (answers : List Asked) (behind : Exchange) (s : Starts answers)
    → questions ≡ question.Mechanism ∷ question.Starter ∷ later → Allows (λ exchange. AnswersEach own exchange) (paired (questions ++ cut) answers ++ behind)
    → (answer.Mechanism s.name ≡ own question.Mechanism) × (answer.Starter s.said ≡ own question.Starter)
given-so own questions cut later answers behind s are allowed =
    let state : Exchange → Type 0 = λ exchange. AnswersEach own exchange in
    let A : List Question → Type 0 = λ qs. Allows state (paired (qs ++ cut) answers ++ behind) in
    let B : List Asked → Type 0 = λ given. Allows state (paired ((question.Mechanism ∷ question.Starter ∷ later) ++ cut) given ++ behind) in
    let both = subst B s.are (subst A are allowed) in
    (both.0, both.1.0)

-- ---- the turn in which start comes

-- what the provider of the address answers to each question
abbrev own_answer : Question → Asked
own_answer asked = default_answer (default_of local).mechanism (default_of local).login asked

abbrev linked : Engine
linked = turn link_turn (begin client)

-- the bytes came
abbrev came : Engine
came = step_engine 0 (Piece (length (encoding broker_start))) (encoding broker_start) [] (asks linked)

linked-open : is_open (asks linked).talk ≡ true
linked-open = refl

came-is : (answers : List Asked) → step_part (Piece (length (encoding broker_start))) (encoding broker_start) (begun 0 None answers (asks linked)) ≡ came_with answers came
came-is answers = open-piece (encoding broker_start) answers (asks linked) linked-open

came-size : length came.unread ≡ 105
came-size = refl

came-readable : can_read came ≡ true
unfolding front framed sized ended content method_payload connection_arguments_at start_at short_string_at long_string_at scalar_at row_at pair_with table_with value_at table_at
came-readable = refl

came-asks : read_questions 0 came ≡ question.Mechanism ∷ question.Starter ∷ []
unfolding front framed sized ended content method_payload connection_arguments_at start_at short_string_at long_string_at scalar_at row_at pair_with table_with value_at table_at
came-asks = refl

link-exchanges : exchange_of link_turn (asks (begin client)) ≡ []
link-exchanges = refl

module _ (gs : List Given) where
  abbrev linked_log : Log
  linked_log = log_turn link_turn (begin client) (loaded (first_steps gs))

  abbrev start_with : List Asked → Turn
  start_with answers = played_turn_of (coming_of (now (Bytes (encoding broker_start)))) answers linked linked_log

  -- the turns behind it
  abbrev turns_behind : List Asked → List Turn
  turns_behind answers =
      let u = start_with answers in
      played_turns (suc (length gs)) (drop (length u.notes.auths) answers) (turn u linked) (log_turn u linked linked_log)

  turns-are : (answers : List Asked) → replayed client (first_steps gs) answers ≡ link_turn ∷ start_with answers ∷ turns_behind answers
  turns-are answers = refl

  start-asks : (answers : List Asked) → (later : List Question) × ((read (start_with answers) (asks linked)).questions ≡ question.Mechanism ∷ question.Starter ∷ later)
  start-asks answers =
      turn-asks (encoding broker_start) answers linked came linked_log 104 came-is came-size came-readable came-asks

  -- so the answers begin with two
  start-answered : (answers : List Asked) → AreAnswered (replayed client (first_steps gs) answers) (begin client) → Starts (start_with answers).notes.auths
  start-answered answers h =
      let asked = start-asks answers in
      let A : List Turn → Type 0 = λ us. AreAnswered us (begin client) in
      let P : List Question → Type 0 = λ qs. Answer qs (start_with answers).notes.auths in
      let all = subst A (turns-are answers) h in
      starts asked.0 (start_with answers).notes.auths (subst P asked.1 all.1.0)

  -- which are those of the provider of the address
  start-given : (answers : List Asked) (s : Starts (start_with answers).notes.auths)
      → Allows (λ exchange. AnswersEach own_answer exchange) (exchanges (replayed client (first_steps gs) answers) (begin client))
      → answer.Mechanism s.name ∷ answer.Starter s.said ∷ s.rest ≡ guest_login ++ s.rest
  start-given answers s allowed =
      let u = start_with answers in
      let asked = start-asks answers in
      let A : Exchange → Type 0 = λ x. Allows (λ exchange. AnswersEach own_answer exchange) x in
      let all = subst A (ap (λ us. exchanges us (begin client)) (turns-are answers) ∙ second-exchanged link_turn u (turns_behind answers) (begin client) link-exchanges) allowed in
      let both =
      given-so own_answer (read u (asks linked)).questions (cut_questions u (asks linked)) asked.0 u.notes.auths (exchanges (turns_behind answers) (turn u linked)) s asked.1 all in
      ap (λ x. x ∷ answer.Starter s.said ∷ s.rest) both.0 ∙ ap (λ y. answer.Mechanism (codes "PLAIN") ∷ y ∷ s.rest) both.1

  pub begins-with-guest : (answers : List Asked) → AreAnswered (replayed client (first_steps gs) answers) (begin client)
      → Allows (λ exchange. AreProvidersAnswers (default_of local) exchange) (exchanges (replayed client (first_steps gs) answers) (begin client))
      → (more : List Asked) × (answers ≡ guest_login ++ more)
  begins-with-guest answers answered allowed =
      let s = start-answered answers answered in
      let n = length (read (told_turn (coming_of (now (Bytes (encoding broker_start)))) answers) (asks linked)).questions in (
        s.rest ++ drop n answers,
        split n answers
            ∙ ap (λ given. given ++ drop n answers) (s.are ∙ start-given answers s allowed)
            ∙ append_assoc guest_login s.rest (drop n answers),
      )
