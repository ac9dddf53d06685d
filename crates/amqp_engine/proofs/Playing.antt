-- The turns of a script that is played are determined.
use Rattle.std.proofs.Common.{◌≡◌, ◌≤◌, ◌<◌, ℕ, zero, suc, not, if◌then◌else◌, Bool, true, false, MatchBool, List, [], ◌∷◌, ◌++◌, length, take, drop, append_assoc, append-nil, Option, Some, None, IfSome, IsSome, is_some, option_map, refl, ap, sym, ◌∙◌, subst, arith}
use Rattle.std.specs.Option.{option_or}
use Rattle.std.proofs.lemmas.List.{take_all, take_at, take-take, drop_at}
use Rattle.amqp_auth.specs.declared.asked.Question.{Question}
use Rattle.amqp_auth.specs.declared.asked.Asked.{Asked}
use Rattle.amqp_auth.specs.Providers.{Exchange, Allows}
use Rattle.amqp_auth.specs.Asking.{Answer}
use Rattle.amqp_rules.specs.Talk.{has_ended, is_open}
use Rattle.amqp_rules.specs.Changes.{starve, present_at}
use Rattle.amqp_engine.specs.declared.port.Step.{Step}
use Rattle.amqp_engine.specs.declared.port.Wrote.{Wrote}
use Rattle.amqp_engine.specs.declared.port.Wrote.TheVariants.{Took, Failed, NoMemory}
use Rattle.amqp_engine.specs.Plan.{Plan, Coming, plan_write, plan_failure, plan_step, PlanAnswers, room_for, next_coming}
use Rattle.amqp_engine.specs.Log.{Log, PlansWrite, log_ask, log_step, log_write}
use Rattle.amqp_engine.specs.Engine.{Engine, can_write, overlong_next, commit_all}
use Rattle.amqp_rules.specs.Writing.{frames_waiting}
use Rattle.amqp_engine.specs.Turn.{is_before, Progress, Notes, Turn, write_answers, asks, wants_ask, goes, offer_part, offered, is_all, AreAnswers, read, after_writes, turn, turns, starved_after, IsCut, IsAnswered, IsTurn, AreTurns, AreTold, AreFit, exchanges, cut_of, no_notes, cut_questions}
use Rattle.amqp_engine.specs.Tell.{Offer, port_answer, offers_from, offers_of, turn_of, log_asks, log_stepped, log_offers, log_turn, log_turns, PlaysOffers, PlaysTurn, PlaysTurns, MayCome, RunsLent}
use Rattle.amqp_engine.specs.Play.{offers_waiting, room_of, fails_of, played_answer, played_writes, played_step, told_turn, played_turn_of, played_turn, played_turns, answer_noted, AreAnswered, IsPlayed}
use Rattle.amqp_engine.proofs.Answering.{answer-size, answered-all}
use Rattle.amqp_engine.proofs.FirstAnswers.{Alike, with_answers, read_with, read-first}
use Rattle.amqp_engine.proofs.Over.{turn-is}
use Rattle.amqp_engine.proofs.Lifting.{read-cut}
use Rattle.amqp_types.proofs.Small.{if_case, if_by, if-true, if-false, and-false, and-true, and-right, and-other}
use Rattle.amqp_engine.proofs.Cases.{some-unsent}
use Rattle.amqp_rules.proofs.Keeping.{starve-ends}
use Rattle.amqp_engine.proofs.Commits.{waiting-commits}
use Rattle.amqp_engine.proofs.Offers.{waiting-wrote, goes-answer}

planned-map : (f : Plan → Plan) (p : Option Plan) → is_some (option_map f p) ≡ is_some p
planned-map f None = refl
planned-map f (Some p) = refl

-- a plan stays
planned-write : (bytes : List ℕ) (w : Wrote) (a : Log) → is_some (log_write bytes w a).plan ≡ is_some a.plan
planned-write bytes (Took k) a = planned-map (plan_write k) a.plan
planned-write bytes Failed a = planned-map plan_failure a.plan
planned-write bytes NoMemory a = refl

planned-step : (at : ℕ) (s : Step) (bytes : List ℕ) (a : Log) → is_some (log_step at s bytes a).plan ≡ is_some a.plan
planned-step at s bytes a = planned-map (plan_step a.asked) a.plan

planned-asks : (e : Engine) (a : Log) → is_some (log_asks e a).plan ≡ is_some a.plan
planned-asks e a = if_case (λ (x : Log). is_some x.plan ≡ is_some a.plan) (wants_ask e) (log_ask a) a refl refl

planned-offers : (os : List Offer) (a : Log) → is_some (log_offers os a).plan ≡ is_some a.plan
planned-offers [] a = refl
planned-offers (o ∷ os) a = planned-offers os (log_write o.bytes o.answer a) ∙ planned-write o.bytes o.answer a

planned-stepped : (u : Turn) (e : Engine) (a : Log) → is_some (log_stepped u e a).plan ≡ is_some a.plan
planned-stepped u e a = planned-step u.at u.step u.bytes (log_asks e a) ∙ planned-asks e a

planned-turn : (u : Turn) (e : Engine) (a : Log) → is_some (log_turn u e a).plan ≡ is_some a.plan
planned-turn u e a = planned-offers (offers_of u (asks e)) (log_stepped u e a) ∙ planned-stepped u e a

-- a write that is due can come
due-waiting : (e : Engine) → can_write e ≡ true → 0 < offers_waiting e
due-waiting e h =
    let some = some-unsent (is_open e.talk) (not e.talk.blocked) (not (is_some (overlong_next e))) (length (commit_all e).unsent) h in
    omega (arith, waiting-commits (frames_waiting e.talk) e)

goes-on : (p : Progress) → p.cut ≡ None → goes p ≡ true
goes-on p cut = ap (λ (x : Option ℕ). is_before x p.done) cut

-- what a port that plays a script answers, in a turn that is not cut
uncut-answer : (w : Wrote) (p : Progress) → p.cut ≡ None → port_answer w p ≡ w
uncut-answer w p cut = goes-answer w p (goes-on (offer_part w p) cut)

answer-plan : (w : Wrote) (p : Option Plan) (n : ℕ) → is_some p ≡ true → IfSome p (λ q. PlanAnswers q n w) → (w ≡ NoMemory → ⊥)
    → w ≡ (if fails_of p then Failed else Took (room_of p n))
answer-plan w None n planned plays other = cc
answer-plan (Took k) (Some p) n planned plays other = ap Took plays.1 ∙ sym (if-false p.fails Failed (Took (room_for p.room n)) plays.0)
answer-plan Failed (Some p) n planned plays other = sym (if-true p.fails Failed (Took (room_for p.room n)) plays)
answer-plan NoMemory (Some p) n planned plays other = absurd (other refl)

-- what is noted of a turn that is not cut
abbrev pub whole_notes : List ℕ → Bool → Notes
whole_notes ks failed = record { tooks = ks; failed = failed; auths = []; starved = None }

-- where no answer is left, nothing more is noted
none-noted : (ks : List ℕ) (failed : Bool) → write_answers (whole_notes ks failed) ≡ [] → whole_notes ks failed ≡ no_notes
none-noted [] true h = cc
none-noted [] false h = refl
none-noted (k ∷ ks) failed h = cc

tail-played : {A : Type 0} (b : Bool) (ks : List ℕ) (failed : Bool) (rest : Notes) → MatchBool b A (write_answers (whole_notes ks failed) ≡ [])
    → (b ≡ true → A → whole_notes ks failed ≡ rest) → whole_notes ks failed ≡ (if b then rest else no_notes)
tail-played true ks failed rest m f = f refl m
tail-played false ks failed rest m f = none-noted ks failed m

abbrev pub later : ℕ → Wrote → Progress → Log → Notes
later n w p a = if is_all w (length (offered p.engine)) then played_writes n (offer_part w p) (log_write (offered p.engine) w a) else no_notes

-- one answer that is due is the one of the script
due-answer : (n : ℕ) (w : Wrote) (p : Progress) (a : Log) → can_write p.engine ≡ true → w ≡ played_answer p.engine a
    → answer_noted w (later n w p a) ≡ played_writes (suc n) p a
due-answer n w p a can is =
    let x = played_answer p.engine a in
    ap (λ (x : Wrote). answer_noted x (later n x p a)) is ∙ sym (ap (λ (b : Bool). if b then answer_noted x (later n x p a) else no_notes) can)

-- what is noted of the writes is determined
writes-played : (ks : List ℕ) (failed : Bool) (n : ℕ) (p : Progress) (a : Log) → p.cut ≡ None → is_some a.plan ≡ true
    → AreAnswers (write_answers (whole_notes ks failed)) p → PlaysOffers (offers_from (write_answers (whole_notes ks failed)) p) a → offers_waiting p.engine ≤ n
    → whole_notes ks failed ≡ played_writes n p a
writes-played [] false zero p a cut planned h plays le = refl
writes-played [] false (suc n) p a cut planned h plays le =
    let can : can_write p.engine ≡ false = and-other (goes p) (can_write p.engine) (goes-on p cut) h in
    let w = played_answer p.engine a in
    sym (ap (λ (b : Bool). if b then answer_noted w (later n w p a) else no_notes) can)
writes-played [] true zero p a cut planned h plays le = absurd (omega (arith, due-waiting p.engine (and-right (goes p) (can_write p.engine) h.0)))
writes-played [] true (suc n) p a cut planned h plays le =
    due-answer n Failed p a (and-right (goes p) (can_write p.engine) h.0) (answer-plan Failed a.plan (length (offered p.engine)) planned plays.0 (λ is. cc))
writes-played (k ∷ ks) failed zero p a cut planned h plays le =
    absurd (omega (arith, due-waiting p.engine (and-right (goes p) (can_write p.engine) h.0)))
writes-played (k ∷ ks) failed (suc n) p a cut planned h plays le =
    let e = p.engine in
    let w : Wrote = Took k in
    let can : can_write e ≡ true = and-right (goes p) (can_write e) h.0 in
    let some : 0 < length (offered e) = some-unsent (is_open e.talk) (not e.talk.blocked) (not (is_some (overlong_next e))) (length (offered e)) can in
    let told : port_answer w p ≡ w = uncut-answer w p cut in
    let P : Wrote → Type 0 = λ x. PlansWrite (length (offered e)) x a in
    let Q : Wrote → Type 0 = λ x. PlaysOffers (offers_from (write_answers (whole_notes ks failed)) (offer_part w p)) (log_write (offered e) x a) in
    let tail : whole_notes ks failed ≡ later n w p a =
    tail-played {A = AreAnswers (write_answers (whole_notes ks failed)) (offer_part w p)} (is_all w (length (offered e))) ks failed
    (played_writes n (offer_part w p) (log_write (offered e) w a)) h.2
    (λ whole rest. writes-played ks failed n (offer_part w p) (log_write (offered e) w a) cut (planned-write (offered e) w a ∙ planned) rest (subst Q told plays.1)
    (omega (arith, waiting-wrote p.at w e some whole, le))) in
    ap (answer_noted w) tail ∙ due-answer n w p a can (answer-plan w a.plan (length (offered e)) planned (subst P told plays.0) (λ is. cc))

-- the step is determined
step-played : (p : Option Plan) (h : Coming) → is_some p ≡ true → IfSome p (λ q. next_coming q ≡ h) → played_step p ≡ h
step-played None h planned plays = cc
step-played (Some p) h planned plays = plays

-- what is noted of the writes does not go by the answers that are left
pub played-any : (n : ℕ) (left : List Asked) (p : Progress) (a : Log) → played_writes n (with_answers left p) a ≡ played_writes n p a
played-any zero left p a = refl
played-any (suc n) left p a =
    let w = played_answer p.engine a in
    let some = can_write p.engine in
    let whole = is_all w (length (offered p.engine)) in
    ap (λ (m : Notes). if some then answer_noted w (if whole then m else no_notes) else no_notes)
    (played-any n left (offer_part w p) (log_write (offered p.engine) w a))

-- where no turn was cut, one answers each question
answer-whole : (cut : Option ℕ) (questions next : List Question) (answers : List Asked) → cut ≡ None → IsAnswered cut questions next answers → Answer questions answers
answer-whole None questions next answers whole h = h
answer-whole (Some j) questions next answers whole h = cc

-- these are the first answers, whatever follows them
first-alike : (questions : List Question) (answers more : List Asked) → Answer questions answers → answers ≡ take (length questions) (answers ++ more)
first-alike questions answers more h = sym (take_at answers more (length questions) (sym (answer-size questions answers h)))

-- the turn is determined, whatever is answered after it
turn-played : (u : Turn) (e : Engine) (a : Log) (more : List Asked) → IsTurn u e → PlaysTurn u e a → u.notes.starved ≡ None → is_some a.plan ≡ true
    → u ≡ played_turn (u.notes.auths ++ more) e a
turn-played u e a more may plays whole planned =
    let b = log_stepped u e a in
    let auths = u.notes.auths in
    let all = auths ++ more in
    let p = read u (asks e) in
    let h : Coming = record { at = u.at; step = u.step; bytes = u.bytes } in
    let q = read (told_turn h all) (asks e) in
    let n = length p.questions in
    let asked : Answer p.questions auths = answer-whole u.notes.starved p.questions (cut_questions u (asks e)) auths whole may.applied.asked in
    let first : auths ≡ take n all = first-alike p.questions auths more asked in
    let alike : Alike n auths all = take_all n auths (omega (arith, answer-size p.questions auths asked)) ∙ first in
    let same : q ≡ with_answers (drop n all) p =
    ap (λ (x : Option ℕ). read_with u.at x u.step u.bytes all (asks e)) (sym whole)
    ∙ read-first u.at u.notes.starved u.step u.bytes auths all (asks e) alike in
    let cut : p.cut ≡ None = read-cut u (asks e) ∙ whole in
    let notes : whole_notes u.notes.tooks u.notes.failed ≡ played_writes (offers_waiting p.engine) p b =
    writes-played u.notes.tooks u.notes.failed (offers_waiting p.engine) p b cut (planned-stepped u e a ∙ planned) may.applied.answers plays.1 (omega arith) in
    ap (λ (x : Option ℕ). turn_of u.at u.step u.bytes (record u.notes { starved = x })) whole
    ∙ ap (λ (m : Notes). turn_of u.at u.step u.bytes (record m { auths = auths })) (notes ∙ sym (played-any (offers_waiting p.engine) (drop n all) p b))
    ∙ ap (λ (xs : List Asked). turn_of u.at u.step u.bytes (record (played_writes (offers_waiting p.engine) (with_answers (drop n all) p) b) { auths = xs })) first
    ∙ ap (λ (x : Progress). turn_of u.at u.step u.bytes (record (played_writes (offers_waiting x.engine) x b) { auths = take (length x.questions) all })) (sym same)
    ∙ sym (ap (λ (h : Coming). played_turn_of h all e a) (step-played (log_asks e a).plan _ (planned-asks e a ∙ planned) plays.0))

-- a turn that was cut is the last
whole-end : (s : Option ℕ) (at : ℕ) (e : Engine) (us : List Turn) → AreTurns us (starved_after s at e)
    → (turns us (starved_after s at e)).starved ≡ None → s ≡ None
whole-end None at e us may end = refl
whole-end (Some j) at e [] may end = cc
whole-end (Some j) at e (v ∷ us) may end =
    let over : has_ended (starve (present_at at e.talk)) ≡ true = starve-ends (present_at at e.talk) in
    let running : has_ended (starve (present_at at e.talk)) ≡ false = may.0.running in
    cc

stops : (b : Bool) (n : ℕ) (e : Engine) (xs : List Turn) → has_ended e.talk ≡ b → (has_ended e.talk ≡ false → 0 ≡ suc n) → ◌≡◌ {A = List Turn} [] (if b then [] else xs)
stops true n e xs h f = refl
stops false n e xs h f = absurd (omega (arith, f h))

-- what the provider answered in these turns, in order
abbrev pub auths_in : List Turn → List Asked
auths_in [] = []
auths_in (u ∷ us) = u.notes.auths ++ auths_in us

-- where the first of these turns is not the last of a session to which memory was refused, it was not cut
first-whole : (u : Turn) (us : List Turn) (e : Engine) → AreTurns (u ∷ us) e → (turns (u ∷ us) e).starved ≡ None → u.notes.starved ≡ None
first-whole u us e may whole =
    let is_turn = turn-is u e may.0.running in
    let A : Engine → Type 0 = λ x. AreTurns us x in
    let W : Engine → Type 0 = λ x. (turns us x).starved ≡ None in
    whole-end u.notes.starved u.at (after_writes u (asks e)).engine us (subst A is_turn may.1) (subst W is_turn whole)

-- none of these turns was cut
turns-whole : (us : List Turn) (e : Engine) → AreTurns us e → (turns us e).starved ≡ None → cut_of us ≡ None
turns-whole [] e may whole = refl
turns-whole (u ∷ us) e may whole =
    ap (λ (x : Option ℕ). option_or x (cut_of us)) (first-whole u us e may whole) ∙ turns-whole us (turn u e) may.1 whole

-- and all that they asked was answered
turns-answered : (us : List Turn) (e : Engine) → AreTurns us e → (turns us e).starved ≡ None → AreAnswered us e
turns-answered [] e may whole = tt
turns-answered (u ∷ us) e may whole = (
  answer-whole u.notes.starved (read u (asks e)).questions (cut_questions u (asks e)) u.notes.auths (first-whole u us e may whole) may.0.applied.asked,
  turns-answered us (turn u e) may.1 whole,
)

-- the turns are determined, whatever is answered after them
pub turns-played : (us : List Turn) (n : ℕ) (e : Engine) (a : Log) (more : List Asked) → AreTurns us e → PlaysTurns us e a → length us ≤ n
    → (has_ended (turns us e).talk ≡ false → length us ≡ n) → is_some a.plan ≡ true
    → (turns us e).starved ≡ None → us ≡ played_turns n (auths_in us ++ more) e a
turns-played [] zero e a more may told le all planned whole = refl
turns-played [] (suc n) e a more may told le all planned whole =
    let u = played_turn more e a in
    stops (has_ended e.talk) n e (u ∷ played_turns n (drop (length u.notes.auths) more) (turn u e) (log_turn u e a)) refl all
turns-played (u ∷ us) zero e a more may told le all planned whole = absurd (omega arith)
turns-played (u ∷ us) (suc n) e a more may told le all planned whole =
    let none : List Turn = [] in
    let auths = u.notes.auths in
    let behind = auths_in us ++ more in
    let answers = (auths ++ auths_in us) ++ more in
    let joined : auths ++ behind ≡ answers = sym (append_assoc auths (auths_in us) more) in
    let is : u ≡ played_turn answers e a =
    turn-played u e a behind may.0 told.0 (first-whole u us e may whole) planned ∙ ap (λ (xs : List Asked). played_turn xs e a) joined in
    let v = played_turn answers e a in
    let left : behind ≡ drop (length auths) answers = sym (ap (drop (length auths)) (sym joined) ∙ drop_at auths behind (length auths) refl) in
    ap (λ (x : List Turn). u ∷ x) (turns-played us n (turn u e) (log_turn u e a) more may.1 told.1 (omega arith) (λ h. omega (arith, all h)) (planned-turn u e a ∙ planned) whole)
    ∙ ap (λ (xs : List Asked). u ∷ played_turns n xs (turn u e) (log_turn u e a)) left
    ∙ ap (λ (x : Turn). x ∷ played_turns n (drop (length x.notes.auths) answers) (turn x e) (log_turn x e a)) is
    ∙ sym (ap (λ (b : Bool). if b then none else v ∷ played_turns n (drop (length v.notes.auths) answers) (turn v e) (log_turn v e a)) may.0.running)

-- what may come where nothing was cut, may come from the provider
whole-allows : (cut : Option ℕ) (before after : Exchange → Type 0) (exchange : Exchange) → cut ≡ None → MayCome cut before after exchange → Allows before exchange
whole-allows None before after exchange whole may = subst (Allows before) (append-nil exchange) (may [] tt)
whole-allows (Some j) before after exchange whole may = may

-- a run is the run of the script
pub Runs-played : (n : ℕ) (e e' : Engine) (a : Log) (log : Option Log) (before after : Exchange → Type 0) → RunsLent n e e' (Some a) log before after
    → IsSome a.plan → e'.starved ≡ None → IsPlayed n e e' a log before
Runs-played n e e' a log before after lent planned whole =
    let r = lent.runs in
    let P : Engine → Type 0 = λ x. x.starved ≡ None in
    let Q : Engine → Type 0 = λ x. has_ended x.talk ≡ false → length r.us ≡ n in
    let answers = auths_in r.us ++ [] in
    let ends : (turns r.us e).starved ≡ None = subst P (sym r.leads.leaves) whole in
    let is : r.us ≡ played_turns n answers e a =
    turns-played r.us n e a [] r.leads.may r.tells.plays r.within (subst Q (sym r.leads.leaves) r.all) planned ends in
    let A : List Turn → Type 0 = λ us. AreAnswered us e in
    let X : List Turn → Type 0 = λ us. Allows before (exchanges us e) in
    record {
      answers = answers;
      engine = ap (λ us. turns us e) (sym is) ∙ r.leads.leaves;
      told = r.tells.told ∙ ap (λ us. Some (log_turns us e a)) is;
      answered = subst A is (turns-answered r.us e r.leads.may ends);
      steps_told = subst AreTold is r.told;
      fit = subst AreFit is r.fit;
      exchanged = subst X is (whole-allows (cut_of r.us) before after (exchanges r.us e) (turns-whole r.us e r.leads.may ends) lent.exchanged);
    }

-- the same over a port that may tell nothing
pub runs-played : (n : ℕ) (e e' : Engine) (log log' : Option Log) (before after : Exchange → Type 0) → RunsLent n e e' log log' before after
    → IfSome log (λ a. IsSome a.plan → e'.starved ≡ None → IsPlayed n e e' a log' before)
runs-played n e e' None log' before after r = tt
runs-played n e e' (Some a) log' before after r = Runs-played n e e' a log' before after r

-- ---- what is played are turns

room-within : (o : Option Plan) (n : ℕ) → room_of o n ≤ n
room-within None n = omega arith
room-within (Some p) n = within p.room where
  within : (room : Option ℕ) → room_for room n ≤ n
  within None = omega arith
  within (Some left) = omega arith

-- what is answered is what the script has room for
plans-failure : (o : Option Plan) (n : ℕ) → fails_of o ≡ true → IfSome o (λ p. PlanAnswers p n Failed)
plans-failure None n h = tt
plans-failure (Some p) n h = h

plans-room : (o : Option Plan) (n : ℕ) → fails_of o ≡ false → IfSome o (λ p. PlanAnswers p n (Took (room_of o n)))
plans-room None n h = tt
plans-room (Some p) n h = (h, refl)

-- these are the answers that are due, and the script gives them
record Due (ws : List Wrote) (p : Progress) (a : Log) : Type 0 where
  may : AreAnswers ws p
  plays : PlaysOffers (offers_from ws p) a

due-none : (p : Progress) (a : Log) → can_write p.engine ≡ false → Due [] p a
due-none p a h = record { may = and-false (goes p) (can_write p.engine) h; plays = tt }

due-tail : (b : Bool) (m : Notes) (p : Progress) (a : Log) → (b ≡ true → Due (write_answers m) p a)
    → MatchBool b (AreAnswers (write_answers (if b then m else no_notes)) p) (write_answers (if b then m else no_notes) ≡ [])
    × PlaysOffers (offers_from (write_answers (if b then m else no_notes)) p) a
due-tail true m p a f = ((f refl).may, (f refl).plays)
due-tail false m p a f = (refl, tt)

due-failed : (n : ℕ) (p : Progress) (a : Log) → p.cut ≡ None → can_write p.engine ≡ true → fails_of a.plan ≡ true → Due (write_answers (answer_noted Failed (later n Failed p a))) p a
due-failed n p a cut can fails =
    record { may = (and-true (goes p) (can_write p.engine) (goes-on p cut) can, tt, refl); plays = (plans-failure a.plan (length (offered p.engine)) fails, tt) }

due-played : (n : ℕ) (p : Progress) (a : Log) → p.cut ≡ None → offers_waiting p.engine ≤ n → Due (write_answers (played_writes n p a)) p a
due-played zero p a cut le = by (can_write p.engine) refl where
  by : (b : Bool) → can_write p.engine ≡ b → Due [] p a
  by true h = absurd (omega (arith, due-waiting p.engine h))
  by false h = due-none p a h
due-played (suc n) p a cut le =
    let e = p.engine in
    let k = room_of a.plan (length (offered e)) in
    let w : Wrote = Took k in
    let a' = log_write (offered e) w a in
    let told : port_answer w p ≡ w = uncut-answer w p cut in
    let P : Wrote → Type 0 = λ x. PlansWrite (length (offered e)) x a in
    let Q : Wrote → Type 0 = λ x. PlaysOffers (offers_from (write_answers (later n w p a)) (offer_part w p)) (log_write (offered e) x a) in
    let D : Wrote → Type 0 = λ x. Due (write_answers (answer_noted x (later n x p a))) p a in
    if_by (λ (m : Notes). Due (write_answers m) p a) (can_write e) (answer_noted (played_answer e a) (later n (played_answer e a) p a)) no_notes
    (λ can. if_by D (fails_of a.plan) Failed w (due-failed n p a cut can)
    (λ works.
    let some : 0 < length (offered e) = some-unsent (is_open e.talk) (not e.talk.blocked) (not (is_some (overlong_next e))) (length (offered e)) can in
    let tail = due-tail (is_all w (length (offered e))) (played_writes n (offer_part w p) a') (offer_part w p) a'
    (λ whole. due-played n (offer_part w p) a' cut (omega (arith, waiting-wrote p.at w e some whole, le))) in
    record {
      may = (and-true (goes p) (can_write e) (goes-on p cut) can, room-within a.plan (length (offered e)), tail.0);
      plays = (subst P (sym told) (plans-room a.plan (length (offered e)) works), subst Q (sym told) tail.1);
    }))
    (λ cannot. due-none p a cannot)

-- and no turn is cut
pub whole-played : (n : ℕ) (p : Progress) (a : Log) → (played_writes n p a).starved ≡ None
whole-played zero p a = refl
whole-played (suc n) p a =
    let w = played_answer p.engine a in
    if_case (λ (m : Notes). m.starved ≡ None) (can_write p.engine) (answer_noted w (later n w p a)) no_notes
    (noted-whole w (later n w p a) (if_case (λ (m : Notes). m.starved ≡ None) (is_all w (length (offered p.engine)))
    (played_writes n (offer_part w p) (log_write (offered p.engine) w a)) no_notes
    (whole-played n (offer_part w p) (log_write (offered p.engine) w a)) refl)) refl
  where
    noted-whole : (w : Wrote) (m : Notes) → m.starved ≡ None → (answer_noted w m).starved ≡ None
    noted-whole (Took k) m h = h
    noted-whole Failed m h = h
    noted-whole NoMemory m h = h

plans-step : (o : Option Plan) → is_some o ≡ true
    → IfSome o (λ p. next_coming p ≡ record { at = (played_step o).at; step = (played_step o).step; bytes = (played_step o).bytes })
plans-step None h = cc
plans-step (Some p) h = refl

-- the turn that is played, up to its writes
abbrev played_read : List Asked → Engine → Log → Progress
played_read answers e a = read (told_turn (played_step (log_asks e a).plan) answers) (asks e)

-- what it took of the answers is enough for it
played-reads : (answers : List Asked) (e : Engine) (a : Log)
    → read (played_turn answers e a) (asks e)
    ≡ with_answers (drop (length (played_read answers e a).questions) (played_turn answers e a).notes.auths) (played_read answers e a)
played-reads answers e a =
    let u = played_turn answers e a in
    let q = played_read answers e a in
    let n = length q.questions in
    let b = log_stepped u e a in
    ap (λ (x : Option ℕ). read_with u.at x u.step u.bytes u.notes.auths (asks e)) (whole-played (offers_waiting q.engine) q b)
    ∙ read-first u.at None u.step u.bytes answers u.notes.auths (asks e) (sym (take-take n n answers (omega arith)))

-- its writes are those that are due
played-due : (answers : List Asked) (e : Engine) (a : Log)
    → Due (write_answers (played_turn answers e a).notes) (read (played_turn answers e a) (asks e)) (log_stepped (played_turn answers e a) e a)
played-due answers e a =
    let u = played_turn answers e a in
    let q = played_read answers e a in
    let b = log_stepped u e a in
    let n = offers_waiting q.engine in
    let left = drop (length q.questions) u.notes.auths in
    let r = with_answers left q in
    let N : Notes → Type 0 = λ m. Due (write_answers m) r b in
    let R : Progress → Type 0 = λ x. Due (write_answers u.notes) x b in
    subst R (sym (played-reads answers e a))
    (subst N (played-any n left q b) (due-played n r b (read-cut (told_turn (played_step (log_asks e a).plan) answers) (asks e)) (omega arith)))

played-is-turn : (answers : List Asked) (e : Engine) (a : Log) → has_ended e.talk ≡ false
    → Answer (read (played_turn answers e a) (asks e)).questions (played_turn answers e a).notes.auths → IsTurn (played_turn answers e a) e
played-is-turn answers e a running asked =
    let u = played_turn answers e a in
    let q = played_read answers e a in
    let whole : u.notes.starved ≡ None = whole-played (offers_waiting q.engine) q (log_stepped u e a) in
    let C : Option ℕ → Type 0 = λ x. IsCut x (after_writes u (asks e)).done in
    record {
      running = running;
      applied = record {
        answers = (played-due answers e a).may;
        asked = answered-all u.notes.starved (read u (asks e)).questions (cut_questions u (asks e)) u.notes.auths asked;
        cut = subst C (sym whole) tt;
      };
    }

-- a port that plays the script tells it so
played-plays : (answers : List Asked) (e : Engine) (a : Log) → is_some a.plan ≡ true → PlaysTurn (played_turn answers e a) e a
played-plays answers e a planned =
    (plans-step (log_asks e a).plan (planned-asks e a ∙ planned), (played-due answers e a).plays)

-- the turns of at most so many steps are turns, where what they ask is answered
pub played-are-turns : (n : ℕ) (answers : List Asked) (e : Engine) (a : Log) → AreAnswered (played_turns n answers e a) e → AreTurns (played_turns n answers e a) e
played-are-turns zero answers e a all = tt
played-are-turns (suc n) answers e a all =
    let u = played_turn answers e a in
    let left = drop (length u.notes.auths) answers in
    by (has_ended e.talk) refl all (played-is-turn answers e a) (played-are-turns n left (turn u e) (log_turn u e a))
  where
    u : Turn
    u = played_turn answers e a

    us : List Turn
    us = played_turns n (drop (length u.notes.auths) answers) (turn u e) (log_turn u e a)

    by : (b : Bool) → has_ended e.talk ≡ b → AreAnswered (if b then [] else u ∷ us) e
        → (has_ended e.talk ≡ false → Answer (read u (asks e)).questions u.notes.auths → IsTurn u e)
        → (AreAnswered us (turn u e) → AreTurns us (turn u e)) → AreTurns (if b then [] else u ∷ us) e
    by true over all here later = tt
    by false running all here later = (here running all.0, later all.1)

-- and a port that plays the script tells them so, whatever is answered
pub turns-plays : (n : ℕ) (answers : List Asked) (e : Engine) (a : Log) → is_some a.plan ≡ true → PlaysTurns (played_turns n answers e a) e a
turns-plays zero answers e a planned = tt
turns-plays (suc n) answers e a planned =
    let u = played_turn answers e a in
    let left = drop (length u.notes.auths) answers in
    let none : List Turn = [] in
    if_case (λ (vs : List Turn). PlaysTurns vs e a) (has_ended e.talk) none (u ∷ played_turns n left (turn u e) (log_turn u e a)) tt
    (played-plays answers e a planned, turns-plays n left (turn u e) (log_turn u e a) (planned-turn u e a ∙ planned))
