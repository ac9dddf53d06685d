-- A turn that was cut no sooner than it had ended its session is as one that was not cut.
use Rattle.std.proofs.Common.{◌≡◌, ◌<◌, ◌∙◌, ap, sym, refl, subst, ℕ, zero, suc, ◌==◌, ◌&&◌, not, if◌then◌else◌, Bool, true, false, true≢false, MatchBool, List, [], ◌∷◌, ◌++◌, length, take, take_all, append-nil, Option, Some, None, is_some, Ok, Err, inl, inr, arith}
use Rattle.std.proofs.lemmas.Bool.Decides.{nat_tests}
use Rattle.amqp_types.proofs.Small.{if-true, if-false, and-right, and-true, and-false, and-other, the-number}
use Rattle.amqp_promise.specs.declared.error.ErrorKind.TheVariants.{NoMemory as RefusedMemory}
use Rattle.amqp_auth.specs.declared.asked.Question.{Question}
use Rattle.amqp_auth.specs.declared.asked.Asked.{Asked}
use Rattle.amqp_auth.specs.Providers.{Exchange, Allows}
use Rattle.amqp_auth.specs.Asking.{Answer, paired}
use Rattle.amqp_rules.specs.Talk.{Talk, has_ended, end_of, is_open}
use Rattle.amqp_rules.specs.Changes.{present_at, fail, starve}
use Rattle.amqp_rules.specs.Writing.{frames_waiting, sent_among, taken}
use Rattle.amqp_rules.proofs.Keeping.{present-keeps, starve-ends}
use Rattle.amqp_engine.specs.declared.port.Step.{Step}
use Rattle.amqp_engine.specs.declared.port.Step.TheVariants.{Linked, LinkFailed, Piece, End, Fault, Room, Tick, Command}
use Rattle.amqp_engine.specs.declared.port.Wrote.{Wrote}
use Rattle.amqp_engine.specs.declared.port.Wrote.TheVariants.{Took, Failed, NoMemory}
use Rattle.amqp_engine.specs.Log.{on_last}
use Rattle.amqp_engine.specs.Engine.{Engine, is_more, front_of, step_engine, step_questions, can_read, read_questions, overlong_next, refuse_overlong, can_write, commit_all, starve_at}
use Rattle.amqp_engine.specs.Turn.{Turn, Progress, write_answers, asks, begun, goes, part, questioned, is_part, is_piece, step_part, read_part, reads, reading, offer_part, offered, answered, closing, is_all, drained, AreAnswers, read, after_writes, turn, turns, starved_after, IsAnswered, cut_questions, IsTurn, AreTurns, AreTold, AreFit, exchange_of, exchanges, cut_of}
use Rattle.amqp_engine.specs.Sending.{Sending, offer_sending, offers_sending, step_sending, turn_sending, sendings_from}
use Rattle.amqp_engine.specs.Tell.{port_answer, Offer, offers_from, offers_of, MayCome}
use Rattle.amqp_engine.proofs.Cases.{some-unsent}
use Rattle.amqp_engine.proofs.Commits.{commits-keep}
use Rattle.amqp_engine.proofs.Settling.{settle-talk}
use Rattle.amqp_engine.proofs.Reading.{reads-rest, reads-done, reading-cut}
use Rattle.amqp_engine.proofs.Lifting.{all-rest, stops-none}
use Rattle.amqp_engine.proofs.Over.{asks-running, turn-is, ended-closed, over-writes, over-refuses}
use Rattle.amqp_joining.specs.Joining.{Join, JoinsOffers, JoinsTurns, AreFed, after_join_step, asked_now, asked_then}
use Rattle.amqp_joined.specs.JoinedRuns.{uncut}

-- a turn in the making that is not cut
abbrev whole : Progress → Progress
whole p = record p { cut = None }

-- a turn that is noted so
abbrev uncut_turn : Turn → Turn
uncut_turn u = record u { notes = record u.notes { starved = None } }

-- what has ended is not read on
ended-unread : (e : Engine) → has_ended e.talk ≡ true → can_read e ≡ false
ended-unread e h = ap (λ (b : Bool). b && not (is_more (front_of e))) (ended-closed e.talk.link h)

-- ---- what is read

-- frames are read alike, where all were read that could be
reads-whole : (n : ℕ) (p : Progress) → (goes (reads n p) ≡ false → can_read (reads n p).engine ≡ false) → reads n (whole p) ≡ whole (reads n p)
reads-whole zero p h = refl
reads-whole (suc n) p h = by (goes p) (can_read p.engine) refl refl (λ k. reads-whole n (read_part p) k) where
  All : Progress → Type 0
  All q = goes q ≡ false → can_read q.engine ≡ false

  none : can_read p.engine ≡ false → reads (suc n) (whole p) ≡ whole (reads (suc n) p)
  none empty = reads-rest (suc n) (whole p) empty ∙ ap whole (sym (reads-rest (suc n) p empty))

  by : (g c : Bool) → goes p ≡ g → can_read p.engine ≡ c → (All (reads n (read_part p)) → reads n (whole (read_part p)) ≡ whole (reads n (read_part p))) → reads (suc n) (whole p) ≡ whole (reads (suc n) p)
  by g false on can rest = none can
  by true true on can rest =
      let same : reads (suc n) p ≡ reads n (read_part p) = if-true (goes p && can_read p.engine) (reads n (read_part p)) p (and-true (goes p) (can_read p.engine) on can) in
      if-true (can_read p.engine) (reads n (whole (read_part p))) (whole p) can
      ∙ rest (subst All same h)
      ∙ ap whole (sym same)
  by false true off can rest =
      let stays : reads (suc n) p ≡ p = if-false (goes p && can_read p.engine) (reads n (read_part p)) p (ap (λ (b : Bool). b && can_read p.engine) off) in
      none (subst All stays h off)

reading-whole : (b : Bool) (p : Progress) → (b ≡ true → goes (reading b p) ≡ false → can_read (reading b p).engine ≡ false) → reading b (whole p) ≡ whole (reading b p)
reading-whole true p h = reads-whole (length p.engine.unread) p (h refl)
reading-whole false p h = refl

-- so is a step that was taken
step-whole : (step : Step) (bytes : List ℕ) (p : Progress) → (is_part step p.engine ≡ true → goes p ≡ true) → step_part step bytes (whole p) ≡ whole (step_part step bytes p)
step-whole step bytes p h = by (is_part step p.engine) refl where
  after : Engine
  after = step_engine p.at step bytes p.answers p.engine

  done : Progress
  done = part after (questioned (step_questions p.at step p.answers p.engine) p)

  plain : Progress
  plain = record p { engine = after }

  by : (b : Bool) → is_part step p.engine ≡ b → step_part step bytes (whole p) ≡ whole (step_part step bytes p)
  by true is =
      if-true (is_part step p.engine) (whole done) (whole plain) is
      ∙ ap whole (sym (if-true (is_part step p.engine) (if goes p then done else p) plain is ∙ if-true (goes p) done p (h is)))
  by false is =
      if-false (is_part step p.engine) (whole done) (whole plain) is
      ∙ ap whole (sym (if-false (is_part step p.engine) (if goes p then done else p) plain is))

-- ---- what is written

-- a write that takes nothing ends no session
none-taken : (n : ℕ) (t : Talk) → n ≡ 0 → taken n t ≡ t
none-taken n t none =
    ap (λ (k : ℕ). taken k t) none ∙ if-false (is_open t && not (0 == 0)) (sent_among t.committed 0 (record t { last_write = t.present })) t (and-false (is_open t) (not (0 == 0)) refl)

took-none : (at : ℕ) (e : Engine) → can_write e ≡ true → has_ended (answered at (Took 0) e).talk ≡ false
took-none at e can =
    let c = commit_all e in
    let t = present_at at c.talk in
    ap has_ended (settle-talk (record c { talk = taken 0 t; unsent = c.unsent }) ∙ none-taken 0 t refl)
    ∙ present-keeps has_ended at c.talk (λ n. refl)
    ∙ commits-keep (λ (y : Engine). has_ended y.talk) (λ y fs ms bytes. refl) (frames_waiting e.talk) e
    ∙ by (has_ended e.talk) refl
  where
    by : (b : Bool) → has_ended e.talk ≡ b → b ≡ false
    by false is = refl
    by true is = absurd (true≢false (sym can ∙ over-writes e is))

some-number : (k : ℕ) → (suc k == 0) ≡ false
some-number k = grind (arith, nat_tests)

some-taken : (k : ℕ) (p : Progress) → port_answer (Took (suc k)) p ≡ Took (suc k)
some-taken k p =
    let cut = not (goes (offer_part (Took (suc k)) p)) in
    if-false ((suc k == 0) && cut) NoMemory (Took (suc k)) (ap (λ (b : Bool). b && cut) (some-number k))

-- any other answer is that of the port
answer-whole : (w : Wrote) (p : Progress) → (w ≡ Took 0 → ⊥) → port_answer w (whole p) ≡ port_answer w p
answer-whole (Took zero) p some = absurd (some refl)
answer-whole (Took (suc k)) p some = some-taken k (whole p) ∙ sym (some-taken k p)
answer-whole Failed p some = refl
answer-whole NoMemory p some = refl

-- writes that ended the session are answered alike
record WritesWhole (ws : List Wrote) (p : Progress) : Type 0 where
  same : drained ws (whole p) ≡ whole (drained ws p)
  answers : AreAnswers ws (whole p)
  offers : offers_from ws (whole p) ≡ offers_from ws p

all-of-none : (n : ℕ) → 0 < n → (0 == n) ≡ true → ⊥
all-of-none n some h = absurd (let none = the-number 0 n h in omega (arith, none, some))

drained-whole : (ws : List Wrote) (p : Progress) → AreAnswers ws p → has_ended (drained ws p).engine.talk ≡ true → WritesWhole ws p
drained-whole [] p may over = by (goes p) refl where
  after : Progress
  after = record p { engine = refuse_overlong p.engine }

  by : (b : Bool) → goes p ≡ b → WritesWhole [] p
  by true on =
      record {
        same = ap whole (sym (if-true (goes p) after p on));
        answers = and-other (goes p) (can_write p.engine) on may;
        offers = refl;
      }
  by false off =
      let stays : closing p ≡ p = if-false (goes p) after p off in
      let ended : has_ended p.engine.talk ≡ true = ap (λ (q : Progress). has_ended q.engine.talk) (sym stays) ∙ over in
      record {
        same = ap (λ (x : Engine). record p { engine = x; cut = None }) (over-refuses p.engine ended) ∙ ap whole (sym stays);
        answers = over-writes p.engine ended;
        offers = refl;
      }
drained-whole (w ∷ ws) p may over = elim (all-rest all ws q may.2) [
  | inl last ↦ at-last last.0 last.1
  | inr more ↦ later more.0 more.1 (λ m o. drained-whole ws q m o)
] where
  q : Progress
  q = offer_part w p

  all : Bool
  all = is_all w (length (offered p.engine))

  can : can_write p.engine ≡ true
  can = and-right (goes p) (can_write p.engine) may.0

  some : 0 < length (offered p.engine)
  some = some-unsent (is_open p.engine.talk) (not p.engine.talk.blocked) (not (is_some (overlong_next p.engine))) (length (offered p.engine)) can

  first : Wrote → Progress → Offer
  first v x = record { bytes = offered p.engine; answer = port_answer v x }

  told : (w ≡ Took 0 → ⊥) → first w (whole p) ≡ first w p
  told nonzero = ap (λ (v : Wrote). record { bytes = offered p.engine; answer = v }) (answer-whole w p nonzero)

  at-last : all ≡ false → ws ≡ [] → WritesWhole (w ∷ ws) p
  at-last not_all none =
      record {
        same = if-false all (drained ws (whole q)) (whole q) not_all ∙ ap whole (sym stays);
        answers = (can, may.1, subst (λ (b : Bool). MatchBool b (AreAnswers ws (whole q)) (ws ≡ [])) (sym not_all) none);
        offers = ap (λ (o : Offer). o ∷ offers_from ws (whole q)) (told nonzero) ∙ ap (λ (os : List Offer). first w p ∷ os) rest;
      }
    where
      stays : drained (w ∷ ws) p ≡ q
      stays = if-false all (drained ws q) q not_all

      nonzero : w ≡ Took 0 → ⊥
      nonzero is =
          true≢false (sym over ∙ ap (λ (x : Progress). has_ended x.engine.talk) stays ∙ ap (λ (v : Wrote). has_ended (answered p.at v p.engine).talk) is ∙ took-none p.at p.engine can)

      rest : offers_from ws (whole q) ≡ offers_from ws q
      rest = ap (λ (vs : List Wrote). offers_from vs (whole q)) none ∙ sym (ap (λ (vs : List Wrote). offers_from vs q) none)

  later : all ≡ true → AreAnswers ws q → (AreAnswers ws q → has_ended (drained ws q).engine.talk ≡ true → WritesWhole ws q) → WritesWhole (w ∷ ws) p
  later is_all_taken more rest =
      record {
        same = if-true all (drained ws (whole q)) (whole q) is_all_taken ∙ r.same ∙ ap whole (sym goes_on);
        answers = (can, may.1, subst (λ (b : Bool). MatchBool b (AreAnswers ws (whole q)) (ws ≡ [])) (sym is_all_taken) r.answers);
        offers = ap (λ (o : Offer). o ∷ offers_from ws (whole q)) (told nonzero) ∙ ap (λ (os : List Offer). first w p ∷ os) r.offers;
      }
    where
      goes_on : drained (w ∷ ws) p ≡ drained ws q
      goes_on = if-true all (drained ws q) q is_all_taken

      r : WritesWhole ws q
      r = rest more (ap (λ (x : Progress). has_ended x.engine.talk) (sym goes_on) ∙ over)

      nonzero : w ≡ Took 0 → ⊥
      nonzero is = all-of-none (length (offered p.engine)) some (ap (λ (v : Wrote). is_all v (length (offered p.engine))) (sym is) ∙ is_all_taken)

-- what they sent is the same
sends-whole : (ws : List Wrote) (p : Progress) (ss : List Sending) → offers_sending ws (whole p) ss ≡ offers_sending ws p ss
sends-whole [] p ss = refl
sends-whole (w ∷ ws) p ss = sends-whole ws (offer_part w p) (on_last (offer_sending w p.engine) ss)

-- ---- a turn

-- a step that is no part asks nothing
asks-none : (at : ℕ) (step : Step) (answers : List Asked) (e : Engine) → is_part step e ≡ false → step_questions at step answers e ≡ []
asks-none at Tick answers e none = absurd (true≢false none)
asks-none at Linked answers e none = refl
asks-none at LinkFailed answers e none = refl
asks-none at (Piece n) answers e none = refl
asks-none at End answers e none = refl
asks-none at Fault answers e none = refl
asks-none at Room answers e none = refl
asks-none at (Command c) answers e none = refl

answered-whole : (s : Option ℕ) (questions next : List Question) (answers : List Asked) → next ≡ [] → IsAnswered s questions next answers → Answer questions answers
answered-whole None questions next answers none h = h
answered-whole (Some j) questions next answers none h =
    subst (λ (qs : List Question). Answer qs answers)
    (ap (λ (qs : List Question). take (length answers) (questions ++ qs)) none ∙ ap (take (length answers)) (append-nil questions) ∙ take_all (length answers) questions h.0) h.1

-- where the session ended in a turn, it is one that was not cut
record TurnWhole (u : Turn) (e : Engine) : Type 0 where
  may : IsTurn (uncut_turn u) e
  leaves : turn (uncut_turn u) e ≡ (after_writes u (asks e)).engine
  offers : offers_of (uncut_turn u) (asks e) ≡ offers_of u (asks e)
  exchange : exchange_of (uncut_turn u) (asks e) ≡ exchange_of u (asks e)
  sends : (ss : List Sending) → turn_sending (uncut_turn u) e ss ≡ turn_sending u e ss

turn-whole : (u : Turn) (e : Engine) → IsTurn u e → has_ended (after_writes u (asks e)).engine.talk ≡ true → TurnWhole u e
turn-whole u e may over =
    record {
      may = record {
        running = may.running;
        applied = record {
          answers = subst (AreAnswers ws) (sym same) out.answers;
          asked = subst (λ (q : Progress). Answer q.questions u.notes.auths) (sym same) (answered-whole u.notes.starved r.questions (cut_questions u x) u.notes.auths no-questions may.applied.asked);
          cut = tt;
        };
      };
      leaves = turn-is (uncut_turn u) e may.running ∙ ap (λ (q : Progress). q.engine) (ap (drained ws) same ∙ out.same);
      offers = ap (offers_from ws) same ∙ out.offers;
      exchange =
          ap (λ (qs : List Question). paired ((read (uncut_turn u) x).questions ++ qs) u.notes.auths) none-uncut
          ∙ ap (λ (q : Progress). paired (q.questions ++ []) u.notes.auths) same
          ∙ sym (ap (λ (qs : List Question). paired (r.questions ++ qs) u.notes.auths) no-questions);
      sends = λ ss. ap (λ (q : Progress). offers_sending ws q (step_sending u.step x ss)) same ∙ sends-whole ws r (step_sending u.step x ss);
    }
  where
    x : Engine
    x = asks e

    p0 : Progress
    p0 = begun u.at u.notes.starved u.notes.auths x

    p1 : Progress
    p1 = step_part u.step u.bytes p0

    r : Progress
    r = read u x

    ws : List Wrote
    ws = write_answers u.notes

    -- a turn that is cut before its writes writes nothing
    cut-ended : goes r ≡ false → has_ended r.engine.talk ≡ true
    cut-ended off =
        let none : ws ≡ [] = stops-none ws r off may.applied.answers in
        let stays : drained ws r ≡ r = ap (λ (vs : List Wrote). drained vs r) none ∙ if-false (goes r) (record r { engine = refuse_overlong r.engine }) r off in
        ap (λ (q : Progress). has_ended q.engine.talk) (sym stays) ∙ over

    -- its step was taken
    started : is_part u.step x ≡ true → goes p0 ≡ true
    started is = by (goes p0) refl where
      by : (b : Bool) → goes p0 ≡ b → b ≡ true
      by true on = refl
      by false off =
          let step : p1 ≡ p0 = if-true (is_part u.step x) (if goes p0 then part (step_engine u.at u.step u.bytes u.notes.auths x) (questioned (step_questions u.at u.step u.notes.auths x) p0) else p0) (record p0 { engine = step_engine u.at u.step u.bytes u.notes.auths x }) is
          ∙ if-false (goes p0) (part (step_engine u.at u.step u.bytes u.notes.auths x) (questioned (step_questions u.at u.step u.notes.auths x) p0)) p0 off in
          let stays : r ≡ p0 = ap (reading (is_piece u.step)) step ∙ reading-cut (is_piece u.step) p0 off in
          let ended : has_ended x.talk ≡ true = ap (λ (q : Progress). has_ended q.engine.talk) (sym stays) ∙ cut-ended (ap goes stays ∙ off) in
          absurd (true≢false (sym ended ∙ asks-running e may.running))

    -- and all was read that could be
    all-read : is_piece u.step ≡ true → can_read r.engine ≡ false
    all-read is = by (goes r) refl where
      by : (b : Bool) → goes r ≡ b → can_read r.engine ≡ false
      by false off = ended-unread r.engine (cut-ended off)
      by true on = and-other (goes r) (can_read r.engine) on (subst (λ (b : Bool). (goes (reading b p1) && can_read (reading b p1).engine) ≡ false) (sym is) (reads-done (length p1.engine.unread) p1 (omega arith)))

    same : read (uncut_turn u) x ≡ whole r
    same = ap (reading (is_piece u.step)) (step-whole u.step u.bytes p0 started) ∙ reading-whole (is_piece u.step) p1 (λ is off. all-read is)

    out : WritesWhole ws r
    out = drained-whole ws r may.applied.answers over

    -- nothing more was asked
    more : (b : Bool) (q : Progress) → is_piece u.step ≡ b → can_read q.engine ≡ can_read r.engine → (b && can_read q.engine) ≡ false
    more true q is can = can ∙ all-read is
    more false q is can = refl

    no-questions : cut_questions u x ≡ []
    no-questions = by (goes p0) refl where
      nexts : List Question
      nexts = if is_piece u.step && can_read r.engine then read_questions r.at r.engine else []

      steps : List Question
      steps = step_questions u.at u.step u.notes.auths x

      by : (b : Bool) → goes p0 ≡ b → cut_questions u x ≡ []
      by true on = if-true (goes p0) nexts steps on ∙ if-false (is_piece u.step && can_read r.engine) (read_questions r.at r.engine) [] (more (is_piece u.step) r refl refl)
      by false off = if-false (goes p0) nexts steps off ∙ asks-none u.at u.step u.notes.auths x (no-part (is_part u.step x) refl) where
        no-part : (b : Bool) → is_part u.step x ≡ b → b ≡ false
        no-part true is = absurd (true≢false (sym (started is) ∙ off))
        no-part false is = refl

    none-uncut : cut_questions (uncut_turn u) x ≡ []
    none-uncut =
        let q = read (uncut_turn u) x in
        if-false (is_piece u.step && can_read q.engine) (read_questions q.at q.engine) [] (more (is_piece u.step) q refl (ap (λ (y : Progress). can_read y.engine) same))

-- ---- turns

-- where turns ended a session without an error, these do that were not cut
pub record TurnsWhole (us : List Turn) (e : Engine) : Type 0 where
  pub may : AreTurns (uncut us) e
  pub over : has_ended (turns (uncut us) e).talk ≡ true
  pub exchanged : exchanges (uncut us) e ≡ exchanges us e
  pub sends : (ss : List Sending) → sendings_from (uncut us) e ss ≡ sendings_from us e ss
  pub joins : (flag : Bool) (j last : Join) → JoinsTurns us e flag j last → JoinsTurns (uncut us) e flag j last

-- where memory was refused before a session ended, it ended with an error
starved-over : (at j : ℕ) (e : Engine) → end_of (starve_at at j e).talk ≡ Some (Ok tt) → has_ended e.talk ≡ true
starved-over at j e h = by (has_ended e.talk) refl where
  t : Talk
  t = present_at at e.talk

  by : (b : Bool) → has_ended e.talk ≡ b → b ≡ true
  by true is = refl
  by false on =
      let running : has_ended t ≡ false = present-keeps has_ended at e.talk (λ n. refl) ∙ on in
      let failed : end_of (starve t) ≡ Some (Err RefusedMemory) = ap end_of (if-false (has_ended t) t (fail RefusedMemory t) running) in
      absurd (let bad : Some (Err RefusedMemory) ≡ Some (Ok tt) = sym failed ∙ h in cc)

-- no turn comes after one that was cut
last-cut : (us : List Turn) (at j : ℕ) (e : Engine) → AreTurns us (starve_at at j e) → us ≡ []
last-cut [] at j e may = refl
last-cut (u ∷ us) at j e may = absurd (true≢false (sym (starve-ends (present_at at e.talk)) ∙ may.0.running))

pub turns-whole : (us : List Turn) (e : Engine) → AreTurns us e → end_of (turns us e).talk ≡ Some (Ok tt) → TurnsWhole us e
turns-whole [] e may over = record { may = tt; over = ap is_some over; exchanged = refl; sends = λ ss. refl; joins = λ flag j last h. h }
turns-whole (u ∷ us) e may over = by u.notes.starved refl (λ m o. turns-whole us (turn u e) m o) where
  after : Engine
  after = (after_writes u (asks e)).engine

  is : turn u e ≡ starved_after u.notes.starved u.at after
  is = turn-is u e may.0.running

  v : Turn
  v = uncut_turn u

  -- a turn that is so, and the turns after it
  with-rest : (y : Engine) → IsTurn v e → turn v e ≡ y → offers_of v (asks e) ≡ offers_of u (asks e) → exchange_of v (asks e) ≡ exchange_of u (asks e)
      → ((ss : List Sending) → turn_sending v e ss ≡ turn_sending u e ss)
      → AreTurns (uncut us) y → has_ended (turns (uncut us) y).talk ≡ true → exchanges (uncut us) y ≡ exchanges us (turn u e)
      → ((ss : List Sending) → sendings_from (uncut us) y ss ≡ sendings_from us (turn u e) ss)
      → ((flag : Bool) (j last : Join) → JoinsTurns us (turn u e) flag j last → JoinsTurns (uncut us) y flag j last) → TurnsWhole (u ∷ us) e
  with-rest y one leaves offers exchange sends more ended exchanged sent joins =
      record {
        may = (one, subst (AreTurns (uncut us)) (sym leaves) more);
        over = ap (λ (z : Engine). has_ended (turns (uncut us) z).talk) leaves ∙ ended;
        exchanged =
            ap (λ (z : Engine). exchange_of v (asks e) ++ exchanges (uncut us) z) leaves
            ∙ ap (λ (z : Exchange). z ++ exchanges (uncut us) y) exchange
            ∙ ap (λ (z : Exchange). exchange_of u (asks e) ++ z) exchanged;
        sends = λ ss.
            ap (λ (z : Engine). sendings_from (uncut us) z (turn_sending v e ss)) leaves
            ∙ ap (λ (zs : List Sending). sendings_from (uncut us) y zs) (sends ss)
            ∙ sent (turn_sending u e ss);
        joins = λ flag j last h. (
          h.0,
          (h.1.0, subst (λ (os : List Offer). JoinsOffers os (after_join_step (asked_now e flag) j) h.0) (sym offers) h.1.1),
          subst (λ (z : Engine). JoinsTurns (uncut us) z (asked_then (asked_now e flag) j) h.0 last) (sym leaves) (joins (asked_then (asked_now e flag) j) h.0 last h.2),
        );
      }

  by : (s : Option ℕ) → u.notes.starved ≡ s → (AreTurns us (turn u e) → end_of (turns us (turn u e)).talk ≡ Some (Ok tt) → TurnsWhole us (turn u e)) → TurnsWhole (u ∷ us) e
  by None fed rest =
      let same : v ≡ u = ap (λ (s : Option ℕ). record u { notes = record u.notes { starved = s } }) (sym fed) in
      let r = rest may.1 over in
      with-rest (turn u e) (subst (λ (w : Turn). IsTurn w e) (sym same) may.0) (ap (λ (w : Turn). turn w e) same) (ap (λ (w : Turn). offers_of w (asks e)) same) (ap (λ (w : Turn). exchange_of w (asks e)) same)
      (λ ss. ap (λ (w : Turn). turn_sending w e ss) same) r.may r.over r.exchanged r.sends r.joins
  by (Some j) cut rest =
      let here : turn u e ≡ starve_at u.at j after = is ∙ ap (λ (s : Option ℕ). starved_after s u.at after) cut in
      let none : us ≡ [] = last-cut us u.at j after (subst (AreTurns us) here may.1) in
      let last_over : end_of (turn u e).talk ≡ Some (Ok tt) = ap (λ (vs : List Turn). end_of (turns vs (turn u e)).talk) (sym none) ∙ over in
      let ended : has_ended after.talk ≡ true = starved-over u.at j after (ap (λ (z : Engine). end_of z.talk) (sym here) ∙ last_over) in
      let w = turn-whole u e may.0 ended in
      with-rest after w.may w.leaves w.offers w.exchange w.sends (subst (λ (vs : List Turn). AreTurns (uncut vs) after) (sym none) tt)
      (ap (λ (vs : List Turn). has_ended (turns (uncut vs) after).talk) none ∙ ended)
      (ap (λ (vs : List Turn). exchanges (uncut vs) after) none ∙ sym (ap (λ (vs : List Turn). exchanges vs (turn u e)) none))
      (λ ss. ap (λ (vs : List Turn). sendings_from (uncut vs) after ss) none ∙ sym (ap (λ (vs : List Turn). sendings_from vs (turn u e) ss) none))
      (λ flag k last h. subst (λ (vs : List Turn). JoinsTurns vs (turn u e) flag k last → JoinsTurns (uncut vs) after flag k last) (sym none) (λ x. x) h)

-- ---- what is told of them

pub uncut-told : (us : List Turn) → AreTold us → AreTold (uncut us)
uncut-told [] h = tt
uncut-told (u ∷ us) h = (h.0, uncut-told us h.1)

pub uncut-fit : (us : List Turn) → AreFit us → AreFit (uncut us)
uncut-fit [] h = tt
uncut-fit (u ∷ us) h = (record { step = h.0.step; bytes = h.0.bytes; auths = h.0.auths }, uncut-fit us h.1)

pub uncut-fed : (us : List Turn) → AreFed (uncut us)
uncut-fed [] = tt
uncut-fed (u ∷ us) = (refl, uncut-fed us)

uncut-none : (us : List Turn) → cut_of (uncut us) ≡ None
uncut-none [] = refl
uncut-none (u ∷ us) = uncut-none us

-- nothing is said of a provider after them
abbrev pub Nothing : Exchange → Type 0
Nothing exchange = ⊥

-- what was asked comes from the provider
pub uncut-comes : (us : List Turn) (e : Engine) (before after : Exchange → Type 0) → exchanges (uncut us) e ≡ exchanges us e → MayCome (cut_of us) before after (exchanges us e)
    → MayCome (cut_of (uncut us)) before Nothing (exchanges (uncut us) e)
uncut-comes us e before after same come =
    subst (λ (s : Option ℕ). MayCome s before Nothing (exchanges (uncut us) e)) (sym (uncut-none us))
    (subst (MayCome None before Nothing) (sym same) (λ rest h. on (exchanges us e) rest (allowed (cut_of us) (exchanges us e) come) h))
  where
    allowed : (s : Option ℕ) (x : Exchange) → MayCome s before after x → Allows before x
    allowed None x h = subst (Allows before) (append-nil x) (h [] tt)
    allowed (Some j) x h = h

    on : (x rest : Exchange) → Allows before x → Allows Nothing rest → Allows before (x ++ rest)
    on x [] h none = subst (Allows before) (sym (append-nil x)) h
    on x (y ∷ rest) h none = absurd none
