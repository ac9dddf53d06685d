-- A turn from its step on, out of the contracts of its parts.
use Rattle.std.proofs.Common.{◌≡◌, ◌≤◌, ℕ, not, ◌&&◌, if◌then◌else◌, Bool, true, false, IsFalse, List, [], ◌++◌, length, drop, Option, Some, None, refl, ap, sym, ◌∙◌, subst, arith}
use Rattle.amqp_auth.specs.declared.asked.Question.{Question}
use Rattle.amqp_auth.specs.declared.asked.Asked.{Asked}
use Rattle.amqp_auth.specs.Providers.{Exchange}
use Rattle.amqp_auth.specs.Asking.{Answer, Unanswered, paired}
use Rattle.amqp_rules.specs.Talk.{Talk, is_asked, is_open, has_ended}
use Rattle.amqp_promise.specs.declared.io_fault.IoFault.TheVariants.{Aborted, Reset}
use Rattle.amqp_rules.specs.Changes.{present_at, starve}
use Rattle.amqp_rules.specs.Links.{linked, link_failed, piece, lost}
use Rattle.amqp_rules.specs.Ticks.{tick}
use Rattle.amqp_engine.specs.declared.port.Step.{Step}
use Rattle.amqp_engine.specs.declared.port.Step.TheVariants.{Linked, LinkFailed, Piece, End, Fault, Room, Tick, Command}
use Rattle.amqp_engine.specs.Log.{Log}
use Rattle.amqp_engine.specs.Engine.{Engine, step_piece, step_engine, step_questions, read_questions, settle, starve_at, rule_at, front_of, is_more, can_read, can_write}
use Rattle.amqp_engine.specs.Turn.{Notes, write_answers, Progress, begun, goes, reading, is_part, is_piece, step_part, part, questioned, IsAnswered, cut_questions, read, drained, AreAnswers, IsCut, starved_after}
use Rattle.amqp_engine.specs.Making.{making, cut_turn, parts_of, Reaches, Broke, BreaksAt, Writes, StepHears, AppliesCounted}
use Rattle.amqp_engine.specs.Tell.{MayCome, TellsOffers, offers_from, turn_of}
use Rattle.std.proofs.lemmas.List.{append-nil}
use Rattle.std.proofs.Math.Seq.{drop-append_seam}
use Rattle.amqp_rules.proofs.Hearing.{tick-more}
use Rattle.amqp_engine.proofs.Answering.{answer-size, may-front}
use Rattle.amqp_types.proofs.Small.{if_case, if-true, if-false, and-true}
use Rattle.amqp_engine.proofs.Cases.{is_before-Reaches}
use Rattle.amqp_engine.proofs.Settling.{settle-starved}
use Rattle.amqp_rules.proofs.Keeping.{present-keeps, starve-twice}
use Rattle.amqp_engine.proofs.Reading.{reads-rest, reading-cut}
use Rattle.amqp_engine.proofs.Offers.{writes-none, writes-cut}
use Rattle.amqp_engine.proofs.Over.{step-ended, over-reads, over-writes, over-refuses}

-- memory that is refused twice was refused once
pub starve_at-twice : (at j : ℕ) (e : Engine) → starve_at at j (rule_at at starve e) ≡ starve_at at j e
starve_at-twice at j e =
    ap (λ (t : Talk). record e { talk = t; unread = []; place = 0; unsent = []; starved = Some j }) (starve-twice at e.talk)

-- the step's part is done, where it is one
pub step-done : (at : ℕ) (cut : Option ℕ) (step : Step) (bytes : List ℕ) (answers : List Asked) (e : Engine) (b : Bool)
    → is_part step e ≡ b → Reaches cut (parts_of b) → (b ≡ false → step_questions at step answers e ≡ [])
    → step_part step bytes (begun at cut answers e)
    ≡ making at cut (drop (length (step_questions at step answers e)) answers) (step_questions at step answers e) (step_engine at step bytes answers e) (parts_of b)
step-done at cut step bytes answers e true h allows none =
    let p = begun at cut answers e in
    let q = questioned (step_questions at step answers e) p in
    if-true (is_part step e) (if goes p then part (step_engine at step bytes answers e) q else p) (making at cut answers [] (step_engine at step bytes answers e) 0) h
    ∙ if-true (goes p) (part (step_engine at step bytes answers e) q) p (is_before-Reaches cut 0 allows)
step-done at cut step bytes answers e false h allows none =
    let p = begun at cut answers e in
    let q = questioned (step_questions at step answers e) p in
    if-false (is_part step e) (if goes p then part (step_engine at step bytes answers e) q else p) (making at cut answers [] (step_engine at step bytes answers e) 0) h
    ∙ ap (λ (qs : List Question). making at cut (drop (length qs) answers) qs (step_engine at step bytes answers e) 0) (sym (none refl))

-- what is no part asks nothing
pub no-questions : (at : ℕ) (step : Step) (answers : List Asked) (e : Engine) → is_part step e ≡ false → step_questions at step answers e ≡ []
no-questions at Tick answers e h = cc
no-questions at _ answers e h = refl

none-read : (at : ℕ) (cut : Option ℕ) (step : Step) (bytes : List ℕ) (answers more : List Asked) (asked : List Question) (e : Engine) (m : ℕ) → IsFalse (is_piece step && is_open e.talk)
    → reading (is_piece step) (making at cut more asked (step_engine at step bytes answers e) m) ≡ making at cut more asked (step_engine at step bytes answers e) m
none-read at cut (Piece n) bytes answers more asked e m closed =
    let x = step_piece at bytes e in
    let still : is_open x.talk ≡ false =
    ap (λ (y : Engine). is_open y.talk)
    (if-false (is_open e.talk) (settle (record e { talk = piece (present_at at e.talk); unread = e.unread ++ bytes })) (rule_at at (λ t. t) e) closed)
    ∙ present-keeps is_open at e.talk (λ n. refl) ∙ closed in
    reads-rest (length x.unread) (making at cut more asked x m) (ap (λ (b : Bool). b && not (is_more (front_of x))) still)
none-read at cut _ bytes answers more asked e m closed = refl

-- a step goes by the answers to what it asks alone
pub step-more : (at : ℕ) (step : Step) (bytes : List ℕ) (answers more : List Asked) (e : Engine) → Answer (step_questions at step answers e) answers
    → (step_engine at step bytes (answers ++ more) e ≡ step_engine at step bytes answers e) × (step_questions at step (answers ++ more) e ≡ step_questions at step answers e)
step-more at Tick bytes answers more e h =
    let k = tick-more answers more (present_at at e.talk) h in (ap (λ (t : Talk). settle (record e { talk = t })) k.0, k.1)
step-more at Linked bytes answers more e h = (refl, refl)
step-more at LinkFailed bytes answers more e h = (refl, refl)
step-more at (Piece n) bytes answers more e h = (refl, refl)
step-more at End bytes answers more e h = (refl, refl)
step-more at Fault bytes answers more e h = (refl, refl)
step-more at Room bytes answers more e h = (refl, refl)
step-more at (Command c) bytes answers more e h = (refl, refl)

-- what is left of the answers, once as many were taken as there were questions
pub left-answers : (questions : List Question) (answers more : List Asked) → Answer questions answers → drop (length questions) (answers ++ more) ≡ more
left-answers questions answers more h = ap (λ n. drop n (answers ++ more)) (answer-size questions answers h) ∙ drop-append_seam answers more

-- a step that is no piece on the open link, after which no frame is read
pub step-read : (at : ℕ) (cut : Option ℕ) (step : Step) (bytes : List ℕ) (answers more : List Asked) (e e' : Engine) (m : ℕ) → IsFalse (is_piece step && is_open e.talk)
    → m ≡ parts_of (is_part step e) → e' ≡ step_engine at step bytes answers e → Answer (step_questions at step answers e) answers → Reaches cut m
    → reading (is_piece step) (step_part step bytes (begun at cut (answers ++ more) e)) ≡ making at cut more (step_questions at step answers e) e' m
step-read at cut step bytes answers more e e' m apart parts same all allows =
    let P : ℕ → Type 0 = λ k. Reaches cut k in
    let k = step-more at step bytes answers more e all in
    let n = parts_of (is_part step e) in
    let qs = step_questions at step answers e in
    ap (reading (is_piece step))
    (step-done at cut step bytes (answers ++ more) e (is_part step e) refl (subst P parts allows) (no-questions at step (answers ++ more) e))
    ∙ none-read at cut step bytes (answers ++ more) (drop (length (step_questions at step (answers ++ more) e)) (answers ++ more)) (step_questions at step (answers ++ more) e) e n apart
    ∙ ap (λ (q : List Question). making at cut (drop (length q) (answers ++ more)) q (step_engine at step bytes (answers ++ more) e) n) k.1
    ∙ ap (λ (left : List Asked). making at cut left qs (step_engine at step bytes (answers ++ more) e) n) (left-answers qs answers more all)
    ∙ ap (λ (x : Engine). making at cut more qs x n) (k.0 ∙ sym same)
    ∙ ap (λ (k : ℕ). making at cut more qs e' k) (sym parts)

-- a piece on the open link, up to its frames
pub piece-read : (at : ℕ) (cut : Option ℕ) (step : Step) (bytes : List ℕ) (answers : List Asked) (e : Engine) → is_piece step ≡ true → is_open e.talk ≡ true → Reaches cut 1
    → reading (is_piece step) (step_part step bytes (begun at cut answers e)) ≡ reading true (making at cut answers [] (step_piece at bytes e) 1)
piece-read at cut (Piece n) bytes answers e is opened allows = ap (reading true) (step-done at cut (Piece n) bytes answers e true opened allows (λ no. refl))
piece-read at cut Linked bytes answers e is opened allows = cc
piece-read at cut LinkFailed bytes answers e is opened allows = cc
piece-read at cut End bytes answers e is opened allows = cc
piece-read at cut Fault bytes answers e is opened allows = cc
piece-read at cut Room bytes answers e is opened allows = cc
piece-read at cut Tick bytes answers e is opened allows = cc
piece-read at cut (Command c) bytes answers e is opened allows = cc

-- memory was refused at the step itself
pub step-refused : (at : ℕ) (step : Step) (bytes : List ℕ) (answers : List Asked) (e : Engine) → is_part step e ≡ true
    → reading (is_piece step) (step_part step bytes (begun at (Some 0) answers e)) ≡ making at (Some 0) answers [] e 0
step-refused at step bytes answers e h =
    let p = begun at (Some 0) answers e in
    let q = questioned (step_questions at step answers e) p in
    let same : step_part step bytes p ≡ p =
    if-true (is_part step e) (if goes p then part (step_engine at step bytes answers e) q else p) (making at (Some 0) answers [] (step_engine at step bytes answers e) 0) h in
    ap (reading (is_piece step)) same ∙ reading-cut (is_piece step) p refl

-- what is noted, part by part
abbrev pub noting : List ℕ → Bool → List Asked → Option ℕ → Notes
noting tooks failed auths starved = record { tooks = tooks; failed = failed; auths = auths; starved = starved }

pub noted-as : (n : Notes) (tooks : List ℕ) (failed : Bool) (auths : List Asked) (starved : Option ℕ)
    → n.tooks ≡ tooks → n.failed ≡ failed → n.auths ≡ auths → n.starved ≡ starved → noting tooks failed auths starved ≡ n
noted-as n tooks failed auths starved ht hf ha hs =
    ap (λ (x : List ℕ). noting x failed auths starved) (sym ht)
    ∙ ap (λ (x : Bool). noting n.tooks x auths starved) (sym hf)
    ∙ ap (λ (x : List Asked). noting n.tooks n.failed x starved) (sym ha)
    ∙ ap (λ (x : Option ℕ). noting n.tooks n.failed n.auths x) (sym hs)

-- the same turn, noted otherwise
pub applies-as : (at : ℕ) (step : Step) (bytes : List ℕ) (noted n : Notes) (e e' : Engine) (log log' : Option Log) (a b : ℕ) (before after : Exchange → Type 0)
    → noted ≡ n → AppliesCounted at step bytes noted e e' log log' a b before after → AppliesCounted at step bytes n e e' log log' a b before after
applies-as at step bytes noted n e e' log log' a b before after same h =
    let P : Notes → Type 0 = λ x. AppliesCounted at step bytes x e e' log log' a b before after in
    subst P same h

-- a turn from what was read and what was written
pub applies-of : (at : ℕ) (step : Step) (bytes : List ℕ) (notes : Notes) (e e' : Engine) (log log' : Option Log) (m n : ℕ) (before after : Exchange → Type 0) (p p' : Progress)
    → reading (is_piece step) (step_part step bytes (begun at notes.starved notes.auths e)) ≡ p
    → Writes notes.tooks notes.failed p p' log log' m n → IsCut notes.starved p'.done
    → (if has_ended e.talk then p'.engine else starved_after notes.starved at p'.engine) ≡ e'
    → IsAnswered notes.starved p.questions (cut_questions (turn_of at step bytes notes) e) notes.auths
    → MayCome notes.starved before after (paired (p.questions ++ cut_questions (turn_of at step bytes notes) e) notes.auths)
    → AppliesCounted at step bytes notes e e' log log' m n before after
applies-of at step bytes notes e e' log log' m n before after p p' here w cut leaves all may =
    let ws = write_answers notes in
    let leads : drained ws (read (turn_of at step bytes notes) e) ≡ p' = ap (drained ws) here ∙ w.leaves in
    let P : Progress → Type 0 = λ x. AreAnswers ws x in
    let C : Progress → Type 0 = λ x. IsCut notes.starved x.done in
    let R : Progress → Type 0 = λ x. TellsOffers (offers_from ws x) log log' in
    let next = cut_questions (turn_of at step bytes notes) e in
    let A : Progress → Type 0 = λ x. IsAnswered notes.starved x.questions next notes.auths in
    let M : Progress → Type 0 = λ x. MayCome notes.starved before after (paired (x.questions ++ next) notes.auths) in
    record {
      applies = record {
        may = record { answers = subst P (sym here) w.answers; asked = subst A (sym here) all; cut = subst C (sym leads) cut };
        leaves = ap (λ (x : Progress). if has_ended e.talk then x.engine else starved_after notes.starved at x.engine) leads ∙ leaves;
        tells = subst R (sym here) w.tells;
      };
      exchanged = subst M (sym here) may;
      counted = w.counted;
    }

-- where a turn was cut at a frame, that asks what the next part asks
pub cut-at-frame : (at : ℕ) (step : Step) (bytes : List ℕ) (answers left : List Asked) (questions : List Question) (n : ℕ) (e x : Engine) → is_piece step ≡ true → 1 ≤ n
    → reading (is_piece step) (step_part step bytes (begun at (Some n) answers e)) ≡ making at (Some n) left questions x n → can_read x ≡ true
    → cut_questions (cut_turn at step bytes answers n) e ≡ read_questions at x
cut-at-frame at step bytes answers left questions n e x piece some here can =
    let asked : Progress → List Question = λ p. if is_piece step && can_read p.engine then read_questions p.at p.engine else [] in
    if-true (goes (begun at (Some n) answers e)) (asked (reading (is_piece step) (step_part step bytes (begun at (Some n) answers e)))) (step_questions at step answers e)
    (is_before-Reaches (Some n) 0 some)
    ∙ ap asked here ∙ if-true (is_piece step && can_read x) (read_questions at x) [] (and-true (is_piece step) (can_read x) piece can)

-- memory that was refused within a piece on the open link was refused within its turn
pub broke-piece : (at : ℕ) (step : Step) (bytes : List ℕ) (e e' : Engine) (n : ℕ) (before : Exchange → Type 0) (list list' : List Asked) → is_piece step ≡ true → is_open e.talk ≡ true → 1 ≤ n
    → Broke n (λ answers questions next x. (starve_at at n e' ≡ starve_at at n x) × BreaksAt at next x
    × (reading true (making at (Some n) answers [] (step_piece at bytes e) 1) ≡ making at (Some n) (drop (length questions) answers) questions x n)) before list list'
    → Broke n (λ answers questions next x. (starve_at at n e' ≡ starve_at at n x) × (next ≡ cut_questions (cut_turn at step bytes answers n) e)
    × (reading (is_piece step) (step_part step bytes (begun at (Some n) answers e)) ≡ making at (Some n) (drop (length questions) answers) questions x n)) before list list'
broke-piece at step bytes e e' n before list list' piece opened some h =
    let left = drop (length h.questions) h.answers in
    let here : reading (is_piece step) (step_part step bytes (begun at (Some n) h.answers e)) ≡ making at (Some n) left h.questions h.engine n =
    piece-read at (Some n) step bytes h.answers e piece opened some ∙ h.leads.2 in
    let asked : h.next ≡ cut_questions (cut_turn at step bytes h.answers n) e =
    h.leads.1.asks ∙ sym (cut-at-frame at step bytes h.answers left h.questions n e h.engine piece some here h.leads.1.can) in
    record {
      questions = h.questions;
      next = h.next;
      answers = h.answers;
      engine = h.engine;
      listed = h.listed;
      all = h.all;
      allowed = h.allowed;
      leads = (h.leads.0, asked, here);
    }

-- a session that had ended takes the step alone
pub applies-over : (at : ℕ) (step : Step) (bytes : List ℕ) (e e' : Engine) (log log' : Option Log) (m n : ℕ) (before after : Exchange → Type 0) (list list' : List Asked) → has_ended e.talk ≡ true
    → (heard : StepHears at step e e' before after list list') → log' ≡ log → AppliesCounted at step bytes (noting [] false heard.answers None) e e' log log' m n before after
applies-over at step bytes e e' log log' m n before after list list' h heard told =
    let k = parts_of (is_part step e) in
    let same = heard.engine bytes in
    let qs = step_questions at step heard.answers e in
    let p = making at None [] qs e' k in
    let over : has_ended e'.talk ≡ true = ap (λ (x : Engine). has_ended x.talk) same ∙ step-ended at step bytes heard.answers e h in
    let none : IsFalse (can_write e') = over-writes e' over in
    let auths : List Asked = heard.answers in
    let stepped : step_part step bytes (begun at None auths e) ≡ p =
    step-done at None step bytes auths e (is_part step e) refl tt (no-questions at step auths e)
    ∙ ap (λ (x : Engine). making at None (drop (length qs) auths) qs x k) (sym same)
    ∙ ap (λ (left : List Asked). making at None left qs e' k) (ap (drop (length qs)) (sym (append-nil auths)) ∙ left-answers qs auths [] heard.asks.all) in
    applies-of at step bytes (noting [] false auths None) e e' log log' m n before after p p
    (ap (reading (is_piece step)) stepped ∙ over-reads (is_piece step) p over)
    (writes-none p p log log' m n refl (ap (λ (x : Engine). making at None [] qs x k) (sym (over-refuses e' over))) none told) tt (if_case (λ (x : Engine). x ≡ e') (has_ended e.talk) e' e' refl refl)
    heard.asks.all (may-front None before after qs (cut_questions (turn_of at step bytes (noting [] false auths None)) e) auths heard.asks.all heard.asks.allowed)

-- and where memory is refused, nothing
pub refused-over : (at : ℕ) (step : Step) (bytes : List ℕ) (e e' : Engine) (log log' : Option Log) (m n : ℕ) (before after : Exchange → Type 0) (list list' : List Asked) → has_ended e.talk ≡ true → is_part step e ≡ true
    → (f : Unanswered (λ answers. step_questions at step answers e) before list list') → e' ≡ e → log' ≡ log
    → AppliesCounted at step bytes (noting [] false f.answers (Some 0)) e e' log log' m n before after
refused-over at step bytes e e' log log' m n before after list list' h is f same told =
    let auths : List Asked = f.answers in
    let p = making at (Some 0) auths [] e 0 in
    applies-of at step bytes (noting [] false auths (Some 0)) e e' log log' m n before after p p
    (step-refused at step bytes auths e is) (writes-cut p log log' m n refl told) refl
    (if-true (has_ended e.talk) e (starved_after (Some 0) at e) h ∙ sym same) (omega arith, f.fits) f.allowed

-- a step starves nobody
pub step-starved : (at : ℕ) (step : Step) (bytes : List ℕ) (answers : List Asked) (e : Engine) → (step_engine at step bytes answers e).starved ≡ e.starved
step-starved at Linked bytes answers e =
    if_case (λ (x : Engine). x.starved ≡ e.starved) (is_asked e.talk)
    (record { talk = linked (present_at at e.talk); unread = []; place = 0; unsent = []; starved = e.starved }) (rule_at at (λ t. t) e) refl refl
step-starved at LinkFailed bytes answers e = settle-starved (rule_at at link_failed e)
step-starved at (Piece n) bytes answers e =
    let x : Engine = record e { talk = piece (present_at at e.talk); unread = e.unread ++ bytes } in
    if_case (λ (x : Engine). x.starved ≡ e.starved) (is_open e.talk)
    (settle x) (rule_at at (λ t. t) e) (settle-starved x) refl
step-starved at End bytes answers e = settle-starved (rule_at at (lost Aborted) e)
step-starved at Fault bytes answers e = settle-starved (rule_at at (lost Reset) e)
step-starved at Room bytes answers e = refl
step-starved at Tick bytes answers e = settle-starved (rule_at at (tick answers) e)
step-starved at (Command c) bytes answers e = refl
