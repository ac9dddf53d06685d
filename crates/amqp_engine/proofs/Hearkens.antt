-- All frames of a faultless server that have come are read, where its provider answers and never refuses.
use Rattle.std.proofs.Common.{◌≡◌, ◌≤◌, ℕ, zero, suc, ◌&&◌, if◌then◌else◌, Bool, true, false, ◌++◌, append_assoc, List, [], length, Some, ap, sym, ◌∙◌, subst, append-nil}
use Rattle.std.specs.Prelude.{map}
use Rattle.amqp_frame.specs.declared.frame.Frame.{Frame}
use Rattle.amqp_auth.specs.declared.asked.Asked.{Asked}
use Rattle.amqp_auth.specs.declared.asked.Question.{Question}
use Rattle.amqp_auth.specs.Asking.{Answer}
use Rattle.amqp_settings.specs.Config.{Options}
use Rattle.amqp_faultless.specs.Faultless.{Server}
use Rattle.amqp_faultless.proofs.Greeted.{IsMet}
use Rattle.amqp_faultless.proofs.Limits.{limit_at}
use Rattle.amqp_engine.specs.declared.given.Given.{Given}
use Rattle.amqp_engine.specs.Engine.{can_read, read_questions}
use Rattle.amqp_engine.specs.Turn.{Progress, goes, read_part, reads}
use Rattle.amqp_engine.specs.Valid.{SpelledFrame, AreSpelled, Theirs, after_sayings, whole_in, later_than, begun_in, all_bytes}
use Rattle.amqp_engine.proofs.Heeding.{flat, Heeded, reads-all}
use Rattle.amqp_engine.proofs.Asks.{said_later, gone-last, asked_in}
use Rattle.amqp_engine.proofs.OnReading.{GoesOn, Goodbye, enough-read, said-read, kept-read, gives-read}

-- what follows in the step and in those after it is what is said later
pub hearkens : (options : Options) (agreed moment last : ℕ) (before : List Frame) (fs : List Frame) (gs : List Given) (sent : List (List Frame)) (end : Server)
    → (spelled : List SpelledFrame) (n : ℕ) (p : Progress) (s : Server) → length p.engine.unread ≤ n → IsMet s p.engine.talk → GoesOn options agreed moment last before n s p
    → p.engine.unread ++ all_bytes gs ≡ flat spelled → AreSpelled (limit_at agreed s.stage) agreed spelled
    → after_sayings
    (map Theirs (whole_in (length p.engine.unread) spelled)
    ++ said_later fs gs sent (begun_in (length p.engine.unread) spelled) (later_than (length p.engine.unread) spelled))
    (Some s) ≡ Some end
    → Heeded agreed (all_bytes gs) (said_later fs gs sent) end (GoesOn options agreed moment last before) (Goodbye options) (reads n p) (length p.engine.unread) spelled
hearkens options agreed moment last before fs gs sent end spelled n p s fuel met k bytes spells remains =
    reads-all agreed (said_later fs gs sent) end (all_bytes gs) (GoesOn options agreed moment last before) (Goodbye options)
    (λ n p s k m. enough-read options agreed moment last before n p s k m)
    (λ n p s s' f size k m front says. said-read options agreed moment last before n p s s' f size k m front says)
    (λ n p s s' f size k m front says m'. kept-read options agreed moment last before n p s s' f size k m front says m')
    (λ n p s s' f size k m front says. gives-read options agreed moment last before n p s s' f size k m front says)
    (λ m ys s' gone size h. gone-last fs gs sent end m ys s' gone size h)
    spelled n p s k.whole fuel met k bytes spells remains

-- ---- what is asked while frames are read

-- it is added to what was asked before
pub asked-reads : (n : ℕ) (p : Progress) → (reads n p).questions ≡ p.questions ++ asked_in n p
asked-reads zero p = sym (append-nil p.questions)
asked-reads (suc n) p =
    by (goes p && can_read p.engine) (asked-reads n (read_part p))
  where
    by : (b : Bool) → (reads n (read_part p)).questions ≡ p.questions ++ read_questions p.at p.engine ++ asked_in n (read_part p)
        → (if b then reads n (read_part p) else p).questions
        ≡ p.questions ++ (if b then read_questions p.at p.engine ++ asked_in n (read_part p) else [])
    by true rest = rest ∙ append_assoc p.questions (read_questions p.at p.engine) (asked_in n (read_part p))
    by false rest = sym (append-nil p.questions)

-- where nothing was asked before, the answers are to that
pub answers-reads : (n : ℕ) (p : Progress) (answers : List Asked) → p.questions ≡ [] → Answer (reads n p).questions answers → Answer (asked_in n p) answers
answers-reads n p answers none h =
    let P : List Question → Type 0 = λ qs. Answer qs answers in
    subst P (asked-reads n p ∙ ap (λ qs. qs ++ asked_in n p) none) h
