-- What each small step of a turn keeps, a turn keeps, and so do turns.
use Rattle.std.proofs.Common.{◌≡◌, ◌⊎◌, inl, inr, ℕ, zero, suc, ◌&&◌, if◌then◌else◌, Bool, true, false, IsFalse, MatchBool, List, [], ◌∷◌, length, drop, Option, Some, None, refl, ap, sym, ◌∙◌, subst, arith}
use Rattle.amqp_auth.specs.declared.asked.Question.{Question}
use Rattle.amqp_auth.specs.declared.asked.Asked.{Asked}
use Rattle.amqp_rules.specs.Talk.{has_ended}
use Rattle.amqp_engine.specs.declared.port.Step.{Step}
use Rattle.amqp_engine.specs.declared.port.Step.TheVariants.{Linked, LinkFailed, Piece, End, Fault, Room, Tick, Command}
use Rattle.amqp_engine.specs.declared.port.Wrote.{Wrote}
use Rattle.amqp_engine.specs.Log.{TookAtMost}
use Rattle.amqp_engine.specs.Engine.{Engine, step_engine, step_questions, can_read, read_one, read_questions, overlong_next, ended_overlong, refuse_overlong, can_write, starve_at}
use Rattle.amqp_engine.specs.Turn.{Turn, write_answers, Progress, asks, begun, goes, is_before, part, questioned, is_part, is_piece, step_part, reads, read_part, reading, drain, offer_part, closing, drained, offered, answered, is_all, AreAnswers, read, after_writes, applied, turn, turns, starved_after, IsCut, IsApplied, IsTurn, AreTurns}
use Rattle.amqp_types.proofs.Small.{if_case, if_by, if-true, if-false, and-left, and-right, and-other}
use Rattle.amqp_engine.proofs.Over.{asks-running}
use Rattle.amqp_engine.proofs.Reading.{reads-done, reading-cut}

-- ---- what no part changes

pub stays-reads : {A : Type 0} (f : Progress → A) (h : (e : Engine) (n : ℕ) (left : List Asked) (qs : List Question) (p : Progress) → f (record p { engine = e; done = n; answers = left; questions = qs }) ≡ f p) (n : ℕ) (p : Progress)
    → f (reads n p) ≡ f p
stays-reads f h zero p = refl
stays-reads f h (suc n) p =
    if_case (λ (x : Progress). f x ≡ f p) (goes p && can_read p.engine) (reads n (read_part p)) p (stays-reads f h n (read_part p) ∙ h _ _ _ _ p) refl

pub stays-step : {A : Type 0} (f : Progress → A) (h : (e : Engine) (n : ℕ) (left : List Asked) (qs : List Question) (p : Progress) → f (record p { engine = e; done = n; answers = left; questions = qs }) ≡ f p) (step : Step) (bytes : List ℕ) (p : Progress)
    → f (step_part step bytes p) ≡ f p
stays-step f h step bytes p =
    let after = step_engine p.at step bytes p.answers p.engine in
    let q = questioned (step_questions p.at step p.answers p.engine) p in
    if_case (λ (x : Progress). f x ≡ f p) (is_part step p.engine) (if goes p then part after q else p) (record p { engine = after })
    (if_case (λ (x : Progress). f x ≡ f p) (goes p) (part after q) p (h _ _ _ _ p) refl) (h _ _ _ _ p)

pub stays-read : {A : Type 0} (f : Progress → A) (h : (e : Engine) (n : ℕ) (left : List Asked) (qs : List Question) (p : Progress) → f (record p { engine = e; done = n; answers = left; questions = qs }) ≡ f p) (u : Turn) (e : Engine)
    → f (read u e) ≡ f (begun u.at u.notes.starved u.notes.auths e)
stays-read f h u e =
    let p = begun u.at u.notes.starved u.notes.auths e in
    let s = step_part u.step u.bytes p in
    if_case (λ (x : Progress). f x ≡ f s) (is_piece u.step) (reads (length s.engine.unread) s) s (stays-reads f h (length s.engine.unread) s) refl
    ∙ stays-step f h u.step u.bytes p

pub stays-drain : {A : Type 0} (f : Progress → A) (h : (e : Engine) (n : ℕ) (left : List Asked) (qs : List Question) (p : Progress) → f (record p { engine = e; done = n; answers = left; questions = qs }) ≡ f p) (ws : List Wrote) (p : Progress)
    → f (drain ws p) ≡ f p
stays-drain f h [] p = refl
stays-drain f h (w ∷ ws) p = stays-drain f h ws (offer_part w p) ∙ h _ _ _ _ p

pub stays-drained : {A : Type 0} (f : Progress → A) (h : (e : Engine) (n : ℕ) (left : List Asked) (qs : List Question) (p : Progress) → f (record p { engine = e; done = n; answers = left; questions = qs }) ≡ f p) (ws : List Wrote) (p : Progress)
    → f (drained ws p) ≡ f p
stays-drained f h [] p = if_case (λ (x : Progress). f x ≡ f p) (goes p) (record p { engine = refuse_overlong p.engine }) p (h (refuse_overlong p.engine) p.done p.answers p.questions p) refl
stays-drained f h (w ∷ ws) p =
    if_case (λ (x : Progress). f x ≡ f p) (is_all w (length (offered p.engine))) (drained ws (offer_part w p)) (offer_part w p)
    (stays-drained f h ws (offer_part w p) ∙ h _ _ _ _ p) (h _ _ _ _ p)

-- a turn is cut where that is noted
pub read-cut : (u : Turn) (e : Engine) → (read u e).cut ≡ u.notes.starved
read-cut u e = stays-read (λ (x : Progress). x.cut) (λ f n left qs x. refl) u e

-- after one answer there are more, or none
pub all-rest : (b : Bool) (ws : List Wrote) (p : Progress) → MatchBool b (AreAnswers ws p) (ws ≡ [])
    → ((b ≡ false) × (ws ≡ [])) ⊎ ((b ≡ true) × AreAnswers ws p)
all-rest true ws p h = inr (refl, h)
all-rest false ws p h = inl (refl, h)

-- nothing is written where the turn is cut before
pub stops-none : (ws : List Wrote) (p : Progress) → goes p ≡ false → AreAnswers ws p → ws ≡ []
stops-none [] p off may = refl
stops-none (w ∷ ws) p off may =
    let on : goes p ≡ true = and-left (goes p) (can_write p.engine) may.0 in
    absurd cc

-- ---- what is folded beside the engine: by the asking, the step and each offer

module _ (X : Type 0) (ask : Engine → X → X) (stepped : ℕ → Step → List ℕ → Engine → X → X) (offering : Wrote → Progress → X → X) where
  abbrev pub offers_on : List Wrote → Progress → X → X
  offers_on [] p x = x
  offers_on (w ∷ ws) p x = offers_on ws (offer_part w p) (offering w p x)

  abbrev pub applied_on : Turn → Engine → X → X
  applied_on u e x = offers_on (write_answers u.notes) (read u e) (stepped u.at u.step u.bytes e x)

  abbrev pub turn_on : Turn → Engine → X → X
  turn_on u e x = applied_on u (asks e) (ask e x)

  abbrev pub turns_on : List Turn → Engine → X → X
  turns_on [] e x = x
  turns_on (u ∷ us) e x = turns_on us (turn u e) (turn_on u e x)

  -- P holds between turns; R while a piece is read; W b before the writes, where b says that the turn is not cut before them;
  -- Q of what the provider is still to answer
  pub record Answering (Q : List Asked → Type 0) (R : Engine → X → Type 0) (W : Bool → Engine → X → Type 0) (P : Engine → X → Type 0) : Type 0 where
    pub asked : (e : Engine) (x : X) → P e x → P (asks e) (ask e x)
    pub step : (at : ℕ) (step : Step) (bytes : List ℕ) (answers : List Asked) (e : Engine) (x : X) → Q answers → is_piece step ≡ false → has_ended e.talk ≡ false → P e x
        → (b : Bool) → W b (step_engine at step bytes answers e) (stepped at step bytes e x)
    pub piece : (at n : ℕ) (bytes : List ℕ) (answers : List Asked) (e : Engine) (x : X) → Q answers → has_ended e.talk ≡ false → P e x
        → R (step_engine at (Piece n) bytes answers e) (stepped at (Piece n) bytes e x)
    pub read : (at : ℕ) (answers : List Asked) (e : Engine) (x : X) → Q answers → can_read e ≡ true → R e x → R (read_one at answers e) x
    pub heard : (b : Bool) (e : Engine) (x : X) → (b ≡ true → can_read e ≡ false) → R e x → W b e x
    pub offer : (w : Wrote) (p : Progress) (x : X) → can_write p.engine ≡ true → TookAtMost (length (offered p.engine)) w → W true p.engine x → P (answered p.at w p.engine) (offering w p x)
    pub rest : (e : Engine) (x : X) → can_write e ≡ false → overlong_next e ≡ None → W true e x → P e x
    pub overlong : (size : ℕ) (e : Engine) (x : X) → overlong_next e ≡ Some size → W true e x → P (ended_overlong (Some size) e) x
    pub less : (b : Bool) (e : Engine) (x : X) → P e x → W b e x
    pub starve : (b : Bool) (at j : ℕ) (e : Engine) (x : X) → W b e x → P (starve_at at j e) x
    -- the turn was cut before its step
    pub cut : (at : ℕ) (step : Step) (bytes : List ℕ) (e : Engine) (x : X) → has_ended e.talk ≡ false → is_part step e ≡ true → P e x → P (starve_at at 0 e) (stepped at step bytes e x)
    -- fewer are still to be answered
    pub fewer : (n : ℕ) (answers : List Asked) → Q answers → Q (drop n answers)

  module _ (Q : List Asked → Type 0) (R : Engine → X → Type 0) (W : Bool → Engine → X → Type 0) (P : Engine → X → Type 0) (k : Answering Q R W P) where
    answer-reads : (n : ℕ) (p : Progress) (x : X) → Q p.answers → R p.engine x → R (reads n p).engine x
    answer-reads zero p x q h = h
    answer-reads (suc n) p x q h =
        if_by (λ (y : Progress). R y.engine x) (goes p && can_read p.engine) (reads n (read_part p)) p
        (λ on.
        answer-reads n (read_part p) x (k.fewer (length (read_questions p.at p.engine)) p.answers q)
        (k.read p.at p.answers p.engine x q (and-right (goes p) (can_read p.engine) on) h)) (λ off. h)

    -- before the writes, or cut before the step
    abbrev Ready : Turn → Engine → X → Progress → Type 0
    Ready u e x p =
        W (goes p) p.engine (stepped u.at u.step u.bytes e x)
        ⊎ ((p ≡ begun u.at u.notes.starved u.notes.auths e) × (goes p ≡ false) × (is_part u.step e ≡ true))

    answer-plain : (step : Step) (at : ℕ) (bytes : List ℕ) (answers : List Asked) (e : Engine) (x : X) (s : Progress) → is_piece step ≡ false → s.engine ≡ step_engine at step bytes answers e → Q answers → has_ended e.talk ≡ false → P e x
        → W (goes s) s.engine (stepped at step bytes e x)
    answer-plain step at bytes answers e x s other is q running h =
        let D : Engine → Type 0 = λ z. W (goes s) z (stepped at step bytes e x) in
        subst D (sym is) (k.step at step bytes answers e x q other running h (goes s))

    -- the step is done
    answer-done : (step : Step) (at : ℕ) (bytes : List ℕ) (answers : List Asked) (e : Engine) (x : X) (s : Progress) → s.engine ≡ step_engine at step bytes answers e → Q answers → Q s.answers → has_ended e.talk ≡ false → P e x
        → W (goes (reading (is_piece step) s)) (reading (is_piece step) s).engine (stepped at step bytes e x)
    answer-done (Piece n) at bytes answers e x s is q left running h =
        let y = stepped at (Piece n) bytes e x in
        let r = reads (length s.engine.unread) s in
        let D : Engine → Type 0 = λ z. R z y in
        k.heard (goes r) r.engine y (λ on. and-other (goes r) (can_read r.engine) on (reads-done (length s.engine.unread) s (omega arith)))
        (answer-reads (length s.engine.unread) s y left (subst D (sym is) (k.piece at n bytes answers e x q running h)))
    answer-done Linked at bytes answers e x s is q left running h = answer-plain Linked at bytes answers e x s refl is q running h
    answer-done LinkFailed at bytes answers e x s is q left running h = answer-plain LinkFailed at bytes answers e x s refl is q running h
    answer-done End at bytes answers e x s is q left running h = answer-plain End at bytes answers e x s refl is q running h
    answer-done Fault at bytes answers e x s is q left running h = answer-plain Fault at bytes answers e x s refl is q running h
    answer-done Room at bytes answers e x s is q left running h = answer-plain Room at bytes answers e x s refl is q running h
    answer-done Tick at bytes answers e x s is q left running h = answer-plain Tick at bytes answers e x s refl is q running h
    answer-done (Command c) at bytes answers e x s is q left running h = answer-plain (Command c) at bytes answers e x s refl is q running h

    answer-read : (u : Turn) (e : Engine) (x : X) → Q u.notes.auths → has_ended e.talk ≡ false → P e x → Ready u e x (read u e)
    answer-read u e x given running h =
        let p = begun u.at u.notes.starved u.notes.auths e in
        let after = step_engine u.at u.step u.bytes u.notes.auths e in
        let D : Progress → Type 0 = λ s. Ready u e x (reading (is_piece u.step) s) in
        let questions = step_questions u.at u.step u.notes.auths e in
        let q = questioned questions p in
        if_by D (is_part u.step e) (if goes p then part after q else p) (record p { engine = after })
        (λ is. if_by D (goes p) (part after q) p
        (λ on. inl (answer-done u.step u.at u.bytes u.notes.auths e x (part after q) refl given (k.fewer (length questions) u.notes.auths given) running h))
        (λ off.
        let same : reading (is_piece u.step) p ≡ p = reading-cut (is_piece u.step) p off in
        inr (same, ap goes same ∙ off, is)))
        (λ no. inl (answer-done u.step u.at u.bytes u.notes.auths e x (record p { engine = after }) refl given given running h))

    -- after the writes
    abbrev Out : Progress → X → Type 0
    Out q y = P q.engine y ⊎ (W false q.engine y × (goes q ≡ false))

    answer-overlong : (o : Option ℕ) (e : Engine) (x : X) → overlong_next e ≡ o → can_write e ≡ false → W true e x → P (ended_overlong o e) x
    answer-overlong None e x is can w = k.rest e x can is w
    answer-overlong (Some size) e x is can w = k.overlong size e x is w

    answer-none : (b : Bool) (p : Progress) (x : X) → goes p ≡ b → IsFalse (goes p && can_write p.engine) → W (goes p) p.engine x → Out (closing p) x
    answer-none true p x on may w =
        let B : Bool → Type 0 = λ b. W b p.engine x in
        let D : Progress → Type 0 = λ q. Out q x in
        let after : Progress = record p { engine = refuse_overlong p.engine } in
        let same : closing p ≡ after = if-true (goes p) after p on in
        subst D (sym same) (inl (answer-overlong (overlong_next p.engine) p.engine x refl (and-other (goes p) (can_write p.engine) on may) (subst B on w)))
    answer-none false p x off may w =
        let B : Bool → Type 0 = λ b. W b p.engine x in
        let D : Progress → Type 0 = λ q. Out q x in
        let same : closing p ≡ p = if-false (goes p) (record p { engine = refuse_overlong p.engine }) p off in
        subst D (sym same) (inr (subst B off w, off))

    answer-drain : (ws : List Wrote) (p : Progress) (x : X) → AreAnswers ws p → W (goes p) p.engine x → Out (drained ws p) (offers_on ws p x)
    answer-drain [] p x may w = answer-none (goes p) p x refl may w
    answer-drain (w ∷ ws) p x may h =
        let on : goes p ≡ true = and-left (goes p) (can_write p.engine) may.0 in
        let can : can_write p.engine ≡ true = and-right (goes p) (can_write p.engine) may.0 in
        let B : Bool → Type 0 = λ b. W b p.engine x in
        let q = offer_part w p in
        let y = offering w p x in
        let all : Bool = is_all w (length (offered p.engine)) in
        let next : P q.engine y = k.offer w p x can may.1 (subst B on h) in
        let V : List Wrote → Type 0 = λ vs. Out q (offers_on vs q y) in
        let D : Progress → Type 0 = λ z. Out z (offers_on ws q y) in
        elim (all-rest all ws q may.2) [
          | inl none ↦ subst D (sym (if-false all (drained ws q) q none.0)) (subst V (sym none.1) (inl next))
          | inr more ↦ subst D (sym (if-true all (drained ws q) q more.0)) (answer-drain ws q y more.1 (k.less (goes q) q.engine y next))
        ]

    answer-starved : (cut : Option ℕ) (at : ℕ) (q : Progress) (y : X) → q.cut ≡ cut → Out q y → P (starved_after cut at q.engine) y
    answer-starved None at q y is (inl h) = h
    answer-starved None at q y is (inr h) =
        let on : goes q ≡ true = ap (λ (c : Option ℕ). is_before c q.done) is in
        let off : goes q ≡ false = h.1 in
        absurd cc
    answer-starved (Some j) at q y is (inl h) = k.starve true at j q.engine y (k.less true q.engine y h)
    answer-starved (Some j) at q y is (inr h) = k.starve false at j q.engine y h.0

    answer-cut : (s : Option ℕ) (at n : ℕ) (e : Engine) (y : X) → n ≡ 0 → is_before s n ≡ false → IsCut s n → P (starve_at at 0 e) y → P (starved_after s at e) y
    answer-cut None at n e y none off cut h = absurd cc
    answer-cut (Some j) at n e y none off cut h =
        let N : ℕ → Type 0 = λ m. P (starve_at at m e) y in
        subst N (sym none ∙ cut) h

    -- from the step of a turn on
    pub answer-applied : (u : Turn) (e : Engine) (x : X) → Q u.notes.auths → has_ended e.talk ≡ false → IsApplied u e → P e x → P (applied u e) (applied_on u e x)
    answer-applied u e x given running may h =
        let r = read u e in
        let ws = write_answers u.notes in
        let y = stepped u.at u.step u.bytes e x in
        let after = (after_writes u e).engine in
        let D : Engine → Type 0 = λ z. P z (applied_on u e x) in
        let is : applied u e ≡ starved_after u.notes.starved u.at after =
        if-false (has_ended e.talk) after (starved_after u.notes.starved u.at after) running in
        subst D (sym is) (elim (answer-read u e x given running h) [
          | inl w ↦
              let out : Out (drained ws r) (offers_on ws r y) = answer-drain ws r y may.answers w in
              answer-starved u.notes.starved u.at (after_writes u e) (applied_on u e x)
              (stays-drained (λ (p : Progress). p.cut) (λ f n left qs p. refl) ws r ∙ read-cut u e) out
          | inr t ↦
              let none : ws ≡ [] = stops-none ws r t.1 may.answers in
              let stopped : closing r ≡ r = if-false (goes r) (record r { engine = refuse_overlong r.engine }) r t.1 in
              let same : after_writes u e ≡ begun u.at u.notes.starved u.notes.auths e = ap (λ vs. drained vs r) none ∙ stopped ∙ t.0 in
              let said : applied_on u e x ≡ y = ap (λ vs. offers_on vs r y) none in
              let E : Engine → Type 0 = λ z. P (starved_after u.notes.starved u.at z) (applied_on u e x) in
              let F : X → Type 0 = λ z. P (starve_at u.at 0 e) z in
              let C : ℕ → Type 0 = λ n. IsCut u.notes.starved n in
              subst E (sym (ap (λ (p : Progress). p.engine) same))
              (answer-cut u.notes.starved u.at 0 e (applied_on u e x) refl (sym (ap goes t.0) ∙ t.1)
              (subst C (ap (λ (p : Progress). p.done) same) may.cut) (subst F (sym said) (k.cut u.at u.step u.bytes e x running t.2 h)))
        ])

  -- the same, whatever the provider answers
  pub record Small (R : Engine → X → Type 0) (W : Bool → Engine → X → Type 0) (P : Engine → X → Type 0) : Type 0 where
    pub asked : (e : Engine) (x : X) → P e x → P (asks e) (ask e x)
    pub step : (at : ℕ) (step : Step) (bytes : List ℕ) (answers : List Asked) (e : Engine) (x : X) → is_piece step ≡ false → has_ended e.talk ≡ false → P e x
        → (b : Bool) → W b (step_engine at step bytes answers e) (stepped at step bytes e x)
    pub piece : (at n : ℕ) (bytes : List ℕ) (answers : List Asked) (e : Engine) (x : X) → has_ended e.talk ≡ false → P e x → R (step_engine at (Piece n) bytes answers e) (stepped at (Piece n) bytes e x)
    pub read : (at : ℕ) (answers : List Asked) (e : Engine) (x : X) → can_read e ≡ true → R e x → R (read_one at answers e) x
    pub heard : (b : Bool) (e : Engine) (x : X) → (b ≡ true → can_read e ≡ false) → R e x → W b e x
    pub offer : (w : Wrote) (p : Progress) (x : X) → can_write p.engine ≡ true → TookAtMost (length (offered p.engine)) w → W true p.engine x → P (answered p.at w p.engine) (offering w p x)
    pub rest : (e : Engine) (x : X) → can_write e ≡ false → overlong_next e ≡ None → W true e x → P e x
    pub overlong : (size : ℕ) (e : Engine) (x : X) → overlong_next e ≡ Some size → W true e x → P (ended_overlong (Some size) e) x
    pub less : (b : Bool) (e : Engine) (x : X) → P e x → W b e x
    pub starve : (b : Bool) (at j : ℕ) (e : Engine) (x : X) → W b e x → P (starve_at at j e) x
    -- the turn was cut before its step
    pub cut : (at : ℕ) (step : Step) (bytes : List ℕ) (e : Engine) (x : X) → has_ended e.talk ≡ false → is_part step e ≡ true → P e x → P (starve_at at 0 e) (stepped at step bytes e x)

  -- whatever was answered
  abbrev Whatever : List Asked → Type 0
  Whatever answers = Unit {0}

  whatever : (R : Engine → X → Type 0) (W : Bool → Engine → X → Type 0) (P : Engine → X → Type 0) → Small R W P → Answering Whatever R W P
  whatever R W P k =
      record {
        asked = k.asked;
        step = λ at step bytes answers e x given other running h b. k.step at step bytes answers e x other running h b;
        piece = λ at n bytes answers e x given running h. k.piece at n bytes answers e x running h;
        read = λ at answers e x given can h. k.read at answers e x can h;
        heard = k.heard;
        offer = k.offer;
        rest = k.rest;
        overlong = k.overlong;
        less = k.less;
        starve = k.starve;
        cut = k.cut;
        fewer = λ n answers given. tt;
      }

  module _ (R : Engine → X → Type 0) (W : Bool → Engine → X → Type 0) (P : Engine → X → Type 0) (k : Small R W P) where
    -- from the step of a turn on
    pub lift-applied : (u : Turn) (e : Engine) (x : X) → has_ended e.talk ≡ false → IsApplied u e → P e x → P (applied u e) (applied_on u e x)
    lift-applied u e x running may h = answer-applied Whatever R W P (whatever R W P k) u e x tt running may h

    pub lift-turn : (u : Turn) (e : Engine) (x : X) → IsTurn u e → P e x → P (turn u e) (turn_on u e x)
    lift-turn u e x may h = lift-applied u (asks e) (ask e x) (asks-running e may.running) may.applied (k.asked e x h)

    pub lift-turns : (us : List Turn) (e : Engine) (x : X) → AreTurns us e → P e x → P (turns us e) (turns_on us e x)
    lift-turns [] e x may h = h
    lift-turns (u ∷ us) e x may h = lift-turns us (turn u e) (turn_on u e x) may.1 (lift-turn u e x may.0 h)

  -- the same of what holds all through a turn
  pub record Simple (P : Engine → X → Type 0) : Type 0 where
    pub asked : (e : Engine) (x : X) → P e x → P (asks e) (ask e x)
    pub step : (at : ℕ) (step : Step) (bytes : List ℕ) (answers : List Asked) (e : Engine) (x : X) → has_ended e.talk ≡ false → P e x → P (step_engine at step bytes answers e) (stepped at step bytes e x)
    pub read : (at : ℕ) (answers : List Asked) (e : Engine) (x : X) → can_read e ≡ true → P e x → P (read_one at answers e) x
    pub offer : (w : Wrote) (p : Progress) (x : X) → can_write p.engine ≡ true → TookAtMost (length (offered p.engine)) w → P p.engine x → P (answered p.at w p.engine) (offering w p x)
    pub overlong : (size : ℕ) (e : Engine) (x : X) → overlong_next e ≡ Some size → P e x → P (ended_overlong (Some size) e) x
    pub starve : (at j : ℕ) (e : Engine) (x : X) → P e x → P (starve_at at j e) x
    pub cut : (at : ℕ) (step : Step) (bytes : List ℕ) (e : Engine) (x : X) → has_ended e.talk ≡ false → is_part step e ≡ true → P e x → P (starve_at at 0 e) (stepped at step bytes e x)

  pub simply : (P : Engine → X → Type 0) → Simple P → Small P (λ b. P) P
  simply P k =
      record {
        asked = k.asked;
        step = λ at step bytes answers e x other running h b. k.step at step bytes answers e x running h;
        piece = λ at n bytes answers e x running h. k.step at (Piece n) bytes answers e x running h;
        read = k.read;
        heard = λ b e x f h. h;
        offer = k.offer;
        rest = λ e x can is h. h;
        overlong = k.overlong;
        less = λ b e x h. h;
        starve = λ b at j e x h. k.starve at j e x h;
        cut = k.cut;
      }
