-- A turn that is cut before all its parts, as the locked value enters it where memory for its entry is refused: the session ends at its moment, and that is all.
use Rattle.std.proofs.Common.{◌≡◌, ◌≤◌, arith, ℕ, zero, suc, ◌&&◌, Bool, true, false, if◌then◌else◌, List, [], length, Option, Some, None, refl, ap, sym, ◌∙◌}
use Rattle.amqp_promise.specs.declared.io_fault.IoFault.{IoFault}
use Rattle.amqp_promise.specs.declared.io_fault.IoFault.TheVariants.{Aborted, Reset}
use Rattle.amqp_rules.specs.Talk.{Talk, has_ended, is_open, is_asked, acts}
use Rattle.amqp_rules.specs.Changes.{present_at, starve, finish}
use Rattle.amqp_rules.specs.Links.{link_failed, lost}
use Rattle.amqp_types.proofs.Small.{if-false}
use Rattle.amqp_rules.proofs.Keeping.{present-keeps, present-twice}
use Rattle.amqp_auth.specs.declared.asked.Question.{Question}
use Rattle.amqp_engine.specs.declared.port.Step.{Step}
use Rattle.amqp_engine.specs.declared.port.Step.TheVariants.{Linked, LinkFailed, Piece, End, Fault, Room, Tick, Command}
use Rattle.amqp_engine.specs.Engine.{Engine, rule_at, settle, step_engine, can_read, can_write, starve_at}
use Rattle.amqp_engine.specs.Turn.{Turn, IsApplied, Progress, begun, goes, is_part, is_piece, step_part, read_part, reads, reading, closing, read, after_writes, starved_after, applied}
use Rattle.amqp_journal.specs.Journal.{turn_in, cut_before}
use Rattle.amqp_journal.proofs.Ended.{settle-talk}

and-off : (a b : Bool) → a ≡ false → (a && b) ≡ false
and-off true b h = cc
and-off false b h = refl

module _ (now : ℕ) (e : Engine) where
  still-open : is_open (present_at now e.talk) ≡ is_open e.talk
  still-open = present-keeps is_open now e.talk (λ n. refl)

  still-asked : is_asked (present_at now e.talk) ≡ is_asked e.talk
  still-asked = present-keeps is_asked now e.talk (λ n. refl)

  lost-idle : (fault : IoFault) → is_open e.talk ≡ false → lost fault (present_at now e.talk) ≡ present_at now e.talk
  lost-idle fault h =
      let t : Talk = present_at now e.talk in
      if-false (acts t) _ _ (and-off (is_open t) _ (still-open ∙ h)) ∙ if-false (is_open t) (finish t) t (still-open ∙ h)

  -- what is no part changes the present alone
  idle-step : (step : Step) → is_part step e ≡ false → (step_engine now step [] [] e).talk ≡ present_at now e.talk
  idle-step Linked h = ap (λ (x : Engine). x.talk) (if-false (is_asked e.talk) _ (rule_at now (λ t. t) e) h)
  idle-step LinkFailed h = settle-talk (rule_at now link_failed e) ∙ if-false (is_asked (present_at now e.talk)) _ (present_at now e.talk) (still-asked ∙ h)
  idle-step (Piece n) h = ap (λ (x : Engine). x.talk) (if-false (is_open e.talk) _ (rule_at now (λ t. t) e) h)
  idle-step End h = settle-talk (rule_at now (lost Aborted) e) ∙ lost-idle Aborted h
  idle-step Fault h = settle-talk (rule_at now (lost Reset) e) ∙ lost-idle Reset h
  idle-step Room h = refl
  idle-step Tick h = absurd cc
  idle-step (Command c) h = absurd cc

-- the state depends on the session's alone
same-starved : (now : ℕ) (x e : Engine) → present_at now x.talk ≡ present_at now e.talk → starve_at now 0 x ≡ starve_at now 0 e
same-starved now x e h = ap (λ (t : Talk). record { talk = starve t; unread = []; place = 0; unsent = []; starved = Some 0 }) h

-- no frame is read
cut-reads : (b : Bool) (p : Progress) → goes p ≡ false → reading b p ≡ p
cut-reads true p h = by (length p.engine.unread) where
  by : (n : ℕ) → reads n p ≡ p
  by zero = refl
  by (suc n) = if-false (goes p && can_read p.engine) (reads n (read_part p)) p (and-off (goes p) _ h)
cut-reads false p h = refl

pub starved-is : (now : ℕ) (step : Step) (e : Engine) → has_ended e.talk ≡ false → applied (turn_in (cut_before now step)) e ≡ starve_at now 0 e
starved-is now step e running =
    let after : Engine = (after_writes (turn_in (cut_before now step)) e).engine in
    let is : applied (turn_in (cut_before now step)) e ≡ starve_at now 0 after = if-false (has_ended e.talk) after (starved_after (Some 0) now after) running in
    is ∙ by (is_part step e) refl
  where
    p : Progress
    p = begun now (Some 0) [] e

    -- from its step on
    from : (q : Progress) → goes q ≡ false → step_part step [] p ≡ q → present_at now q.engine.talk ≡ present_at now e.talk
        → starve_at now 0 (after_writes (turn_in (cut_before now step)) e).engine ≡ starve_at now 0 e
    from q off is same =
        let read_is : read (turn_in (cut_before now step)) e ≡ q = ap (reading (is_piece step)) is ∙ cut-reads (is_piece step) q off in
        let done : after_writes (turn_in (cut_before now step)) e ≡ q = ap closing read_is ∙ if-false (goes q) _ q off in
        ap (λ (x : Progress). starve_at now 0 x.engine) done ∙ same-starved now q.engine e same

    by : (b : Bool) → is_part step e ≡ b → starve_at now 0 (after_writes (turn_in (cut_before now step)) e).engine ≡ starve_at now 0 e
    by true h =
        from p refl (ap (λ (c : Bool). if c then p else record p { engine = step_engine now step [] [] e }) h) refl
    by false h =
        let x : Engine = step_engine now step [] [] e in
        from (record p { engine = x }) refl (ap (λ (c : Bool). if c then p else record p { engine = x }) h)
        (ap (present_at now) (idle-step now e step h) ∙ present-twice now e.talk)

-- such a turn may be one of any engine
pub starved-may : (now : ℕ) (step : Step) (e : Engine) → IsApplied (turn_in (cut_before now step)) e
starved-may now step e = by (is_part step e) refl where
  v : Turn
  v = turn_in (cut_before now step)

  p : Progress
  p = begun now (Some 0) [] e

  from : (q : Progress) → goes q ≡ false → q.questions ≡ [] → q.done ≡ 0 → step_part step [] p ≡ q → IsApplied v e
  from q off unasked undone is =
      let read_is : read v e ≡ q = ap (reading (is_piece step)) is ∙ cut-reads (is_piece step) q off in
      let done : after_writes v e ≡ q = ap closing read_is ∙ if-false (goes q) _ q off in
      record {
        answers = ap (λ (x : Progress). goes x && can_write x.engine) read_is ∙ and-off (goes q) _ off;
        asked = (none (read v e).questions (ap (λ (x : Progress). x.questions) read_is ∙ unasked), tt);
        cut = ap (λ (x : Progress). x.done) done ∙ undone;
      }
    where
      none : (qs : List Question) → qs ≡ [] → length qs ≤ 0
      none qs h = omega (arith, ap length h)

  by : (b : Bool) → is_part step e ≡ b → IsApplied v e
  by true h = from p refl refl refl (ap (λ (c : Bool). if c then p else record p { engine = step_engine now step [] [] e }) h)
  by false h =
      let x : Engine = step_engine now step [] [] e in
      from (record p { engine = x }) refl refl refl (ap (λ (c : Bool). if c then p else record p { engine = x }) h)
