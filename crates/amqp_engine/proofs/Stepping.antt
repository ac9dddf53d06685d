-- The step of a turn keeps the tie of a faultless server with the session, where it brings no link and no end, and misses no heartbeat.
use Rattle.std.proofs.Common.{◌≡◌, ℕ, if◌then◌else◌, true, false, List, [], ◌++◌, None, refl, ap, sym, ◌∙◌, subst}
use Rattle.amqp_frame.specs.declared.frame.Frame.{Frame}
use Rattle.amqp_auth.specs.declared.asked.Asked.{Asked}
use Rattle.amqp_commands.specs.declared.command.Cmd.{Cmd}
use Rattle.amqp_settings.specs.Config.{Options}
use Rattle.amqp_rules.specs.Sound.{IsSound}
use Rattle.amqp_rules.specs.Talk.{Talk, is_open}
use Rattle.amqp_rules.specs.Changes.{present_at}
use Rattle.amqp_rules.specs.Commands.{command}
use Rattle.amqp_rules.specs.Links.{piece}
use Rattle.amqp_rules.specs.Ticks.{is_missed, tick}
use Rattle.amqp_faultless.specs.Faultless.{Server, AreSayable}
use Rattle.amqp_types.proofs.Small.{if_case, if-true}
use Rattle.amqp_rules.proofs.SoundChanges.{sound-present}
use Rattle.amqp_rules.proofs.SoundCommands.{sound-command}
use Rattle.amqp_rules.proofs.Soundness.{sound-piece, sound-tick}
use Rattle.amqp_faultless.proofs.Greeted.{IsMet}
use Rattle.amqp_faultless.proofs.Tells.{met-present}
use Rattle.amqp_faultless.proofs.Modest.{Modest}
use Rattle.amqp_faultless.proofs.Brief.{modest-command, modest-tick}
use Rattle.amqp_faultless.proofs.Modesty.{modest-present, modest-piece}
use Rattle.amqp_faultless.proofs.Tuned.{Tuned}
use Rattle.amqp_faultless.proofs.TunedRules.{tuned-present, tuned-piece, tuned-command, tuned-tick}
use Rattle.amqp_engine.specs.declared.given.GivenStep.TheVariants as given
use Rattle.amqp_engine.specs.declared.port.Step.{Step}
use Rattle.amqp_engine.specs.declared.port.Step.TheVariants.{Linked, LinkFailed, Piece, End, Fault, Room, Tick, Command}
use Rattle.amqp_engine.specs.Engine.{Engine, rule_at, settle, step_engine, step_questions}
use Rattle.amqp_engine.specs.Turn.{Progress, is_before, goes, part, questioned, is_part, step_part}
use Rattle.amqp_engine.specs.Valid.{IsShort}
use Rattle.amqp_engine.proofs.Settling.{settle-talk}
use Rattle.amqp_engine.proofs.LinkKept.{leaves-step}
use Rattle.amqp_engine.proofs.Follows.{IsCalm, met-step, met-unread}
use Rattle.amqp_engine.proofs.Voicing.{IsClear}

-- a command that closes is short, where the step is one
abbrev pub IsBrief : Step → Type 0
IsBrief (Command c) = IsShort (given.Command c)
IsBrief _ = Unit {0}

calm-unlinked : (at : ℕ) (step : Step) (t : Talk) → IsCalm at step t → step ≡ Linked → ⊥
calm-unlinked at Linked t calm is = calm
calm-unlinked at LinkFailed t calm is = calm
calm-unlinked at End t calm is = calm
calm-unlinked at Fault t calm is = calm
calm-unlinked at (Piece n) t calm is = cc
calm-unlinked at Room t calm is = cc
calm-unlinked at Tick t calm is = cc
calm-unlinked at (Command c) t calm is = cc

module _ (at : ℕ) (bytes : List ℕ) (answers : List Asked) (e : Engine) where
  abbrev after : Step → Talk
  after step = (step_engine at step bytes answers e).talk

  -- what a step keeps that is kept by each rule
  stepped : (P : Talk → Type 0) (step : Step) → IsCalm at step e.talk → P (present_at at e.talk) → (P (present_at at e.talk) → P (piece (present_at at e.talk)))
      → (is_missed (present_at at e.talk) ≡ false → P (present_at at e.talk) → P (tick answers (present_at at e.talk)))
      → ((c : Cmd) → step ≡ Command c → P (present_at at e.talk) → P (command c (present_at at e.talk))) → P (after step)
  stepped P (Piece n) calm now pieced ticked told =
      let Q : Engine → Type 0 = λ x. P x.talk in
      let x : Engine = record e { talk = piece (present_at at e.talk); unread = e.unread ++ bytes } in
      if_case Q (is_open e.talk) (settle x) (rule_at at (λ t. t) e) (subst P (sym (settle-talk x)) (pieced now)) now
  stepped P Room calm now pieced ticked told = now
  stepped P Tick calm now pieced ticked told = subst P (sym (settle-talk (rule_at at (tick answers) e))) (ticked calm now)
  stepped P (Command c) calm now pieced ticked told = told c refl now
  stepped P Linked calm now pieced ticked told = absurd calm
  stepped P LinkFailed calm now pieced ticked told = absurd calm
  stepped P End calm now pieced ticked told = absurd calm
  stepped P Fault calm now pieced ticked told = absurd calm

  pub sound-step : (step : Step) → IsCalm at step e.talk → IsSound e.talk → IsSound (after step)
  sound-step step calm h =
      let t = present_at at e.talk in
      stepped IsSound step calm (sound-present at e.talk h) (λ k. sound-piece t k) (λ missed k. sound-tick answers t k) (λ c is k. sound-command c t k)

  pub modest-step : (options : Options) (step : Step) → IsCalm at step e.talk → AreSayable options answers → IsBrief step → Modest options e.talk → Modest options (after step)
  modest-step options step calm sayable brief h =
      let t = present_at at e.talk in
      let M : Talk → Type 0 = Modest options in
      let B : Step → Type 0 = IsBrief in
      stepped M step calm (modest-present options at e.talk h) (λ k. modest-piece options t k) (λ missed k. modest-tick options answers t sayable k)
      (λ c is k. modest-command options c t (subst B is brief) k)

  pub tuned-step : (fs : List Frame) (s : Server) (step : Step) → IsCalm at step e.talk → IsMet s e.talk → Tuned fs s e.talk → Tuned fs s (after step)
  tuned-step fs s step calm m h =
      let t = present_at at e.talk in
      let T : Talk → Type 0 = Tuned fs s in
      let now : IsMet s t = met-present at s e.talk m in
      stepped T step calm (tuned-present at fs s e.talk h) (λ k. tuned-piece fs s t k) (λ missed k. tuned-tick answers fs s t missed now k) (λ c is k. tuned-command c fs s t now k)

  pub clear-step : (s : Server) (step : Step) → IsCalm at step e.talk → IsMet s e.talk → IsClear e → IsClear (step_engine at step bytes answers e)
  clear-step s step calm m h =
      let after_met = met-step at step bytes answers s e calm m in
      let left = leaves-step at step bytes answers e (λ is. absurd (calm-unlinked at step e.talk calm is)) after_met.opened in
      record { marks = left.committed ∙ h.marks; bytes = left.unsent ∙ h.bytes }

-- a step that brings no piece leaves what is unread
pub quiet-unread : (at : ℕ) (step : Step) (bytes : List ℕ) (answers : List Asked) (s : Server) (e : Engine) → IsCalm at step e.talk → ((n : ℕ) → step ≡ Piece n → ⊥) → IsMet s e.talk
    → (step_engine at step bytes answers e).unread ≡ e.unread
quiet-unread at (Piece n) bytes answers s e calm other m = absurd (other n refl)
quiet-unread at Room bytes answers s e calm other m = refl
quiet-unread at Tick bytes answers s e calm other m =
    let x : Engine = rule_at at (tick answers) e in
    let P : Talk → Type 0 = IsMet s in
    met-unread s x (subst P (settle-talk x) (met-step at Tick bytes answers s e calm m))
quiet-unread at (Command c) bytes answers s e calm other m = refl
quiet-unread at Linked bytes answers s e calm other m = absurd calm
quiet-unread at LinkFailed bytes answers s e calm other m = absurd calm
quiet-unread at End bytes answers s e calm other m = absurd calm
quiet-unread at Fault bytes answers s e calm other m = absurd calm

-- ---- the part

-- in a turn that is not cut, the step is taken
pub part-engine : (step : Step) (bytes : List ℕ) (p : Progress) → p.cut ≡ None → (step_part step bytes p).engine ≡ step_engine p.at step bytes p.answers p.engine
part-engine step bytes p whole =
    let after = step_engine p.at step bytes p.answers p.engine in
    let q = questioned (step_questions p.at step p.answers p.engine) p in
    let P : Progress → Type 0 = λ x. x.engine ≡ after in
    let yes : goes p ≡ true = ap (λ c. is_before c p.done) whole in
    if_case P (is_part step p.engine) (if goes p then part after q else p) (record p { engine = after }) (subst P (sym (if-true (goes p) (part after q) p yes)) refl) refl

-- a piece asks nothing
pub part-piece : (n : ℕ) (bytes : List ℕ) (p : Progress) → p.cut ≡ None → is_open p.engine.talk ≡ true
    → step_part (Piece n) bytes p ≡ part (step_engine p.at (Piece n) bytes p.answers p.engine) (questioned [] p)
part-piece n bytes p whole opened =
    let after = step_engine p.at (Piece n) bytes p.answers p.engine in
    let q = questioned [] p in
    if-true (is_part (Piece n) p.engine) (if goes p then part after q else p) (record p { engine = after }) opened
    ∙ if-true (goes p) (part after q) p (ap (λ c. is_before c p.done) whole)
