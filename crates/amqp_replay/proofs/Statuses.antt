-- Which statuses a printout has.
use Rattle.std.proofs.Common.{◌≡◌, ◌≢◌, ◌<◌, ◌⊎◌, sym, inl, inr, refl, ℕ, Bool, List, take, Option, Some, None, IfSome, Result, Ok, Err, MatchResult, ap, ◌∙◌, subst, arith}
use Rattle.amqp_auth.specs.declared.asked.Asked.{Asked}
use Rattle.amqp_promise.specs.declared.error.ErrorKind.{ErrorKind}
use Rattle.amqp_auth.specs.Providers.{Exchange}
use Rattle.amqp_rules.specs.Talk.{Talk, end_of}
use Rattle.amqp_engine.specs.declared.given.Given.{Given}
use Rattle.amqp_engine.specs.Log.{Log}
use Rattle.amqp_engine.specs.Engine.{begin}
use Rattle.amqp_engine.specs.Turn.{talk}
use Rattle.amqp_engine.specs.Play.{replayed, AreAnswered}
use Rattle.amqp_engine.specs.Account.{IsNew}
use Rattle.amqp_engine.specs.Valid.{Valid}
use Rattle.amqp_replay.specs.declared.limits.TheConstants.{MOST_READ}
use Rattle.amqp_replay.specs.declared.status.TheConstants.{CLOSED, REFUSED, USAGE, SOURCE_FAILED, SINK_FAILED, FAILED, RUNNING, NO_MEMORY}
use Rattle.amqp_replay.specs.Grammar.{Scenario, parsed}
use Rattle.amqp_replay.proofs.MostParsed.{parsed-most}
use Rattle.amqp_replay.specs.Report.{Printout}
use Rattle.amqp_replay.specs.Top.{session_of, own_state, provider_state, MayAnswer, IsValid, end_status, replayed_talk, refused_printout, printout, generated_printout, TellsReplay, Prints, Replays, ReplaysSome, Generates, IsSilent}
use Rattle.amqp_replay.specs.Runs.{made_of_generated}
use Rattle.amqp_replay.proofs.Replaying.{is-new}

-- a status with which something is printed, though nothing failed
pub record IsLoud (status : ℕ) : Type 0 where
  pub known : status ≢ USAGE
  pub read : status ≢ SOURCE_FAILED
  pub written : status ≢ SINK_FAILED
  pub memory : status ≢ NO_MEMORY

-- all other statuses are below 2, or 5 or 6
loud_status : (n : ℕ) → (n < 2) ⊎ (n ≡ 5) ⊎ (n ≡ 6) → IsLoud n
loud_status n which =
    record {
      known = λ h. omega (arith, h, which);
      read = λ h. omega (arith, h, which);
      written = λ h. omega (arith, h, which);
      memory = λ h. omega (arith, h, which);
    }

loud_end : (o : Option (Result (Unit {0}) ErrorKind)) → IsLoud (end_status o)
loud_end None = loud_status RUNNING (inr (inr refl))
loud_end (Some (Ok closed)) = loud_status CLOSED (inl (omega arith))
loud_end (Some (Err e)) = loud_status FAILED (inr (inl refl))

pub printout-IsLoud : (script : Result Scenario ℕ) (answers : List Asked) → IsLoud (printout script answers).status
printout-IsLoud (Err number) answers = loud_status REFUSED (inl (omega arith))
printout-IsLoud (Ok s) answers = loud_end (end_of (replayed_talk s answers))

pub made_of_generated-IsLoud : (script : List ℕ) (read : Result Scenario ℕ) (answers : List Asked)
    → IsLoud (made_of_generated script read answers).status
made_of_generated-IsLoud script (Err number) answers = loud_status REFUSED (inl (omega arith))
made_of_generated-IsLoud script (Ok s) answers = loud_end (end_of (replayed_talk s answers))

-- ---- a printout that was written

-- what its status tells, R being what a sink that failed tells
pub record Written (before after : Option (List ℕ)) (R : Type 0) (status : ℕ) : Type 0 where
  pub known : (status ≢ USAGE) × (status ≢ SOURCE_FAILED)
  pub failed : status ≡ SINK_FAILED → R
  pub silent : IsSilent status → after ≡ before

not_silent : (before after : Option (List ℕ)) (status : ℕ) → status ≢ USAGE → status ≢ SOURCE_FAILED → status ≢ NO_MEMORY → IsSilent status
    → after ≡ before
not_silent before after status known read memory (inl h) = absurd (known h)
not_silent before after status known read memory (inr (inl h)) = absurd (read h)
not_silent before after status known read memory (inr (inr h)) = absurd (memory h)

written_whole : (R : Type 0) (before after : Option (List ℕ)) (status p : ℕ) → IsLoud p → status ≡ p → Written before after R status
written_whole R before after status p loud is =
    let known : status ≢ USAGE = λ h. loud.known (sym is ∙ h) in
    let read : status ≢ SOURCE_FAILED = λ h. loud.read (sym is ∙ h) in
    let memory : status ≢ NO_MEMORY = λ h. loud.memory (sym is ∙ h) in
    record {
      known = (known, read);
      failed = λ h. absurd (loud.written (sym is ∙ h));
      silent = λ h. not_silent before after status known read memory h;
    }

written_front : (R : Type 0) (before after : Option (List ℕ)) (status p : ℕ) → IsLoud p → (status ≡ p) ⊎ R → status ≡ SINK_FAILED
    → Written before after R status
written_front R before after status p loud (inl is) failed = absurd (loud.written (sym is ∙ failed))
written_front R before after status p loud (inr rose) failed =
    let known : status ≢ USAGE = λ h. omega (arith, h, failed) in
    let read : status ≢ SOURCE_FAILED = λ h. omega (arith, h, failed) in
    let memory : status ≢ NO_MEMORY = λ h. omega (arith, h, failed) in
    record { known = (known, read); failed = λ _. rose; silent = λ h. not_silent before after status known read memory h }

pub written : (R : Type 0) (p : Printout) (before after : Option (List ℕ)) (status : ℕ) → IsLoud p.status → (status ≡ p.status) ⊎ R
    → Prints p before after status → Written before after R status
written R p before after status loud cause (inl whole) = written_whole R before after status p.status loud whole.0
written R p before after status loud cause (inr front) = written_front R before after status p.status loud cause front.0

-- ---- the scripts of a faultless server

-- they leave the session Closed, as the engine says of them
abbrev pub EndClosed : Type 0
EndClosed =
    (t : Talk) (gs : List Given) (answers : List Asked) → IsNew t → AreAnswered (replayed t gs answers) (begin t) → Valid t gs answers
    → end_of (talk t (replayed t gs answers)) ≡ Some (Ok tt)

-- so the status of what is printed of them says so
pub valid-closed : EndClosed → (state : Scenario → Exchange → Type 0) (read : Result Scenario ℕ) (answers : List Asked)
    → MayAnswer state read answers → IsValid read answers → (printout read answers).status ≡ CLOSED
valid-closed end state (Err number) answers may valid = absurd valid
valid-closed end state (Ok s) answers may valid =
    ap end_status (end (session_of s) s.steps answers (is-new s.listens s.config) may.answered valid)

-- and so is the status that is answered, unless the sink failed
closed-printed : (p : Printout) (before after : Option (List ℕ)) (status : ℕ) → Prints p before after status → p.status ≡ CLOSED
    → (status ≡ CLOSED) ⊎ (status ≡ SINK_FAILED)
closed-printed p before after status (inl whole) closed = inl (whole.0 ∙ closed)
closed-printed p before after status (inr front) closed = inr front.0

-- what is answered where q was handed to a sink, which is p, and p says Closed of a valid script
pub record Answered (p : Printout) (before after : Option (List ℕ)) (R valid : Type 0) (status : ℕ) : Type 0 where
  pub written : Written before after R status
  pub prints : Prints p before after status
  pub closed : valid → (status ≡ CLOSED) ⊎ (status ≡ SINK_FAILED)

pub answered : (R valid : Type 0) (p q : Printout) (before after : Option (List ℕ)) (status : ℕ) → q ≡ p → IsLoud p.status → (valid → p.status ≡ CLOSED)
    → (status ≡ q.status) ⊎ R → Prints q before after status → Answered p before after R valid status
answered R valid p q before after status is loud ends cause prints =
    let L : Printout → Type 0 = λ x. IsLoud x.status in
    let P : Printout → Type 0 = λ x. Prints x before after status in
    let printed : Prints p before after status = subst P is prints in
    record {
      written = written R q before after status (subst L (sym is) loud) cause prints;
      prints = printed;
      closed = λ holds. closed-printed p before after status printed (ends holds);
    }

-- ---- a generated script that was answered

pub Generates-made : EndClosed → (script : List ℕ) (read : Result Scenario ℕ) (answers : List Asked) (log log' : Option Log)
    (before after : Option (List ℕ)) (status : ℕ)
    → MayAnswer own_state read answers → TellsReplay read answers log log' → Prints (made_of_generated script read answers) before after status
    → MatchResult read (λ s. Generates script s log' before after status)
    (λ number. Prints (refused_printout number) before after status × (log' ≡ log))
Generates-made end script (Err number) answers log log' before after status may told prints = (prints, told)
Generates-made end script (Ok s) answers log log' before after status may told prints =
    record {
      answers = answers;
      may = may;
      told = told;
      prints = prints;
      closed = λ valid. closed-printed (generated_printout script s answers) before after status prints
          (ap end_status (end (session_of s) s.steps answers (is-new s.listens s.config) may.answered valid));
    }

-- ---- a script that was read and answered

pub ReplaysSome-read : (is_handed : Bool) (handed : Exchange → Type 0) (left : Option (List ℕ)) (log log' : Option Log) (before after : Option (List ℕ))
    (status : ℕ) (script : List ℕ)
    → IfSome left (λ all. script ≡ take MOST_READ all) → IsSilent status ⊎ Replays is_handed handed script log log' before after status
    → IsSilent status ⊎ ReplaysSome is_handed handed left log log' before after status
ReplaysSome-read is_handed handed left log log' before after status script read (inl silent) = inl silent
ReplaysSome-read is_handed handed left log log' before after status script read (inr replays) =
    inr (record { script = script; read = read; replays = replays })

-- where the source told all that it had, all of it was answered
pub Replays-told : (is_handed : Bool) (handed : Exchange → Type 0) (left : Option (List ℕ)) (log log' : Option Log) (before after : Option (List ℕ))
    (status : ℕ) (script : List ℕ)
    → IfSome left (λ all. script ≡ take MOST_READ all) → IsSilent status ⊎ Replays is_handed handed script log log' before after status
    → IfSome left (λ all. IsSilent status ⊎ Replays is_handed handed all log log' before after status)
Replays-told is_handed handed None log log' before after status script read outcome = tt
Replays-told is_handed handed (Some all) log log' before after status script read (inl silent) = inl silent
Replays-told is_handed handed (Some all) log log' before after status script read (inr replays) =
    let answers = replays.answers in
    let same : parsed is_handed script ≡ parsed is_handed all = ap (parsed is_handed) read ∙ parsed-most is_handed all in
    let M : Result Scenario ℕ → Type 0 = λ r. MayAnswer (provider_state handed) r answers in
    let P : Result Scenario ℕ → Type 0 = λ r. TellsReplay r answers log log' in
    let Q : Result Scenario ℕ → Type 0 = λ r. Prints (printout r answers) before after status in
    let C : Result Scenario ℕ → Type 0 = λ r. IsValid r answers → (status ≡ CLOSED) ⊎ (status ≡ SINK_FAILED) in
    inr (record {
      answers = answers;
      may = subst M same replays.may;
      told = subst P same replays.told;
      prints = subst Q same replays.prints;
      closed = subst C same replays.closed;
    })
