-- What waits is answered where the link is lost and the session waits for another.
use Rattle.std.specs.Prelude.{◌≡◌, ◌≢◌, ◌⊎◌, ℕ, List, Some, Ok, Err, IsTrue, IsFalse}
use Rattle.amqp_frame.specs.declared.frame.Frame.{Frame}
use Rattle.amqp_promise.specs.declared.io_fault.IoFault.{IoFault}
use Rattle.amqp_promise.specs.declared.state.ConnectionState.TheVariants.{Reconnecting}
use Rattle.amqp_promise.specs.declared.error.ErrorKind.{ErrorKind}
use Rattle.amqp_promise.specs.declared.error.ErrorKind.TheVariants.{IOError, MissingHeartbeatError}
use Rattle.amqp_auth.specs.declared.asked.Asked.{Asked}
use Rattle.amqp_answers.specs.declared.answer.Answer.TheVariants.{Sent}
use Rattle.amqp_commands.specs.declared.command.Cmd.{Cmd}
use Rattle.amqp_violations.specs.declared.misread.Misread.{Misread}
use Rattle.amqp_maps.specs.Listed.{at}
use Rattle.amqp_rules.specs.Talk.{Talk, acts}
use Rattle.amqp_violations.specs.Violations.{misread_error}
use Rattle.amqp_rules.specs.Causes.{IsFrameError}
use Rattle.amqp_rules.specs.Changes as change
use Rattle.amqp_rules.specs.Links as link
use Rattle.amqp_rules.specs.Frames.{on_frame}
use Rattle.amqp_rules.specs.Commands as told
use Rattle.amqp_rules.specs.Ticks as ticks
use Rattle.amqp_rules.specs.Writing as writing
use Rattle.amqp_rules.specs.Answers.{take_answer, take_event, take_frames}
use Rattle.amqp_answer_rules.specs.Answering.{IsSent, IsServerClose, IsWaiting}

-- the session waits for another link, as it did not before
abbrev pub GoesToReconnect : Talk → Talk → Type 0
GoesToReconnect t t' = (t.state ≢ Reconnecting) × (t'.state ≡ Reconnecting)

-- each promise that waited, but that of the connection, has this error
abbrev pub RejectsAll : ErrorKind → Talk → Talk → Type 0
RejectsAll e t t' = (number : ℕ) → number ≢ 0 → IsWaiting number t → at number t'.promises ≡ Some (Some (Err e))

-- where the session waits for another link, as it did not before, this was by one of these errors, and each promise
-- that waited has that
abbrev pub LosesBy : (ErrorKind → Type 0) → Talk → Talk → Type 0
LosesBy Reason t t' = GoesToReconnect t t' → (e : ErrorKind) × Reason e × RejectsAll e t t'

-- by a rule no link is lost of a session that then waits for another
abbrev pub LosesNone : Talk → Talk → Type 0
LosesNone t t' = t'.state ≡ Reconnecting → t.state ≡ Reconnecting

-- once so many bytes were taken, each promise that waited, but that of the connection, has this error, or its frame was
-- sent whole before
abbrev pub RejectsUnsent : ℕ → ErrorKind → Talk → Talk → Type 0
RejectsUnsent n e t t' =
    (number : ℕ) → number ≢ 0 → IsWaiting number t
    → (at number t'.promises ≡ Some (Some (Err e)))
    ⊎ (IsSent t.committed n number (Ok Sent) × (at number t'.promises ≡ Some (Some (Ok Sent))))

-- each rule by which the session waits for another link answers what waited with the error by which the link was lost
pub record RejectsAtLosses (t : Talk) : Type 0 where
  pub frame : (f : Frame) (answers : List Asked) → LosesBy (λ e. IsFrameError e f answers t) t (on_frame f answers t)
  pub misread : (why : Misread) → LosesBy (λ e. e ≡ misread_error why) t (link.misread why t)
  -- a fault of the link, but after the server's close the error of that
  pub lost : (fault : IoFault) →
      LosesBy (λ e. (IsTrue (acts t) × (e ≡ IOError fault)) ⊎ (IsFalse (acts t) × IsServerClose t e)) t
      (link.lost fault t)
  pub tick : (answers : List Asked) → LosesBy (λ e. e ≡ MissingHeartbeatError) t (ticks.tick answers t)
  -- our answer to the server's close was sent, which came with an error
  pub taken : (n : ℕ) → GoesToReconnect t (writing.taken n t) →
      (e : ErrorKind) × IsServerClose t e × RejectsUnsent n e t (writing.taken n t)
  -- no other rule does
  pub moment : (at : ℕ) → LosesNone t (change.present_at at t)
  pub asked : LosesNone t (link.asked t)
  pub linked : LosesNone t (link.linked t)
  pub link_failed : LosesNone t (link.link_failed t)
  pub piece : LosesNone t (link.piece t)
  pub next_frame : (space : ℕ) → LosesNone t (writing.next_frame space t)
  pub starve : LosesNone t (change.starve t)
  pub command : (cmd : Cmd) → LosesNone t (told.command cmd t)
  pub answer : (number : ℕ) → LosesNone t (take_answer number t)
  pub event : LosesNone t (take_event t)
  pub frames : (opened : ℕ) → LosesNone t (take_frames opened t)
