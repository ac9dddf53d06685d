-- When a session ends Closed: our close is answered, or the server closed by a code that is none of an error, and its
-- link ends or our answer was sent (AMQP 0-9-1, 1.4 of its reference: connection.close and close-ok).
use Rattle.std.specs.Prelude.{◌≡◌, ◌⊎◌, ◌≤◌, ◌↔◌, ◌-◌, ◌==◌, ◌++◌, ℕ, zero, Bool, List, [], ◌∷◌, Option, Some, None, Ok, IsTrue, IsFalse, IsSome}
use Rattle.std.specs.List.{list_any}
use Rattle.amqp_types.specs.Codes.{soft_codes, hard_codes}
use Rattle.amqp_frame.specs.declared.frame.Frame.{Frame}
use Rattle.amqp_frame.specs.declared.frame.Frame.TheVariants.{Method}
use Rattle.amqp_frame.specs.declared.method.Method.TheVariants.{Close, CloseOk}
use Rattle.amqp_promise.specs.declared.io_fault.IoFault.{IoFault}
use Rattle.amqp_promise.specs.declared.state.ConnectionState.TheVariants.{Closing}
use Rattle.amqp_auth.specs.declared.asked.Asked.{Asked}
use Rattle.amqp_commands.specs.declared.command.Cmd.{Cmd}
use Rattle.amqp_outgoing.specs.declared.committed.Mark.{Mark}
use Rattle.amqp_outgoing.specs.declared.committed.Then.TheVariants.{Finish}
use Rattle.amqp_violations.specs.declared.misread.Misread.{Misread}
use Rattle.amqp_violations.specs.declared.server_close.ServerClose.{ServerClose}
use Rattle.amqp_violations.specs.declared.server_close.ServerClose.TheVariants.{WithoutError, WithError}
use Rattle.amqp_rules.specs.Talk.{Talk, acts, end_of, has_ended, is_open}
use Rattle.amqp_rules.specs.Changes as change
use Rattle.amqp_rules.specs.Links as link
use Rattle.amqp_rules.specs.Frames.{on_frame}
use Rattle.amqp_rules.specs.Commands as told
use Rattle.amqp_rules.specs.Ticks as ticks
use Rattle.amqp_rules.specs.Writing as writing
use Rattle.amqp_rules.specs.Answers.{take_answer, take_event, take_frames}
use Rattle.amqp_rules.specs.Sound.{IsSound}

-- ---- how the server closed

-- a reply code that stands for an error
abbrev pub is_error_code : ℕ → Bool
is_error_code code = list_any (λ k. code == k) (soft_codes ++ hard_codes)

-- a frame is the server's close of the connection, to be remembered so: with its code and text where the code stands
-- for an error
abbrev pub IsCloseAs : Frame → ServerClose → Type 0
IsCloseAs (Method zero (Close code text class method)) (WithError e) =
    IsTrue (is_error_code code) × (e.code ≡ code) × (e.message ≡ text)
IsCloseAs (Method zero (Close code text class method)) WithoutError = IsFalse (is_error_code code)
IsCloseAs f close = ⊥

-- no close of the server comes by a rule: one that is remembered after it was remembered before it
abbrev pub BringsNoClose : Talk → Talk → Type 0
BringsNoClose t t' = (close : ServerClose) → t'.server_close ≡ Some close → t.server_close ≡ Some close

-- how the server closed is what its close says, where frames act, and comes by no other rule
pub record RemembersClose (t : Talk) : Type 0 where
  pub said : (f : Frame) (answers : List Asked) (close : ServerClose) → IsTrue (acts t) → IsCloseAs f close →
      (on_frame f answers t).server_close ≡ Some close
  pub only : (f : Frame) (answers : List Asked) (close : ServerClose) →
      (on_frame f answers t).server_close ≡ Some close →
      (t.server_close ≡ Some close) ⊎ (IsTrue (acts t) × IsCloseAs f close)
  pub moment : (at : ℕ) → BringsNoClose t (change.present_at at t)
  pub asked : BringsNoClose t (link.asked t)
  pub linked : BringsNoClose t (link.linked t)
  pub link_failed : BringsNoClose t (link.link_failed t)
  pub piece : BringsNoClose t (link.piece t)
  pub misread : (why : Misread) → BringsNoClose t (link.misread why t)
  pub lost : (fault : IoFault) → BringsNoClose t (link.lost fault t)
  pub tick : (answers : List Asked) → BringsNoClose t (ticks.tick answers t)
  pub next_frame : (space : ℕ) → BringsNoClose t (writing.next_frame space t)
  pub taken : (n : ℕ) → BringsNoClose t (writing.taken n t)
  pub starve : BringsNoClose t (change.starve t)
  pub command : (cmd : Cmd) → BringsNoClose t (told.command cmd t)
  pub answer : (number : ℕ) → BringsNoClose t (take_answer number t)
  pub event : BringsNoClose t (take_event t)
  pub frames : (opened : ℕ) → BringsNoClose t (take_frames opened t)

-- on an open link frames act exactly until the server closed; where the session goes on without a link, no close of the
-- server is remembered
pub record KnowsClose (t : Talk) : Type 0 where
  pub acting : IsTrue (acts t) → t.server_close ≡ None
  pub closed : IsTrue (is_open t) → IsFalse (acts t) → IsSome t.server_close
  pub unlinked : IsFalse (is_open t) → IsFalse (has_ended t) → t.server_close ≡ None

-- so it stays by each rule
pub record StaysKnown (t : Talk) : Type 0 where
  pub frame : (f : Frame) (answers : List Asked) → KnowsClose (on_frame f answers t)
  pub moment : (at : ℕ) → KnowsClose (change.present_at at t)
  pub asked : KnowsClose (link.asked t)
  pub linked : KnowsClose (link.linked t)
  pub link_failed : KnowsClose (link.link_failed t)
  pub piece : KnowsClose (link.piece t)
  pub misread : (why : Misread) → KnowsClose (link.misread why t)
  pub lost : (fault : IoFault) → KnowsClose (link.lost fault t)
  pub tick : (answers : List Asked) → KnowsClose (ticks.tick answers t)
  pub next_frame : (space : ℕ) → KnowsClose (writing.next_frame space t)
  pub taken : (n : ℕ) → KnowsClose (writing.taken n t)
  pub starve : KnowsClose (change.starve t)
  pub command : (cmd : Cmd) → KnowsClose (told.command cmd t)
  pub answer : (number : ℕ) → KnowsClose (take_answer number t)
  pub event : KnowsClose (take_event t)
  pub frames : (opened : ℕ) → KnowsClose (take_frames opened t)

-- ---- ends

-- the session has ended Closed
abbrev pub IsClosedEnd : Talk → Type 0
IsClosedEnd t = end_of t ≡ Some (Ok tt)

-- after a rule the session has ended Closed exactly where it had before, or this is so
abbrev pub ClosesBy : Type 0 → Talk → Talk → Type 0
ClosesBy cause t t' = IsClosedEnd t' ↔ (IsClosedEnd t ⊎ cause)

-- a rule ends no session Closed
abbrev pub NeverCloses : Talk → Talk → Type 0
NeverCloses t t' = IsClosedEnd t' → IsClosedEnd t

-- the server did not close with an error
abbrev pub IsWithoutError : Option ServerClose → Type 0
IsWithoutError (Some (WithError e)) = ⊥
IsWithoutError _ = Unit {0}

-- our answer to the server's close is whole among so many bytes of these committed frames
abbrev pub IsFinishSent : List Mark → ℕ → Type 0
IsFinishSent [] n = ⊥
IsFinishSent (mark ∷ marks) n = (mark.left ≤ n) × ((mark.then ≡ Finish) ⊎ IsFinishSent marks (n - mark.left))

-- each rule ends the session Closed exactly for its cause, and most for none
pub record EndsClosed (t : Talk) : Type 0 where
  -- where frames act: the answer to our close
  pub frame : (f : Frame) (answers : List Asked) →
      ClosesBy (IsTrue (acts t) × (f ≡ Method 0 CloseOk) × (t.state ≡ Closing)) t (on_frame f answers t)
  -- the open link is lost after the server's close
  pub lost : (fault : IoFault) →
      ClosesBy (IsTrue (is_open t) × IsFalse (acts t) × IsWithoutError t.server_close) t (link.lost fault t)
  -- our answer to the server's close was sent
  pub taken : (n : ℕ) →
      ClosesBy (IsTrue (is_open t) × (1 ≤ n) × IsFinishSent t.committed n × IsWithoutError t.server_close) t
      (writing.taken n t)
  -- which is committed only after that close
  pub answered : (n : ℕ) → IsSound t → IsFinishSent t.committed n → IsFalse (acts t)
  pub moment : (at : ℕ) → NeverCloses t (change.present_at at t)
  pub asked : NeverCloses t (link.asked t)
  pub linked : NeverCloses t (link.linked t)
  pub link_failed : NeverCloses t (link.link_failed t)
  pub piece : NeverCloses t (link.piece t)
  pub misread : (why : Misread) → NeverCloses t (link.misread why t)
  pub tick : (answers : List Asked) → NeverCloses t (ticks.tick answers t)
  pub next_frame : (space : ℕ) → NeverCloses t (writing.next_frame space t)
  pub starve : NeverCloses t (change.starve t)
  pub command : (cmd : Cmd) → NeverCloses t (told.command cmd t)
  pub answer : (number : ℕ) → NeverCloses t (take_answer number t)
  pub event : NeverCloses t (take_event t)
  pub frames : (opened : ℕ) → NeverCloses t (take_frames opened t)
