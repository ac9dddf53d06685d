-- What brings about that a session ends with an error, from which it does not recover.
use Rattle.std.specs.Prelude.{◌≡◌, ◌⊎◌, ℕ, ◌-◌, nat_le, if◌then◌else◌, ◌||◌, ◌&&◌, Bool, true, false, IsTrue, List, [], ◌∷◌, ◌++◌, map, Option, Some, None, is_some, is_none, Result, Err}
use Rattle.amqp_types.specs.declared.error.AMQPError.{AMQPError}
use Rattle.amqp_frame.specs.declared.frame.Read.{Read}
use Rattle.amqp_frame.specs.declared.frame.Read.TheVariants as reading
use Rattle.amqp_outgoing.specs.declared.committed.Mark.{Mark}
use Rattle.amqp_promise.specs.declared.io_fault.IoFault.{IoFault}
use Rattle.amqp_promise.specs.declared.io_fault.IoFault.TheVariants.{Aborted, Refused, Reset, BrokenPipe}
use Rattle.amqp_violations.specs.declared.server_close.ServerClose.TheVariants.{WithError}
use Rattle.amqp_promise.specs.declared.error.ErrorKind.{ErrorKind}
use Rattle.amqp_promise.specs.declared.error.ErrorKind.TheVariants.{IOError, MissingHeartbeatError, NoMemory, ParsingError, ProtocolError, SerialisationError}
use Rattle.amqp_auth.specs.declared.asked.Asked.{Asked}
use Rattle.amqp_rules.specs.Talk.{Talk, is_acting, is_asked, is_open, end_of}
use Rattle.amqp_rules.specs.Changes.{present_at}
use Rattle.amqp_rules.specs.Recovery.{next_delay, recovery_delay}
use Rattle.amqp_rules.specs.Causes.{IsFrameError}
use Rattle.amqp_rules.specs.Sound.{is_finish}
use Rattle.amqp_rules.specs.Ticks.{is_missed}
use Rattle.amqp_violations.specs.Violations.{frame_too_large, stray_heartbeat}
use Rattle.amqp_engine.specs.declared.port.Step.{Step}
use Rattle.amqp_engine.specs.declared.port.Step.TheVariants.{LinkFailed, End, Fault, Tick}
use Rattle.amqp_engine.specs.declared.port.Wrote.{Wrote}
use Rattle.amqp_engine.specs.declared.port.Wrote.TheVariants.{Took, Failed, NoMemory as WroteNoMemory}
use Rattle.amqp_engine.specs.Engine.{Engine, front_of, can_read, commit_all, overlong_next}
use Rattle.amqp_engine.specs.Turn.{Turn, write_answers, Progress, asks, begun, drain, goes, is_piece, read, reads, step_part, turns}

-- ---- faults

-- the fault that an error is, if it is one
abbrev pub fault_in : ErrorKind → Option IoFault
fault_in (IOError fault) = Some fault
fault_in _ = None

-- the same of an end
abbrev pub fault_at : Option (Result (Unit {0}) ErrorKind) → Option IoFault
fault_at (Some (Err e)) = fault_in e
fault_at _ = None

-- the fault by which a session ended, if it ended by one
abbrev pub fault_of : Talk → Option IoFault
fault_of t = fault_at (end_of t)

-- a port counts a fault of its link, but that its input ended
abbrev pub is_counted : IoFault → Bool
is_counted Aborted = false
is_counted _ = true

-- where the link is lost by this error, the session does not recover
abbrev pub is_final : ErrorKind → Talk → Bool
is_final k t = is_none (recovery_delay k t)

-- the fault by which a step ends a session: that of the link that was asked for, where no delay is left, or that of the
-- open one, where the session does not recover
abbrev pub brought : Step → Talk → Option IoFault
brought LinkFailed t = if is_asked t && is_none (next_delay t) then Some Refused else None
brought End t = if is_open t && is_final (IOError Aborted) t then Some Aborted else None
brought Fault t = if is_open t && is_final (IOError Reset) t then Some Reset else None
brought _ t = None

-- the last write of a turn failed, and the session does not recover
abbrev pub FailsToWrite : Turn → Engine → Type 0
FailsToWrite u e =
    IsTrue u.notes.failed
    × IsTrue (is_final (IOError BrokenPipe) (drain (map Took u.notes.tooks) (read u e)).engine.talk)

-- a turn brings about a fault: its step brings it, or its last write failed
abbrev pub IsFaultOf : IoFault → Turn → Engine → Type 0
IsFaultOf fault u e = (brought u.step e.talk ≡ Some fault) ⊎ ((fault ≡ BrokenPipe) × FailsToWrite u e)

-- ---- what is read

-- the link is lost by this error, by what stands at the front of the unread bytes, which acts only before the server's
-- close, with what the provider answers to what it asks: a frame; 501 for one that is too large, and for a heartbeat on
-- another channel than 0
abbrev pub IsReadError : ErrorKind → Read → List Asked → Engine → Type 0
IsReadError k (reading.Whole f n) answers x = IsTrue (is_acting x.talk.input) × IsFrameError k f answers x.talk
IsReadError k (reading.TooLarge size) answers x = IsTrue (is_acting x.talk.input) × (k ≡ frame_too_large size)
IsReadError k (reading.BadHeartbeat channel) answers x = IsTrue (is_acting x.talk.input) × (k ≡ stray_heartbeat channel)
IsReadError k reading.Bad answers x = IsTrue (is_acting x.talk.input) × (k ≡ ParsingError x.place)
IsReadError k _ answers x = ⊥

-- a turn when so many frames of its piece were read
abbrev pub after_frames : ℕ → Turn → Engine → Progress
after_frames n u e = reads n (step_part u.step u.bytes (begun u.at u.notes.starved u.notes.auths e))

-- a turn reads what brings this error
pub record Misreads (error : ErrorKind) (u : Turn) (e : Engine) : Type 0 where
  pub piece : IsTrue (is_piece u.step)
  -- so many frames of the piece are read before
  pub before : ℕ
  -- then the turn is not cut
  pub goes_on : IsTrue (goes (after_frames before u e))
  -- the link is open, and there is what can be read
  pub readable : IsTrue (can_read (after_frames before u e).engine)
  -- it brings the error
  pub error_read :
      let p = after_frames before u e in IsReadError error (front_of p.engine) p.answers p.engine
  -- and the session does not recover
  pub final : IsTrue (is_final error (after_frames before u e).engine.talk)

-- ---- the server's close

-- close-ok is among the committed frames whose last byte is among so many bytes
abbrev pub sends_close_ok : ℕ → List Mark → Bool
sends_close_ok n [] = false
sends_close_ok n (m ∷ ms) = nat_le m.left n && (is_finish m.«then» || sends_close_ok (n - m.left) ms)

-- a write that is answered so is the last: it sends close-ok, or the link is lost
abbrev pub is_last : Wrote → Engine → Bool
is_last Failed x = true
is_last (Took k) x = sends_close_ok k x.talk.committed
is_last WroteNoMemory x = false

-- a step that loses an open link
abbrev pub is_loss : Step → Bool
is_loss End = true
is_loss Fault = true
is_loss _ = false

-- the server closed with this error, and the step loses the link, without which the session does not go on
pub record LosesClosed (error : AMQPError) (step : Step) (e : Engine) : Type 0 where
  pub loss : IsTrue (is_loss step)
  pub opened : IsTrue (is_open e.talk)
  pub closed : e.talk.server_close ≡ Some (WithError error)
  pub final : IsTrue (is_final (ProtocolError error) e.talk)

-- the server closed with this error, and a write of the turn is the last, after which the session does not go on
pub record WritesLast (error : AMQPError) (u : Turn) (e : Engine) : Type 0 where
  -- the answers to the writes before, to this one, and to those after it
  pub before : List Wrote
  pub answer : Wrote
  pub after : List Wrote
  pub answers : write_answers u.notes ≡ before ++ answer ∷ after
  pub last : IsTrue (is_last answer (commit_all (drain before (read u e)).engine))
  pub closed : (drain before (read u e)).engine.talk.server_close ≡ Some (WithError error)
  pub final : IsTrue (is_final (ProtocolError error) (drain before (read u e)).engine.talk)

-- ---- time, and what can't go out

-- a tick
abbrev pub is_tick : Step → Bool
is_tick Tick = true
is_tick _ = false

-- a tick at which nothing was read for too long, and the session does not recover
abbrev pub IsSilence : Turn → Engine → Type 0
IsSilence u e =
    IsTrue (is_tick u.step) × IsTrue (is_missed (present_at u.at e.talk))
    × IsTrue (is_final MissingHeartbeatError e.talk)

-- after its writes a turn goes on, and the frame that is next is longer than the whole capacity
pub record IsOverlong (size : ℕ) (u : Turn) (e : Engine) : Type 0 where
  pub goes_on : IsTrue (goes (drain (write_answers u.notes) (read u e)))
  pub next : overlong_next (drain (write_answers u.notes) (read u e)).engine ≡ Some size

-- ---- the turn that ends a session

-- a turn brings about this error, from its step on
abbrev pub IsCause : ErrorKind → Turn → Engine → Type 0
IsCause (IOError fault) u e = IsFaultOf fault u e
IsCause (ProtocolError error) u e =
    Misreads (ProtocolError error) u e ⊎ LosesClosed error u.step e ⊎ WritesLast error u e
IsCause MissingHeartbeatError u e = IsSilence u e
IsCause (SerialisationError size) u e = IsOverlong size u e
IsCause NoMemory u e = IsTrue (is_some u.notes.starved)
IsCause k u e = Misreads k u e

-- of these turns the last brings about this error
pub record IsCaused (k : ErrorKind) (us : List Turn) (e : Engine) : Type 0 where
  -- the turns before the last, and the last
  pub before : List Turn
  pub last : Turn
  pub split : us ≡ before ++ last ∷ []
  pub cause : IsCause k last (asks (turns before e))
