-- What each rule leaves of the promises that were made: an answer that was given stays until it is taken, and a promise
-- that waits goes on to wait or is answered. The tables below say which promise each rule answers, and with what: no
-- other is answered, and each of these is, where it waits (AMQP 0-9-1, 1.4 and 1.5 of its reference).
use Rattle.std.specs.Prelude.{◌≡◌, ◌≢◌, ◌⊎◌, ◌≤◌, ◌-◌, ℕ, zero, suc, List, [], ◌∷◌, filter, map, Option, Some, None, Result, Ok, Err, IsTrue, IsFalse, IsSome, IsOk}
use Rattle.amqp_types.specs.declared.word.Word.TheVariants as word
use Rattle.amqp_types.specs.declared.error.AMQPError.{AMQPError}
use Rattle.amqp_frame.specs.declared.frame.Frame.{Frame}
use Rattle.amqp_frame.specs.declared.frame.Frame.TheVariants.{Method}
use Rattle.amqp_frame.specs.declared.method.Method.{Method as AnyMethod}
use Rattle.amqp_frame.specs.declared.method.Method.TheVariants.{OpenOk, CloseOk, UpdateSecretOk, ChannelOpenOk, ChannelClose, ChannelCloseOk, ChannelFlowOk}
use Rattle.amqp_outbox.specs.declared.reply.Reply.TheVariants.{ChannelOpened, ChannelClosed, FlowDone, SecretDone, ConnectionClosed}
use Rattle.amqp_outbox.specs.Items.{promise_of_group}
use Rattle.amqp_outbox.specs.Queued.{Queued, awaited_promise, without_awaited, is_on}
use Rattle.amqp_promise.specs.declared.io_fault.IoFault.{IoFault}
use Rattle.amqp_promise.specs.declared.state.ConnectionState.TheVariants as connection
use Rattle.amqp_promise.specs.declared.state.ChannelState.TheVariants as channel
use Rattle.amqp_promise.specs.declared.error.ErrorKind.{ErrorKind}
use Rattle.amqp_promise.specs.declared.error.ErrorKind.TheVariants.{IOError, InvalidChannelState, InvalidConnectionState, MissingHeartbeatError, ProtocolError, SerialisationError}
use Rattle.amqp_auth.specs.declared.asked.Asked.{Asked}
use Rattle.amqp_channels.specs.declared.channels.Channel.{Channel}
use Rattle.amqp_channels.specs.declared.channels.Debt.TheVariants.{Nothing}
use Rattle.amqp_answers.specs.declared.answer.Answer.{Answer}
use Rattle.amqp_answers.specs.declared.answer.Answer.TheVariants.{Connected, Channel as Opened, Done, Flow, Sent}
use Rattle.amqp_commands.specs.declared.command.ChanRef.{ChanRef}
use Rattle.amqp_commands.specs.declared.command.Cmd.{Cmd}
use Rattle.amqp_commands.specs.declared.command.Cmd.TheVariants.{CloseChannel, CloseConnection, DropChannel, DropConnection}
use Rattle.amqp_outgoing.specs.declared.committed.Mark.{Mark}
use Rattle.amqp_outgoing.specs.declared.committed.Then.TheVariants.{Answer as Answers}
use Rattle.amqp_violations.specs.declared.misread.Misread.{Misread}
use Rattle.amqp_violations.specs.declared.server_close.ServerClose.TheVariants.{WithError}
use Rattle.amqp_rules.specs.declared.state.Phase.TheVariants.{AwaitOpenOk}
use Rattle.amqp_maps.specs.Listed.{at}
use Rattle.amqp_rules.specs.Talk.{Talk, acts, is_open}
use Rattle.amqp_rules.specs.Channels.{channel_at}
use Rattle.amqp_violations.specs.Violations.{channel_closed_with, misread_error}
use Rattle.amqp_rules.specs.Causes.{IsFrameError}
use Rattle.amqp_rules.specs.Changes as change
use Rattle.amqp_rules.specs.Changes.{promises_on, replies_on}
use Rattle.amqp_rules.specs.Links as link
use Rattle.amqp_rules.specs.Frames.{on_frame}
use Rattle.amqp_rules.specs.Ticks as ticks
use Rattle.amqp_rules.specs.Commands as told
use Rattle.amqp_rules.specs.Commands.{takes_promise, target}
use Rattle.amqp_rules.specs.Writing as writing
use Rattle.amqp_rules.specs.Answers.{answer_of, take_answer, take_event, take_frames}

-- what a state holds of a promise: nothing, where it was not made or its answer was taken; that it waits; or its answer
abbrev pub Held : Type 0
Held = Option (Option (Result Answer ErrorKind))

-- a promise is as it was, or it waited and has this for an answer
abbrev pub IsSettledFor : (Result Answer ErrorKind → Type 0) → Held → Held → Type 0
IsSettledFor Given before after =
    (after ≡ before)
    ⊎ ((before ≡ Some None)
    × ((answer : Result Answer ErrorKind) × (after ≡ Some (Some answer)) × Given answer))

-- so is each promise, by its number, and none is made
pub record SettlesFor (Given : ℕ → Result Answer ErrorKind → Type 0) (t t' : Talk) : Type 0 where
  pub each : (number : ℕ) → IsSettledFor (Given number) (at number t.promises) (at number t'.promises)
  pub made : t'.made ≡ t.made

-- no promise changes
pub record LeavesPromises (t t' : Talk) : Type 0 where
  pub same : t'.promises ≡ t.promises
  pub made : t'.made ≡ t.made

-- a promise waits
abbrev pub IsWaiting : ℕ → Talk → Type 0
IsWaiting number t = at number t.promises ≡ Some None

-- a promise has an answer
abbrev pub HasAnswer : ℕ → Talk → Type 0
HasAnswer number t = (answer : Result Answer ErrorKind) × (at number t.promises ≡ Some (Some answer))

-- a number is among those that are named
abbrev pub IsNamed : ℕ → List (Option ℕ) → Type 0
IsNamed number [] = ⊥
IsNamed number (named ∷ others) = (named ≡ Some number) ⊎ IsNamed number others

-- ---- what frames answer

-- a method of the channel class on a listed channel: what it replies to is answered; with the server's close all goes
-- that goes with the channel, and with its reply to our close what else is awaited there, each with an error
abbrev pub IsChannelAnswer : ℕ → Channel → AnyMethod → Queued → ℕ → Result Answer ErrorKind → Type 0
IsChannelAnswer n c ChannelOpenOk q number (Ok answer) =
    (awaited_promise n ChannelOpened q ≡ Some (Some number)) × (answer ≡ Opened n c.opened)
IsChannelAnswer n c ChannelCloseOk q number (Ok answer) =
    (awaited_promise n ChannelClosed q ≡ Some (Some number)) × (answer ≡ Done)
IsChannelAnswer n c ChannelCloseOk q number (Err error) =
    IsSome (awaited_promise n ChannelClosed q)
    × IsNamed number (replies_on n (without_awaited n ChannelClosed q))
    × (error ≡ InvalidChannelState channel.Closed word.ChannelCloseOkReceived)
IsChannelAnswer n c (ChannelFlowOk active) q number (Ok answer) =
    (awaited_promise n FlowDone q ≡ Some (Some number)) × (answer ≡ Flow active)
IsChannelAnswer n c (ChannelClose code text class method) q number (Err error) =
    (c.debt ≡ Nothing) × IsFalse c.awaits_close_ok
    × IsNamed number (promises_on n q) × (error ≡ channel_closed_with code text)
IsChannelAnswer n c method q number given = ⊥

-- a method of the connection class: the connection's own promise is answered once it is open, and what the others reply
-- to is done
abbrev pub IsConnectionAnswer : AnyMethod → Talk → ℕ → Result Answer ErrorKind → Type 0
IsConnectionAnswer OpenOk t number (Ok answer) =
    (t.state ≡ connection.Connecting) × (t.phase ≡ AwaitOpenOk) × (number ≡ 0) × (answer ≡ Connected)
IsConnectionAnswer CloseOk t number (Ok answer) =
    (t.state ≡ connection.Closing)
    × (awaited_promise 0 ConnectionClosed t.outbox ≡ Some (Some number)) × (answer ≡ Done)
IsConnectionAnswer UpdateSecretOk t number (Ok answer) =
    (t.state ≡ connection.Connected)
    × (awaited_promise 0 SecretDone t.outbox ≡ Some (Some number)) × (answer ≡ Done)
IsConnectionAnswer method t number given = ⊥

-- a frame answers a promise: on a channel once the connection is open, and before our close of the connection
abbrev pub IsReplied : Frame → Talk → ℕ → Result Answer ErrorKind → Type 0
IsReplied (Method zero m) t number given = IsConnectionAnswer m t number given
IsReplied (Method (suc n) m) t number given =
    (t.state ≢ connection.Connecting) × (t.state ≢ connection.Closing)
    × ((c : Channel) × (channel_at (suc n) t ≡ Some c) × IsChannelAnswer (suc n) c m t.outbox number given)
IsReplied frame t number given = ⊥

-- ---- what a loss answers

-- a link that is lost for this reason answers all but the connection's own promise, with that error
abbrev pub IsLost : (ErrorKind → Type 0) → ℕ → Result Answer ErrorKind → Type 0
IsLost reason number (Ok answer) = ⊥
IsLost reason number (Err error) = (number ≢ 0) × reason error

-- the link is lost after the server's close, by the error with which that came
abbrev pub IsServerClose : Talk → ErrorKind → Type 0
IsServerClose t error = (e : AMQPError) × (t.server_close ≡ Some (WithError e)) × (error ≡ ProtocolError e)

-- a frame answers a promise that it replies to, or that goes with what it closes; or the link is lost by it
abbrev pub IsFrameAnswer : Frame → List Asked → Talk → ℕ → Result Answer ErrorKind → Type 0
IsFrameAnswer f answers t number given =
    IsReplied f t number given ⊎ IsLost (λ error. IsFrameError error f answers t) number given

-- ---- what else answers

-- so many bytes were taken: each frame whose last byte is among them answers its promise
abbrev pub IsSent : List Mark → ℕ → ℕ → Result Answer ErrorKind → Type 0
IsSent [] n number given = ⊥
IsSent (mark ∷ marks) n number given =
    (mark.left ≤ n)
    × (((mark.then ≡ Answers number) × (given ≡ Ok Sent)) ⊎ IsSent marks (n - mark.left) number given)

-- so many bytes were taken: those, and once the server's close is answered, the link is lost
abbrev pub IsTakenAnswer : ℕ → Talk → ℕ → Result Answer ErrorKind → Type 0
IsTakenAnswer n t number given = IsSent t.committed n number given ⊎ IsLost (IsServerClose t) number given

-- our close of a channel that is open lets its groups go that have not begun
abbrev pub IsLetGoOn : ChanRef → Talk → ℕ → ErrorKind → Type 0
IsLetGoOn r t number error =
    (t.state ≡ connection.Connected) × IsOk (target r word.ChannelClose t)
    × IsNamed number (map promise_of_group (filter (is_on r.id) t.outbox.publish))
    × (error ≡ InvalidChannelState channel.Closing word.ChannelClose)

-- our close of the connection lets all groups go that have not begun
abbrev pub IsLetGoAll : Talk → ℕ → ErrorKind → Type 0
IsLetGoAll t number error =
    (t.state ≡ connection.Connected) × IsNamed number (map promise_of_group t.outbox.publish)
    × (error ≡ InvalidConnectionState connection.Closing)

-- a command lets promises that wait go, each with an error
abbrev pub IsLetGo : Cmd → Talk → ℕ → Result Answer ErrorKind → Type 0
IsLetGo (CloseChannel r code text) t number (Err error) = IsLetGoOn r t number error
IsLetGo (DropChannel r) t number (Err error) = IsLetGoOn r t number error
IsLetGo (CloseConnection code text) t number (Err error) = IsLetGoAll t number error
IsLetGo DropConnection t number (Err error) = IsLetGoAll t number error
IsLetGo cmd t number given = ⊥

-- ---- the rules

-- each rule settles the promises of its table alone, and keeps those that are answered; what is taken goes
pub record KeepsPromises (t : Talk) : Type 0 where
  pub moment : (at : ℕ) → LeavesPromises t (change.present_at at t)
  pub asked : LeavesPromises t (link.asked t)
  pub linked : LeavesPromises t (link.linked t)
  pub link_failed : LeavesPromises t (link.link_failed t)
  pub piece : LeavesPromises t (link.piece t)
  pub starve : LeavesPromises t (change.starve t)
  pub event : LeavesPromises t (take_event t)
  pub frames : (opened : ℕ) → LeavesPromises t (take_frames opened t)
  pub frame : (f : Frame) (answers : List Asked) →
      SettlesFor (IsFrameAnswer f answers t) t (on_frame f answers t)
  -- where frames act, each promise that a frame answers by the table has an answer after it
  pub replied : (f : Frame) (answers : List Asked) (number : ℕ) (given : Result Answer ErrorKind) → IsTrue (acts t) →
      IsReplied f t number given → IsWaiting number t → HasAnswer number (on_frame f answers t)
  pub misread : (why : Misread) → SettlesFor (IsLost (λ error. error ≡ misread_error why)) t (link.misread why t)
  pub lost : (fault : IoFault) →
      SettlesFor (IsLost (λ error. (error ≡ IOError fault) ⊎ IsServerClose t error)) t (link.lost fault t)
  pub tick : (answers : List Asked) →
      SettlesFor (IsLost (λ error. error ≡ MissingHeartbeatError)) t (ticks.tick answers t)
  pub next_frame : (space : ℕ) →
      SettlesFor
      (IsLost (λ error. (size : ℕ) × (writing.overlong t ≡ Some size) × (error ≡ SerialisationError size))) t
      (writing.next_frame space t)
  pub taken : (n : ℕ) → SettlesFor (IsTakenAnswer n t) t (writing.taken n t)
  -- where the link is still open then, each promise of a frame that was sent has an answer
  pub sent : (n number : ℕ) (given : Result Answer ErrorKind) → IsTrue (is_open (writing.taken n t)) → 1 ≤ n →
      IsSent t.committed n number given → IsWaiting number t → HasAnswer number (writing.taken n t)
  -- beside the promise that a command takes
  pub command : (cmd : Cmd) (number : ℕ) → number ≢ t.made →
      IsSettledFor (IsLetGo cmd t number) (at number t.promises) (at number (told.command cmd t).promises)
  -- and each that it lets go has an answer
  pub left : (cmd : Cmd) (number : ℕ) (given : Result Answer ErrorKind) → number ≢ t.made →
      IsLetGo cmd t number given → IsWaiting number t → HasAnswer number (told.command cmd t)
  -- a command that takes no promise makes none
  pub unmade : (cmd : Cmd) → IsFalse (takes_promise cmd) → SettlesFor (IsLetGo cmd t) t (told.command cmd t)
  -- beside the promise whose answer is taken
  pub answer : (number other : ℕ) → other ≢ number →
      at other (take_answer number t).promises ≡ at other t.promises
  pub answer_makes : (number : ℕ) → (take_answer number t).made ≡ t.made
  -- where there is none to take, nothing changes
  pub unanswered : (number : ℕ) → answer_of number t ≡ None → take_answer number t ≡ t
