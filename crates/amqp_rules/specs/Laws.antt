-- What the rules keep.
use Rattle.std.specs.Prelude.{◌≡◌, ◌<◌, ℕ, if◌then◌else◌, Bool, true, false, IsTrue, List, [], ◌∷◌, Some, None, Err, IsOk}
use Rattle.amqp_frame.specs.declared.frame.Frame.{Frame}
use Rattle.amqp_types.specs.declared.word.Word.TheVariants as word
use Rattle.amqp_commands.specs.declared.command.Cmd.{Cmd}
use Rattle.amqp_commands.specs.declared.command.Cmd.TheVariants.{Send, Publish}
use Rattle.amqp_promise.specs.declared.error.ErrorKind.{ErrorKind}
use Rattle.amqp_promise.specs.declared.error.ErrorKind.TheVariants.{ChannelsLimitReached, InvalidConnectionState}
use Rattle.amqp_promise.specs.declared.state.ConnectionState.{ConnectionState}
use Rattle.amqp_promise.specs.declared.state.ConnectionState.TheVariants.{Connected, Closed, Error}
use Rattle.amqp_maps.specs.Listed.{at}
use Rattle.amqp_rules.specs.Talk.{Talk, has_ended}
use Rattle.amqp_auth.specs.declared.asked.Asked.{Asked}
use Rattle.amqp_violations.specs.declared.misread.Misread.{Misread}
use Rattle.amqp_promise.specs.declared.io_fault.IoFault.{IoFault}
use Rattle.amqp_rules.specs.Changes as change
use Rattle.amqp_rules.specs.Changes.{next_promise, refuse}
use Rattle.amqp_rules.specs.Links as link
use Rattle.amqp_rules.specs.Frames.{on_frame}
use Rattle.amqp_rules.specs.Ticks as ticks
use Rattle.amqp_commands.specs.Publishing.{method_frame, publish_frames}
use Rattle.amqp_rules.specs.Commands as told
use Rattle.amqp_rules.specs.Commands.{target, too_long, waiting_with, body_limit}
use Rattle.amqp_rules.specs.Writing as writing
use Rattle.amqp_rules.specs.Answers.{take_answer, take_event, take_frames}
use Rattle.amqp_rules.specs.Sound.{IsSound}

-- the states in which a session ends
abbrev pub is_end : ConnectionState → Bool
is_end Closed = true
is_end Error = true
is_end _ = false

-- the session has ended
abbrev pub IsEnded : Talk → Type 0
IsEnded t = IsTrue (has_ended t) × IsTrue (is_end t.state)

-- nothing changes the state, but that commands which take a promise are counted, each refused, and that answers, events
-- and frames are taken
pub record IsOver (t : Talk) : Type 0 where
  pub moment : (at : ℕ) → change.present_at at t ≡ t
  pub asked : link.asked t ≡ t
  pub linked : link.linked t ≡ t
  pub link_failed : link.link_failed t ≡ t
  pub piece : link.piece t ≡ t
  pub frame : (f : Frame) (answers : List Asked) → on_frame f answers t ≡ t
  pub misread : (why : Misread) → link.misread why t ≡ t
  pub lost : (fault : IoFault) → link.lost fault t ≡ t
  pub tick : (answers : List Asked) → ticks.tick answers t ≡ t
  pub next_frame : (space : ℕ) → writing.next_frame space t ≡ t
  pub taken : (n : ℕ) → writing.taken n t ≡ t
  pub starve : change.starve t ≡ t
  pub command : (cmd : Cmd) →
      told.command cmd t ≡ (if told.takes_promise cmd then refuse (InvalidConnectionState t.state) t else t)
  pub answer : (number : ℕ) → take_answer number t ≡ record t { promises = (take_answer number t).promises }
  pub event : take_event t ≡ record t { noted = (take_event t).noted }
  pub frames : (opened : ℕ) → take_frames opened t ≡ record t { handed = (take_frames opened t).handed }

-- the promises alone change: one more is made, which is answered with this error
abbrev pub IsRefused : ErrorKind → Talk → Talk → Type 0
IsRefused e before after = after ≡ refuse e before

-- the promise that a command takes is answered at once with this error
abbrev pub IsAnsweredAtOnce : ErrorKind → Talk → Talk → Type 0
IsAnsweredAtOnce e before after = at (next_promise before) after.promises ≡ Some (Some (Err e))

-- a refused command changes the promises alone; where every number is listed, the cursor goes on too
abbrev pub IsRefusal : ErrorKind → Talk → Talk → Type 0
IsRefusal ChannelsLimitReached before after =
    after ≡ record (refuse ChannelsLimitReached before) { cursor = after.cursor }
IsRefusal e before after = IsRefused e before after

-- the frames of a command that sends or publishes; no other has any
abbrev pub frames_of_command : Cmd → Talk → List Frame
frames_of_command (Send r method) t = method_frame r.id method ∷ []
frames_of_command (Publish r method properties body) t = publish_frames r.id method properties body (body_limit t)
frames_of_command _ t = []

-- a command sends or publishes on a channel that is open
abbrev pub IsSentWhereOpen : Cmd → Talk → Type 0
IsSentWhereOpen (Send r method) t = IsOk (target r word.Send t)
IsSentWhereOpen (Publish r method properties body) t = IsOk (target r word.Publish t)
IsSentWhereOpen _ t = ⊥

-- a command makes too much wait, so many octets
pub record IsOutboxFull (octets : ℕ) (c : Cmd) (t : Talk) : Type 0 where
  -- it sends or publishes, while the connection and its channel are open
  pub connected : t.state ≡ Connected
  pub channel : IsSentWhereOpen c t
  -- none of its frames is too long
  pub fits : too_long (frames_of_command c t) t ≡ None
  -- so many octets would wait with its frames
  pub counted : octets ≡ waiting_with (frames_of_command c t) t
  -- a limit was set, and they are more
  pub above : (limit : ℕ) × (t.config.options.outbox_limit ≡ Some limit) × (limit < octets)

-- each rule leads to a sound state
pub record StaysSound (t : Talk) : Type 0 where
  pub moment : (at : ℕ) → IsSound (change.present_at at t)
  pub asked : IsSound (link.asked t)
  pub linked : IsSound (link.linked t)
  pub link_failed : IsSound (link.link_failed t)
  pub piece : IsSound (link.piece t)
  pub frame : (f : Frame) (answers : List Asked) → IsSound (on_frame f answers t)
  pub misread : (why : Misread) → IsSound (link.misread why t)
  pub lost : (fault : IoFault) → IsSound (link.lost fault t)
  pub tick : (answers : List Asked) → IsSound (ticks.tick answers t)
  pub next_frame : (space : ℕ) → IsSound (writing.next_frame space t)
  pub taken : (n : ℕ) → IsSound (writing.taken n t)
  pub starve : IsSound (change.starve t)
  pub command : (cmd : Cmd) → IsSound (told.command cmd t)
  pub answer : (number : ℕ) → IsSound (take_answer number t)
  pub event : IsSound (take_event t)
  pub frames : (opened : ℕ) → IsSound (take_frames opened t)
