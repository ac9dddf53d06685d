-- What each rule leaves of what waited: all of it, but where a link is lost or new, where the server closes, and where
-- a channel or the connection is closed.
use Rattle.std.specs.Prelude.{◌≡◌, ◌≢◌, ◌⊎◌, ◌&&◌, not, ℕ, zero, suc, if◌then◌else◌, Bool, true, false, IsTrue, IsFalse, List, [], ◌∷◌, ◌++◌, Option, Some, None, Ok, Err}
use Rattle.amqp_types.specs.declared.word.Word.TheVariants as word
use Rattle.amqp_frame.specs.declared.frame.Frame.{Frame}
use Rattle.amqp_frame.specs.declared.frame.Frame.TheVariants.{Method}
use Rattle.amqp_frame.specs.declared.method.Method.{Method as AnyMethod}
use Rattle.amqp_frame.specs.declared.method.Method.TheVariants.{Start, Secure, Tune, OpenOk, Close, ChannelFlow, ChannelClose}
use Rattle.amqp_outbox.specs.declared.item.Item.{Item}
use Rattle.amqp_outbox.specs.Items.{plain_item}
use Rattle.amqp_outbox.specs.Queued.{Queued, nothing_queued, waiting_items}
use Rattle.amqp_auth.specs.declared.asked.Asked.{Asked}
use Rattle.amqp_auth.specs.declared.asked.Asked.TheVariants as answer
use Rattle.amqp_promise.specs.declared.state.ConnectionState.{ConnectionState}
use Rattle.amqp_promise.specs.declared.state.ConnectionState.TheVariants.{Connecting, Connected, Closing, Reconnecting}
use Rattle.amqp_promise.specs.declared.state.ChannelState.{ChannelState}
use Rattle.amqp_promise.specs.declared.state.ChannelState.TheVariants as channel
use Rattle.amqp_promise.specs.declared.error.ErrorKind.{ErrorKind}
use Rattle.amqp_promise.specs.declared.io_fault.IoFault.{IoFault}
use Rattle.amqp_channels.specs.declared.channels.Channel.{Channel}
use Rattle.amqp_channels.specs.declared.channels.Debt.{Debt}
use Rattle.amqp_channels.specs.declared.channels.Debt.TheVariants as debt
use Rattle.amqp_commands.specs.declared.command.Cmd.{Cmd}
use Rattle.amqp_commands.specs.declared.command.Cmd.TheVariants.{CloseChannel, CloseConnection, DropChannel, DropConnection, Listen}
use Rattle.amqp_violations.specs.declared.misread.Misread.{Misread}
use Rattle.amqp_rules.specs.declared.state.Phase.{Phase}
use Rattle.amqp_rules.specs.declared.state.Phase.TheVariants.{AwaitStart, AwaitTune, AwaitOpenOk}
use Rattle.amqp_rules.specs.Talk.{Talk, acts, is_asked}
use Rattle.amqp_settings.specs.Handshake.{protocol_header}
use Rattle.amqp_rules.specs.Channels.{channel_at}
use Rattle.amqp_rules.specs.Changes as change
use Rattle.amqp_rules.specs.Changes.{without_groups_of, without_groups, without_all_on}
use Rattle.amqp_rules.specs.Links as link
use Rattle.amqp_rules.specs.Frames.{on_frame}
use Rattle.amqp_rules.specs.Commands as told
use Rattle.amqp_rules.specs.Commands.{target}
use Rattle.amqp_rules.specs.Laws.{IsAnsweredAtOnce}
use Rattle.amqp_rules.specs.Ticks as ticks
use Rattle.amqp_rules.specs.Ticks.{is_missed}
use Rattle.amqp_rules.specs.Writing as writing
use Rattle.amqp_rules.specs.Writing.{next_within}
use Rattle.amqp_queued_rules.specs.Queued.{reply_to, told_by, published_by, told_in_time}

-- what was left of what waited still waits, in its order; behind it in the control lane these frames, and in the
-- publish lane these groups; and nothing else
pub record GainsBehind (frames : List Item) (groups : List (List Item)) (left after : Queued) : Type 0 where
  pub control : after.control ≡ left.control ++ frames
  pub publish : after.publish ≡ left.publish ++ groups
  pub begun : after.begun ≡ left.begun

-- all that waited still waits, and nothing else
abbrev pub Stays : Queued → Queued → Type 0
Stays before after = GainsBehind [] [] before after

-- the link is lost, and the session waits for another: nothing waits
pub record DropsAll (t' : Talk) : Type 0 where
  pub state : t'.state ≡ Reconnecting
  pub nothing : t'.outbox ≡ nothing_queued

-- all stays, and the session does not come to wait for another link; or the link is lost
abbrev pub StaysOrDrops : Talk → Talk → Type 0
StaysOrDrops t t' =
    (Stays t.outbox t'.outbox × (t'.state ≡ Reconnecting → t.state ≡ Reconnecting)) ⊎ DropsAll t'

-- ---- what is left where a rule adds its frames

-- we closed a listed channel, and await the close-ok
abbrev pub is_left : Option Channel → Bool
is_left None = false
is_left (Some c) = c.awaits_close_ok

-- where a frame is replied to: nothing after the server's close; and after its close of a channel, which we did not
-- close too, nothing that goes with that channel
abbrev pub left_by_frame : Frame → Talk → Queued
left_by_frame (Method zero (Close code text class method)) t = nothing_queued
left_by_frame (Method (suc n) (ChannelClose code text class method)) t =
    if is_left (channel_at (suc n) t) then t.outbox else without_all_on (suc n) t.outbox
left_by_frame f t = t.outbox

-- where a command is told: after a close no group that has not begun, of the channel or of any
abbrev pub left_by_command : Cmd → Queued → Queued
left_by_command (CloseChannel r code text) q = without_groups_of r.id q
left_by_command (DropChannel r) q = without_groups_of r.id q
left_by_command (CloseConnection code text) q = without_groups q
left_by_command DropConnection q = without_groups q
left_by_command c q = q

-- ---- where a frame is replied to

-- these frames are added to what is left; or, where they are not due, all stays or the link is lost
abbrev pub AddsWhere : Bool → List Item → Queued → Talk → Talk → Type 0
AddsWhere true frames left t t' = GainsBehind frames [] left t'.outbox
AddsWhere false frames left t t' = StaysOrDrops t t'

-- a channel on which flow is answered: neither side closed it
abbrev pub answers_flow : ChannelState → Bool
answers_flow channel.Closing = false
answers_flow _ = true

-- a channel on which the server's close is answered, by what is owed: it did not close it before
abbrev pub answers_close : Debt → Bool
answers_close debt.Nothing = true
answers_close _ = false

-- what the provider says in reply to start
abbrev pub says_start : List Asked → Bool
says_start (answer.Mechanism mechanism ∷ answer.Starter (Ok response) ∷ later) = true
says_start _ = false

-- what the provider says in reply to a challenge
abbrev pub says_secure : List Asked → Bool
says_secure (answer.Challenge (Ok response) ∷ later) = true
says_secure _ = false

-- a method of the connection class is replied to, by the state and by what the handshake awaits: each of the handshake
-- in its turn, where the provider has what to say, and close at any time (AMQP 0-9-1, 2.2.4)
abbrev pub is_replied_on_0 : ConnectionState → Phase → AnyMethod → List Asked → Bool
is_replied_on_0 state phase (Close code text class method) answers = true
is_replied_on_0 Connecting AwaitStart (Start major minor properties mechanisms locales) answers = says_start answers
is_replied_on_0 Connecting AwaitTune (Secure challenge) answers = says_secure answers
is_replied_on_0 Connecting AwaitTune (Tune channel_max frame_max heartbeat) answers = true
is_replied_on_0 Connecting AwaitOpenOk OpenOk answers = true
is_replied_on_0 state phase method answers = false

-- a method of the channel class is replied to, by the listed channel that it comes on: flow and close are, once the
-- connection is open, and before our close of the connection
abbrev pub is_replied_on : ConnectionState → Option Channel → AnyMethod → Bool
is_replied_on Connecting o method = false
is_replied_on Closing o method = false
is_replied_on state (Some c) (ChannelFlow active) = answers_flow c.state
is_replied_on state (Some c) (ChannelClose code text class method) = answers_close c.debt
is_replied_on state o method = false

-- a frame that acts is replied to
abbrev pub is_replied : Frame → List Asked → Talk → Bool
is_replied (Method zero m) answers t = is_replied_on_0 t.state t.phase m answers
is_replied (Method (suc n) m) answers t = is_replied_on t.state (channel_at (suc n) t) m
is_replied f answers t = false

-- ---- where a command is obeyed

-- nothing is told: the promise that a command takes is answered at once with an error; and where it takes none, the
-- connection is not open, or the channel that it lets go is not
abbrev pub IsUntold : Cmd → Talk → Talk → Type 0
IsUntold (DropChannel r) t t' =
    (t.state ≢ Connected) ⊎ ((e : ErrorKind) × (target r word.ChannelClose t ≡ Err e))
IsUntold DropConnection t t' = t.state ≢ Connected
IsUntold Listen t t' = Unit {0}
IsUntold c t t' = (e : ErrorKind) × IsAnsweredAtOnce e t t'

-- the frame that is next, where it fits, and no other is gone, and the others wait in the order in which they did
abbrev pub GoesOut : Option Item → Queued → Queued → Type 0
GoesOut None before after = Stays before after
GoesOut (Some item) before after = waiting_items before ≡ item ∷ waiting_items after

-- ---- each rule

-- each rule adds its own frames to what it leaves, exactly where they are due, and else leaves what waits as it is, or
-- loses the link; and what goes out is the frame that is next
pub record LeavesWhatWaits (t : Talk) : Type 0 where
  pub linked : IsTrue (is_asked t) →
      GainsBehind (plain_item 0 protocol_header ∷ []) [] nothing_queued (link.linked t).outbox
  pub unasked : IsFalse (is_asked t) → Stays t.outbox (link.linked t).outbox
  pub frame : (f : Frame) (answers : List Asked) →
      AddsWhere (acts t && is_replied f answers t) (reply_to f answers t) (left_by_frame f t) t (on_frame f answers t)
  -- what a command says waits exactly where it is obeyed
  pub command : (c : Cmd) → (Stays t.outbox (told.command c t).outbox × IsUntold c t (told.command c t))
      ⊎ (GainsBehind (told_by c t) (published_by c t) (left_by_command c t.outbox) (told.command c t).outbox
      × (IsUntold c t (told.command c t) → ⊥))
  pub tick : (answers : List Asked) →
      AddsWhere (not (is_missed t)) (told_in_time answers t) t.outbox t (ticks.tick answers t)
  pub next : (space : ℕ) → GoesOut (next_within space t) t.outbox (writing.next_frame space t).outbox
  pub starve : Stays t.outbox (change.starve t).outbox
  pub link_failed : Stays t.outbox (link.link_failed t).outbox
  pub misread : (why : Misread) → StaysOrDrops t (link.misread why t)
  pub lost : (fault : IoFault) → StaysOrDrops t (link.lost fault t)
  pub taken : (n : ℕ) → StaysOrDrops t (writing.taken n t)
