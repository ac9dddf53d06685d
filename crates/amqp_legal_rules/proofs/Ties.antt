-- What ties a session to what was said: the frames committed on the open link, and behind them those that wait, lead to where the session is.
use Rattle.std.specs.Prelude.{◌≡◌, ◌≢◌, ◌≤◌, ◌<◌, ◌^◌, ◌⊎◌, ℕ, ◌+◌, ◌==◌, if◌then◌else◌, Bool, true, false, List, [], ◌∷◌, ◌++◌, length, map, filter, sum_by, Option, Some, None, IsTrue}
use Rattle.std.specs.List.{AllByRecursion}
use Rattle.std.specs.Map.{keys_of}
use Rattle.amqp_frame.specs.declared.frame.Frame.{Frame}
use Rattle.amqp_frame.specs.declared.frame.Frame.TheVariants.{Method, Raw}
use Rattle.amqp_frame.specs.declared.frame.RawKind.TheVariants.{RawMethod, Header}
use Rattle.amqp_outbox.specs.declared.item.Item.{Item}
use Rattle.amqp_outbox.specs.declared.reply.Awaited.{Awaited}
use Rattle.amqp_outbox.specs.declared.reply.Reply.{Reply}
use Rattle.amqp_outbox.specs.declared.reply.Reply.TheVariants.{ChannelOpened, ChannelClosed}
use Rattle.amqp_outbox.specs.Items.{channel_of}
use Rattle.amqp_outbox.specs.Replies.{awaited_on}
use Rattle.amqp_outbox.specs.Queued.{Queued}
use Rattle.amqp_commands.specs.declared.command.Cmd.{Cmd}
use Rattle.amqp_commands.specs.declared.command.Cmd.TheVariants.{Send, Publish}
use Rattle.amqp_channels.specs.declared.channels.Channel.{Channel}
use Rattle.amqp_channels.specs.declared.channels.Debt.{Debt}
use Rattle.amqp_channels.specs.declared.channels.Debt.TheVariants.{Nothing, Owed, Paid}
use Rattle.amqp_outgoing.specs.declared.committed.Mark.{Mark}
use Rattle.amqp_outgoing.specs.declared.committed.Then.{Then}
use Rattle.amqp_outgoing.specs.declared.committed.Then.TheVariants.{Pays}
use Rattle.amqp_promise.specs.declared.state.ChannelState.{ChannelState}
use Rattle.amqp_promise.specs.declared.state.ChannelState.TheVariants as channel
use Rattle.amqp_promise.specs.declared.state.ConnectionState.{ConnectionState}
use Rattle.amqp_promise.specs.declared.state.ConnectionState.TheVariants.{Initial, Connecting, Connected, Closing, Reconnecting}
use Rattle.amqp_rules.specs.declared.state.Phase.{Phase}
use Rattle.amqp_rules.specs.declared.state.Phase.TheVariants.{AwaitStart, AwaitTune, AwaitOpenOk}
use Rattle.amqp_rules.specs.declared.state.Input.{Input}
use Rattle.amqp_rules.specs.declared.state.Input.TheVariants.{Acting}
use Rattle.amqp_rules.specs.Talk.{Talk}
use Rattle.amqp_maps.specs.Listed.{at}
use Rattle.amqp_channels.specs.Channels.{is_owed}
use Rattle.amqp_outgoing.specs.Marks.{then_of}
use Rattle.amqp_settings.specs.Capacities.{frame_min_size}
use Rattle.amqp_rules.specs.Sound.{AscendFrom, Ascend, is_agreed}
use Rattle.amqp_legal.specs.Legal.{amqp_header, body_frames, IsPassedThrough, IsContent}
use Rattle.amqp_legal.specs.Decider.{Speech, greeted, say_all}
use Rattle.amqp_legal.specs.declared.progress.Stage.TheVariants.{StartOkSaid, OpenSaid, CloseSaid}
use Rattle.amqp_legal.specs.declared.progress.Usage.{Usage}
use Rattle.amqp_legal.specs.declared.progress.Usage.TheVariants.{Shut, InUse, Left}
use Rattle.amqp_legal.proofs.Sayable.{IsComplete, IsControl}

-- the frames that wait
abbrev pub frames_in : List Item → List Frame
frames_in items = map (λ (item : Item). item.frame) items

-- they are the header, and then what may be said, which leads here
pub record LeadsTo (items : List Item) (committed : List Frame) (later : Speech) : Type 0 where
  pub said : List Frame
  pub frames : committed ++ frames_in items ≡ amqp_header ∷ said
  pub may : say_all (Some greeted) said ≡ Some later

-- ---- groups

-- what goes out before the next group begins: the rest of the one that has begun, and the control lane
abbrev pub first_out : Queued → List Item
first_out q = q.begun ++ q.control

-- a group that may be said here: a method, its content header and its body, on a channel that is in use
pub record IsReady (v : Speech) (group : List Item) : Type 0 where
  pub channel : ℕ
  pub method : List ℕ
  pub head : List ℕ
  pub bodies : List (List ℕ)
  pub frames : frames_in group ≡ Raw channel RawMethod method ∷ Raw channel Header head ∷ body_frames channel bodies
  pub on_channel : channel_of group ≡ Some channel
  pub not_zero : channel ≢ 0
  pub speaking : v.stage ≡ OpenSaid
  pub complete : IsComplete v.content
  pub used : v.usage channel ≡ InUse
  pub passed : IsPassedThrough method
  pub content : IsContent method head bodies

-- ---- the control lane

-- the channel that a frame is on
abbrev pub channel_in : Frame → ℕ
channel_in (Method n method) = n
channel_in (Raw n kind bytes) = n
channel_in _ = 0

-- a frame of the control lane goes on with no content, and is on the channel that its item names
abbrev pub IsOfControl : Item → Type 0
IsOfControl item = IsControl item.frame × (item.channel ≡ channel_in item.frame)

-- ---- our close-oks of channels

-- one, where this follows a close-ok of a channel
abbrev pub pays : ℕ → Then → ℕ
pays n (Pays m) = if m == n then 1 else 0
pays n _ = 0

-- how many close-oks of a channel were committed, and are not wholly sent
abbrev pub paying : List Mark → ℕ → ℕ
paying marks = λ n. sum_by (λ (m : Mark). pays n m.then) marks

-- how many wait
abbrev pub to_pay : List Item → ℕ → ℕ
to_pay items = λ n. sum_by (λ (item : Item). pays n (then_of item)) items

-- how many are not wholly sent
abbrev pub unpaid : List Mark → List Item → ℕ → ℕ
unpaid marks items = λ n. paying marks n + to_pay items n

-- how many are owed on a channel
abbrev pub owing : Option Channel → ℕ
owing None = 0
owing (Some c) = if is_owed c.debt then 1 else 0

-- ---- channels

-- the replies that tie: those to open and to close; one to flow changes nothing that was said
abbrev pub is_tied : Reply → Bool
is_tied ChannelOpened = true
is_tied ChannelClosed = true
is_tied _ = false

-- the kinds of the replies that are awaited on a channel, and tie
abbrev pub tied_on : ℕ → List (ℕ × List Awaited) → List Reply
tied_on n awaited = filter is_tied (map (λ (a : Awaited). a.reply) (awaited_on n awaited))

-- a channel that is closing awaits this, and is used so, by what is owed to the server: we closed it alone; the server
-- closed it, or both did, and our close-ok waits or is not wholly sent; both did, and it was sent
abbrev pub TiesClosing : Debt → List Reply → Usage → Type 0
TiesClosing Nothing replies u = (replies ≡ ChannelClosed ∷ []) × (u ≡ Left)
TiesClosing Owed replies u = ((replies ≡ []) ⊎ (replies ≡ ChannelClosed ∷ [])) × (u ≡ Shut)
TiesClosing Paid replies u = (replies ≡ ChannelClosed ∷ []) × (u ≡ Shut)

-- a channel in this state awaits this, and is used so
abbrev pub TiesState : ChannelState → Debt → List Reply → Usage → Type 0
TiesState channel.Initial d replies u = (replies ≡ ChannelOpened ∷ []) × (u ≡ InUse) × (d ≡ Nothing)
TiesState channel.Connected d replies u = (replies ≡ []) × (u ≡ InUse) × (d ≡ Nothing)
-- it was kept over the loss of a link, and is opened again
TiesState channel.Reconnecting d replies u = (replies ≡ ChannelOpened ∷ []) × (u ≡ InUse) × (d ≡ Nothing)
TiesState channel.Closing d replies u = TiesClosing d replies u
TiesState _ d replies u = ⊥

-- close-ok is among the replies that are awaited
abbrev pub is_close_among : List Reply → Bool
is_close_among [] = false
is_close_among (ChannelClosed ∷ replies) = true
is_close_among (reply ∷ replies) = is_close_among replies

-- a number that is not listed awaits nothing, and is not used; a channel knows whether close-ok is awaited
abbrev pub TiesOn : Option Channel → List Reply → Usage → Type 0
TiesOn None replies u = (replies ≡ []) × (u ≢ InUse)
TiesOn (Some c) replies u = TiesState c.state c.debt replies u × (c.awaits_close_ok ≡ is_close_among replies)

-- while the connection is open, with how many close-oks of each channel are not wholly sent
pub record TiesChannels (channels : List (ℕ × Channel)) (awaited : List (ℕ × List Awaited)) (due : ℕ → ℕ) (s : Speech) : Type 0 where
  pub speaking : s.stage ≡ OpenSaid
  pub complete : IsComplete s.content
  pub sorted : AscendFrom 0 (keys_of channels)
  pub awaited_sorted : Ascend (keys_of awaited)
  pub each : (n : ℕ) → TiesOn (at n channels) (tied_on n awaited) (s.usage n)
  -- a close-ok is on its way exactly where it is owed
  pub owes : (n : ℕ) → due n ≡ owing (at n channels)

-- ---- the connection

-- a number that is not listed, or whose channel was kept over the loss of a link, and is to be opened again
abbrev pub IsKept : Option Channel → Type 0
IsKept None = Unit {0}
IsKept (Some c) = (c.state ≡ channel.Reconnecting) × (c.debt ≡ Nothing) × (c.awaits_close_ok ≡ false)

-- no channel was opened on this link, nothing is awaited, and no close-ok of a channel is on its way
pub record IsNew (channels : List (ℕ × Channel)) (awaited : List (ℕ × List Awaited)) (due : ℕ → ℕ) : Type 0 where
  pub kept : (n : ℕ) → IsKept (at n channels)
  pub none_awaited : awaited ≡ []
  pub none_due : (n : ℕ) → due n ≡ 0

abbrev pub TiesPhase : Phase → Speech → Type 0
TiesPhase AwaitStart s = s ≡ greeted
TiesPhase AwaitTune s = s ≡ record greeted { stage = StartOkSaid }
TiesPhase AwaitOpenOk s = s ≡ record greeted { stage = OpenSaid }

-- while frames act
abbrev pub TiesActing : ConnectionState → Phase → List (ℕ × Channel) → List (ℕ × List Awaited) → (ℕ → ℕ) → Speech → Type 0
TiesActing Connecting phase channels awaited due s = TiesPhase phase s × IsNew channels awaited due
TiesActing Connected phase channels awaited due s = TiesChannels channels awaited due s
TiesActing Closing phase channels awaited due s = s.stage ≡ CloseSaid
TiesActing _ phase channels awaited due s = ⊥

abbrev pub IsClosing : ConnectionState → Type 0
IsClosing Closing = Unit {0}
IsClosing _ = ⊥

-- after the server's close nothing more is said, and nothing more is claimed than that the session closes
abbrev pub Ties : Input → ConnectionState → Phase → List (ℕ × Channel) → List (ℕ × List Awaited) → (ℕ → ℕ) → Speech → Type 0
Ties Acting state phase channels awaited due s = TiesActing state phase channels awaited due s
Ties _ state phase channels awaited due s = IsClosing state

-- the same by the parts of a session that count: a rule that changes none of them keeps it as it is
pub record Speaks (state : ConnectionState) (phase : Phase) (input : Input) (frame_max capacity : ℕ) (outbox : Queued)
    (channels : List (ℕ × Channel)) (marks : List Mark) (committed : List Frame) : Type 0 where
  pub later : Speech
  pub leads : LeadsTo (first_out outbox) committed later
  pub lane : AllByRecursion IsOfControl outbox.control
  pub groups : AllByRecursion (IsReady later) outbox.publish
  pub ties : Ties input state phase channels outbox.awaited (unpaid marks (first_out outbox)) later
  -- a frame of a body is never empty
  pub agreed : IsTrue (is_agreed state phase) → frame_min_size ≤ frame_max
  -- the channels stand in the order of their numbers, and none has the number 0
  pub listed : AscendFrom 0 (keys_of channels)
  -- the header of another link will fit
  pub room : 8 ≤ capacity

-- a session with an open link is tied to the frames that were committed on it
abbrev pub IsTied : Talk → List Frame → Type 0
IsTied t committed = Speaks t.state t.phase t.input t.configuration.frame_max t.capacity t.outbox t.channels t.committed committed

-- while no link is open nothing is said: at the beginning, or after the loss of a link
abbrev pub Rests : ConnectionState → Type 0
Rests Initial = Unit {0}
Rests Reconnecting = Unit {0}
Rests _ = ⊥

-- the same by the parts of a session that count: it has the channels that were kept alone, and the header will fit
pub record Waits (state : ConnectionState) (channels : List (ℕ × Channel)) (capacity : ℕ) : Type 0 where
  pub rests : Rests state
  pub listed : AscendFrom 0 (keys_of channels)
  pub kept : (n : ℕ) → IsKept (at n channels)
  pub room : 8 ≤ capacity

-- a session that goes on without a link says nothing
abbrev pub IsSilent : Talk → Type 0
IsSilent t = Waits t.state t.channels t.capacity

-- ---- what may be told

-- a method that is sent or published has a class that two octets hold, and that is neither connection (10) nor channel (20);
-- what is published has property flags, and a body whose length eight octets hold
abbrev pub IsSendable : Cmd → Type 0
IsSendable (Send channel method) = (method.class ≢ 10) × (method.class ≢ 20) × (method.class < 2 ^ 16)
IsSendable (Publish channel method properties body) =
    (method.class ≢ 10) × (method.class ≢ 20) × (method.class < 2 ^ 16) × (2 ≤ length properties) × (length body < 2 ^ 64)
IsSendable _ = Unit {0}
