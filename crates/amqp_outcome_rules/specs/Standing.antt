-- What the promise of a command stands for: the reply that is awaited for it, or the last byte of a frame that was
-- queued (AMQP 0-9-1, 1.4 and 1.5 of its reference: each method with its reply).
use Rattle.std.specs.Prelude.{◌≡◌, ◌≢◌, ◌⊎◌, ◌&&◌, ℕ, Bool, false, List, [], ◌∷◌, ◌++◌, Option, Some, None, IsTrue, IsFalse, is_ok, suc, IsSome, Ok}
use Rattle.std.specs.List.{AllByRecursion}
use Rattle.amqp_types.specs.declared.word.Word.TheVariants as word
use Rattle.amqp_frame.specs.declared.frame.Frame.{Frame}
use Rattle.amqp_frame.specs.declared.frame.Frame.TheVariants.{Method}
use Rattle.amqp_frame.specs.declared.method.Method.TheVariants.{Close, UpdateSecretOk, ChannelOpenOk, ChannelClose, ChannelCloseOk, ChannelFlowOk}
use Rattle.amqp_outbox.specs.declared.item.Item.{Item}
use Rattle.amqp_outbox.specs.declared.reply.Reply.{Reply}
use Rattle.amqp_outbox.specs.declared.reply.Reply.TheVariants.{ChannelOpened, ChannelClosed, FlowDone, SecretDone, ConnectionClosed}
use Rattle.amqp_outbox.specs.Lists.{without_first}
use Rattle.amqp_outbox.specs.Queued.{Queued, awaited_promise, waiting_items}
use Rattle.amqp_outbox.specs.Replies.{awaited_on, is_of}
use Rattle.amqp_promise.specs.declared.error.ErrorKind.{ErrorKind}
use Rattle.amqp_promise.specs.declared.io_fault.IoFault.{IoFault}
use Rattle.amqp_auth.specs.declared.asked.Asked.{Asked}
use Rattle.amqp_auth.specs.declared.asked.Asked.TheVariants.{Refreshed}
use Rattle.amqp_promise.specs.declared.state.ConnectionState.TheVariants.{Connecting, Connected, Closing}
use Rattle.amqp_channels.specs.declared.channels.Channel.{Channel}
use Rattle.amqp_channels.specs.declared.channels.Debt.TheVariants.{Nothing}
use Rattle.amqp_rules.specs.Channels.{channel_at}
use Rattle.amqp_commands.specs.declared.command.Cmd.{Cmd}
use Rattle.amqp_commands.specs.declared.command.Cmd.TheVariants.{OpenChannel, CloseChannel, CloseConnection, UpdateSecret, Send, Publish, Flow, DropChannel, DropConnection}
use Rattle.amqp_outgoing.specs.declared.committed.Then.{Then}
use Rattle.amqp_outgoing.specs.declared.committed.Then.TheVariants.{Answer as Answers}
use Rattle.amqp_violations.specs.declared.misread.Misread.{Misread}
use Rattle.amqp_rules.specs.Talk.{Talk, acts, has_ended, is_open}
use Rattle.amqp_channels.specs.Numbering.{first_number, drawn}
use Rattle.amqp_rules.specs.Changes as change
use Rattle.amqp_rules.specs.Changes.{next_promise, replies_on}
use Rattle.amqp_rules.specs.Links as link
use Rattle.amqp_rules.specs.Frames.{on_frame}
use Rattle.amqp_rules.specs.Commands.{command, takes_promise, target}
use Rattle.amqp_rules.specs.Laws.{IsAnsweredAtOnce}
use Rattle.amqp_rules.specs.Sound.{following}
use Rattle.amqp_rules.specs.Ticks as ticks
use Rattle.amqp_rules.specs.Secrets.{HasExpired}
use Rattle.amqp_rules.specs.Ticks.{is_connected, is_missed}
use Rattle.amqp_rules.specs.Writing as writing
use Rattle.amqp_rules.specs.Answers.{take_answer, take_event, take_frames}
use Rattle.amqp_answer_rules.specs.Answering.{IsNamed, IsWaiting}

-- ---- what is awaited

-- the same is awaited on each channel, in the same order
abbrev pub AwaitsTheSame : Queued → Queued → Type 0
AwaitsTheSame before after = (m : ℕ) → awaited_on m after.awaited ≡ awaited_on m before.awaited

-- one reply more is awaited on this channel, behind what was awaited there, for this promise or for none; and on no
-- other
pub record AwaitsOneMore (n : ℕ) (reply : Reply) (promise : Option ℕ) (before after : Queued) : Type 0 where
  pub here : awaited_on n after.awaited
      ≡ awaited_on n before.awaited ++ record { reply = reply; promise = promise } ∷ []
  pub elsewhere : (m : ℕ) → m ≢ n → awaited_on m after.awaited ≡ awaited_on m before.awaited

-- it is one of these
abbrev pub IsAmong : Then → List Then → Type 0
IsAmong what [] = ⊥
IsAmong what (first ∷ others) = (first ≡ what) ⊎ IsAmong what others

-- a frame waits, or is committed, by whose last byte a promise is answered
abbrev pub IsAnsweredWhenSent : ℕ → Talk → Type 0
IsAnsweredWhenSent number t = IsAmong (Answers number) (following t.committed (waiting_items t.outbox))

-- ---- commands

-- what the promise of a command stands for once it is told, command by command
abbrev pub StandsFor : Cmd → Talk → Talk → Type 0
-- channel.open-ok, on the channel whose number was drawn
StandsFor OpenChannel t t' =
    (n : ℕ)
    × (drawn t.configuration.channel_max (first_number t.configuration.channel_max t.cursor) t.channels ≡ Some n)
    × AwaitsOneMore n ChannelOpened (Some (next_promise t)) t.outbox t'.outbox
-- channel.close-ok
StandsFor (CloseChannel r code text) t t' =
    AwaitsOneMore r.id ChannelClosed (Some (next_promise t)) t.outbox t'.outbox
-- connection.close-ok
StandsFor (CloseConnection code text) t t' =
    AwaitsOneMore 0 ConnectionClosed (Some (next_promise t)) t.outbox t'.outbox
-- update-secret-ok
StandsFor (UpdateSecret secret reason) t t' =
    AwaitsOneMore 0 SecretDone (Some (next_promise t)) t.outbox t'.outbox
-- channel.flow-ok
StandsFor (Flow r active) t t' = AwaitsOneMore r.id FlowDone (Some (next_promise t)) t.outbox t'.outbox
-- no reply, but that it was sent
StandsFor (Send r method) t t' = AwaitsTheSame t.outbox t'.outbox × IsAnsweredWhenSent (next_promise t) t'
StandsFor (Publish r method properties body) t t' =
    AwaitsTheSame t.outbox t'.outbox × IsAnsweredWhenSent (next_promise t) t'
StandsFor cmd t t' = ⊥

-- the close that a command tells, of a channel or of the connection that it lets go, has its reply awaited for no
-- promise
abbrev pub AwaitsUnpromised : Cmd → Talk → Talk → Type 0
AwaitsUnpromised (DropChannel r) t t' = AwaitsOneMore r.id ChannelClosed None t.outbox t'.outbox
AwaitsUnpromised DropConnection t t' = AwaitsOneMore 0 ConnectionClosed None t.outbox t'.outbox
AwaitsUnpromised cmd t t' = ⊥

-- a command lets go what is open
abbrev pub lets_go : Cmd → Talk → Bool
lets_go (DropChannel r) t = is_connected t.state && is_ok (target r word.ChannelClose t)
lets_go DropConnection t = is_connected t.state
lets_go cmd t = false

-- the promise of a command is answered at once with an error, or waits for what it stands for
pub record StandsForReplies (t : Talk) : Type 0 where
  pub promised : (cmd : Cmd) → IsTrue (takes_promise cmd) →
      ((e : ErrorKind) × IsAnsweredAtOnce e t (command cmd t))
      ⊎ (IsWaiting (next_promise t) (command cmd t) × StandsFor cmd t (command cmd t))
  -- a command that takes no promise awaits a reply for none
  pub let_go : (cmd : Cmd) → IsTrue (lets_go cmd t) → AwaitsUnpromised cmd t (command cmd t)
  pub idle : (cmd : Cmd) → IsFalse (takes_promise cmd) → IsFalse (lets_go cmd t) →
      AwaitsTheSame t.outbox (command cmd t).outbox
  -- where a secret has expired, and the provider has a new one, update-secret-ok is awaited for none
  pub refreshed : (answers later : List Asked) (secret : List ℕ) (e : HasExpired answers t) → IsFalse (is_missed t) →
      e.later ≡ Refreshed (Ok secret) ∷ later →
      AwaitsOneMore 0 SecretDone None t.outbox (ticks.tick answers t).outbox

-- ---- replies that come

-- the first that awaited this reply on this channel awaits it no more, and all else is awaited as before
pub record AwaitsOneLess (n : ℕ) (reply : Reply) (before after : Queued) : Type 0 where
  pub here : awaited_on n after.awaited ≡ without_first (is_of reply) (awaited_on n before.awaited)
  pub elsewhere : (m : ℕ) → m ≢ n → awaited_on m after.awaited ≡ awaited_on m before.awaited

-- nothing is awaited any more on this channel, and all else is awaited as before
pub record AwaitsNoneOn (n : ℕ) (before after : Queued) : Type 0 where
  pub here : awaited_on n after.awaited ≡ []
  pub elsewhere : (m : ℕ) → m ≢ n → awaited_on m after.awaited ≡ awaited_on m before.awaited

-- frames are heard on a channel, once the connection is open, and before our close of it
abbrev pub IsHeardOn : ℕ → Channel → Talk → Type 0
IsHeardOn n c t = IsTrue (acts t) × (t.state ≢ Connecting) × (t.state ≢ Closing) × (channel_at n t ≡ Some c)

-- what came is awaited no more: a reply, where it is awaited, and what goes with a channel or with the connection
pub record ForgetsReplies (t : Talk) : Type 0 where
  pub opened : (n : ℕ) (c : Channel) (answers : List Asked) → IsHeardOn (suc n) c t →
      IsSome (awaited_promise (suc n) ChannelOpened t.outbox) →
      AwaitsOneLess (suc n) ChannelOpened t.outbox (on_frame (Method (suc n) ChannelOpenOk) answers t).outbox
  pub flowed : (n : ℕ) (c : Channel) (active : Bool) (answers : List Asked) → IsHeardOn (suc n) c t →
      IsSome (awaited_promise (suc n) FlowDone t.outbox) →
      AwaitsOneLess (suc n) FlowDone t.outbox (on_frame (Method (suc n) (ChannelFlowOk active)) answers t).outbox
  pub closed : (n : ℕ) (c : Channel) (answers : List Asked) → IsHeardOn (suc n) c t →
      IsSome (awaited_promise (suc n) ChannelClosed t.outbox) →
      AwaitsNoneOn (suc n) t.outbox (on_frame (Method (suc n) ChannelCloseOk) answers t).outbox
  -- a close of the server's that we do not await a close-ok for
  pub closed_by_server : (n : ℕ) (c : Channel) (code : ℕ) (text : List ℕ) (class method : ℕ) (answers : List Asked) →
      IsHeardOn (suc n) c t → c.debt ≡ Nothing → IsFalse c.awaits_close_ok →
      AwaitsNoneOn (suc n) t.outbox (on_frame (Method (suc n) (ChannelClose code text class method)) answers t).outbox
  pub renewed : (answers : List Asked) → IsTrue (acts t) → t.state ≡ Connected →
      IsSome (awaited_promise 0 SecretDone t.outbox) →
      AwaitsOneLess 0 SecretDone t.outbox (on_frame (Method 0 UpdateSecretOk) answers t).outbox
  -- the server closes the connection, and nothing is awaited any more
  pub ended : (code : ℕ) (text : List ℕ) (class method : ℕ) (answers : List Asked) → IsTrue (acts t) →
      (on_frame (Method 0 (Close code text class method)) answers t).outbox.awaited ≡ []

-- ---- that no promise waits for nothing

-- a reply is awaited for a promise, on some channel
abbrev pub IsAwaitedFor : ℕ → Queued → Type 0
IsAwaitedFor number q = (n : ℕ) × IsNamed number (replies_on n q)

-- of the frames of a group the last alone answers a promise
abbrev pub AnswersLast : List Item → Type 0
AnswersLast [] = Unit {0}
AnswersLast (item ∷ []) = Unit {0}
AnswersLast (item ∷ next ∷ items) = (item.promise ≡ None) × AnswersLast (next ∷ items)

-- while frames act each promise that waits, but that of the connection, waits for a reply that is awaited for it, or
-- for the last byte of a frame; and while the session goes on without a link, no other waits than that
pub record WaitsForSome (t : Talk) : Type 0 where
  pub acting : IsTrue (acts t) → (number : ℕ) → number ≢ 0 → IsWaiting number t →
      IsAwaitedFor number t.outbox ⊎ IsAnsweredWhenSent number t
  pub unlinked : IsFalse (is_open t) → IsFalse (has_ended t) → (number : ℕ) → number ≢ 0 → IsWaiting number t → ⊥
  pub groups : AllByRecursion AnswersLast t.outbox.publish

-- so it stays by each rule
pub record StaysWaiting (t : Talk) : Type 0 where
  pub frame : (f : Frame) (answers : List Asked) → WaitsForSome (on_frame f answers t)
  pub moment : (at : ℕ) → WaitsForSome (change.present_at at t)
  pub asked : WaitsForSome (link.asked t)
  pub linked : WaitsForSome (link.linked t)
  pub link_failed : WaitsForSome (link.link_failed t)
  pub piece : WaitsForSome (link.piece t)
  pub misread : (why : Misread) → WaitsForSome (link.misread why t)
  pub lost : (fault : IoFault) → WaitsForSome (link.lost fault t)
  pub tick : (answers : List Asked) → WaitsForSome (ticks.tick answers t)
  pub next_frame : (space : ℕ) → WaitsForSome (writing.next_frame space t)
  pub taken : (n : ℕ) → WaitsForSome (writing.taken n t)
  pub starve : WaitsForSome (change.starve t)
  pub command : (cmd : Cmd) → WaitsForSome (command cmd t)
  pub answer : (number : ℕ) → WaitsForSome (take_answer number t)
  pub event : WaitsForSome (take_event t)
  pub frames : (opened : ℕ) → WaitsForSome (take_frames opened t)
