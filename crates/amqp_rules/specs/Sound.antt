-- Sound states: what holds of each state that a session can be in.
use Rattle.std.specs.Prelude.{ℕ, ◌<◌, ◌≤◌, Bool, true, false, IsTrue, List, [], ◌∷◌, map, ◌≡◌, IsFalse, is_some, Option, Some, None, Ok, Err}
use Rattle.std.specs.List.{AllByRecursion}
use Rattle.std.specs.Map.{keys_of}
use Rattle.amqp_outbox.specs.declared.item.Item.{Item}
use Rattle.amqp_outbox.specs.Queued.{waiting_items}
use Rattle.amqp_outbox.specs.Replies.{awaited_on, first_awaited}
use Rattle.amqp_outbox.specs.declared.reply.Awaited.{Awaited}
use Rattle.amqp_outbox.specs.declared.reply.Reply.{Reply}
use Rattle.amqp_outbox.specs.declared.reply.Reply.TheVariants.{ChannelOpened, ChannelClosed}
use Rattle.amqp_promise.specs.declared.state.ConnectionState.{ConnectionState}
use Rattle.amqp_promise.specs.declared.state.ConnectionState.TheVariants.{Initial, Connecting, Connected, Closing, Closed, Reconnecting, Error}
use Rattle.amqp_rules.specs.declared.state.Phase.{Phase}
use Rattle.amqp_rules.specs.declared.state.Phase.TheVariants.{AwaitOpenOk}
use Rattle.amqp_rules.specs.declared.state.Link.{Link}
use Rattle.amqp_rules.specs.declared.state.Link.TheVariants.{Wanted, Due, Asked, Open, Ended}
use Rattle.amqp_rules.specs.declared.state.Input.{Input}
use Rattle.amqp_rules.specs.declared.state.Input.TheVariants.{Acting}
use Rattle.amqp_outgoing.specs.declared.committed.Mark.{Mark}
use Rattle.amqp_outgoing.specs.declared.committed.Then.{Then}
use Rattle.amqp_outgoing.specs.declared.committed.Then.TheVariants.{Finish}
use Rattle.amqp_promise.specs.declared.error.ErrorKind.{ErrorKind}
use Rattle.amqp_channels.specs.declared.channels.Channel.{Channel}
use Rattle.amqp_answers.specs.declared.answer.Answer.TheVariants.{Channel as AnswerChannel}
use Rattle.amqp_maps.specs.Listed.{at}
use Rattle.amqp_rules.specs.Talk.{Talk, is_acting, acts}
use Rattle.amqp_answers.specs.Settled.{Promises}
use Rattle.amqp_channels.specs.Channels.{is_owed}
use Rattle.amqp_channels.specs.Openings.{opener}
use Rattle.amqp_outgoing.specs.Marks.{then_of}

-- numbers that ascend, all of them above a number
abbrev pub AscendFrom : ℕ → List ℕ → Type 0
AscendFrom n [] = Unit {0}
AscendFrom n (k ∷ ks) = (n < k) × AscendFrom k ks

-- numbers that ascend
abbrev pub Ascend : List ℕ → Type 0
Ascend [] = Unit {0}
Ascend (k ∷ ks) = AscendFrom k ks

-- numbers that are all below a number
abbrev pub AllBelow : ℕ → List ℕ → Type 0
AllBelow n [] = Unit {0}
AllBelow n (k ∷ ks) = (k < n) × AllBelow n ks

-- a link that a state has: at the beginning and once a link was lost, one is wanted or its delay is not over; then it
-- is open until it is lost or the session ends, and it is ended exactly in Closed and Error
abbrev pub fits_link : ConnectionState → Link ErrorKind → Bool
fits_link Initial (Due moment) = true
fits_link Initial Wanted = true
fits_link Initial Asked = true
fits_link Reconnecting (Due moment) = true
fits_link Reconnecting Wanted = true
fits_link Reconnecting Asked = true
fits_link Connecting Open = true
fits_link Connected Open = true
fits_link Closing Open = true
fits_link Closed (Ended (Ok closed)) = true
fits_link Error (Ended (Err e)) = true
fits_link _ _ = false

-- the numbers of the connection are agreed
abbrev pub is_agreed : ConnectionState → Phase → Bool
is_agreed Connected phase = true
is_agreed Connecting AwaitOpenOk = true
is_agreed _ _ = false

-- the connection is being opened, or is open
abbrev pub goes_on : ConnectionState → Bool
goes_on Connecting = true
goes_on Connected = true
goes_on _ = false

-- the session finishes once its frame was sent
abbrev pub is_finish : Then → Bool
is_finish Finish = true
is_finish _ = false

-- what follows once each frame was sent: first of those that are committed, then of those that wait
abbrev pub following : List Mark → List Item → List Then
following [] items = map then_of items
following (m ∷ ms) items = m.then ∷ following ms items

-- nothing that follows finishes the session
abbrev pub NoneFinishes : List Then → Type 0
NoneFinishes [] = Unit {0}
NoneFinishes (th ∷ ths) = IsFalse (is_finish th) × NoneFinishes ths

-- what finishes the session is the last that follows
abbrev pub LastFinishes : List Then → Type 0
LastFinishes [] = Unit {0}
LastFinishes (th ∷ ths) = (IsTrue (is_finish th) → ths ≡ []) × LastFinishes ths

-- nothing finishes the session before the server's close, and after it nothing but the last that follows
abbrev pub Finishes : Input → List Then → Type 0
Finishes Acting ths = NoneFinishes ths
Finishes _ ths = LastFinishes ths

-- ---- channels, what opened them, and what they await

-- an answer that a channel is open names the promise that it answers
abbrev pub NamesItself : Promises → Type 0
NamesItself promises =
    (number id opened : ℕ) → at number promises ≡ Some (Some (Ok (AnswerChannel id opened))) → opened ≡ number

-- the promise that awaits open-ok, where a reply is that and answers one, has this
abbrev pub OpeningHas : (ℕ → Type 0) → Reply → Option ℕ → Type 0
OpeningHas P ChannelOpened (Some number) = P number
OpeningHas P _ _ = Unit {0}

-- each promise that awaits open-ok, among what is awaited on a channel, has this
abbrev pub AllOpenings : (ℕ → Type 0) → List Awaited → Type 0
AllOpenings P list = AllByRecursion (λ (a : Awaited). OpeningHas P a.reply a.promise) list

-- no promise awaits open-ok
abbrev pub NoOpening : List Awaited → Type 0
NoOpening list = AllOpenings (λ number. ⊥) list

-- close-ok is awaited on a channel
abbrev pub is_close_awaited : ℕ → List (ℕ × List Awaited) → Bool
is_close_awaited n awaited = is_some (first_awaited n ChannelClosed awaited)

-- what is awaited on a number fits its channel: close-ok exactly where we close it, and no promise awaits open-ok of a
-- number that is not listed, nor of a channel that goes once our close-ok is sent
abbrev pub FitsChannel : Option Channel → ℕ → List (ℕ × List Awaited) → Type 0
FitsChannel None n awaited = IsFalse (is_close_awaited n awaited) × NoOpening (awaited_on n awaited)
FitsChannel (Some c) n awaited =
    (c.awaits_close_ok ≡ is_close_awaited n awaited)
    × (IsTrue (is_owed c.debt) → IsFalse c.awaits_close_ok → NoOpening (awaited_on n awaited))

-- the connection was not yet opened on the link that is open, is asked for, or is waited for
abbrev pub is_unopened : ConnectionState → Bool
is_unopened Initial = true
is_unopened Connecting = true
is_unopened Reconnecting = true
is_unopened _ = false

-- nothing is awaited, not even that a channel is closed
abbrev pub AwaitsNothing : List (ℕ × Channel) → List (ℕ × List Awaited) → Type 0
AwaitsNothing channels awaited =
    (awaited ≡ []) × ((n : ℕ) (c : Channel) → at n channels ≡ Some c → IsFalse c.awaits_close_ok)

-- the listed channels, what is awaited on them, and the promises that were made fit each other, in a state of the
-- connection, and where frames act or not
pub record FitsChannels (state : ConnectionState) (acting : Bool) (channels : List (ℕ × Channel))
    (awaited : List (ℕ × List Awaited)) (made : ℕ) : Type 0 where
  -- a promise that opened a listed channel was made
  pub opened : (n number : ℕ) → opener n channels ≡ Some number → number < made
  -- and opened one alone
  pub once : (m n number : ℕ) → opener m channels ≡ Some number → opener n channels ≡ Some number → m ≡ n
  -- a promise that awaits open-ok of a listed channel is the one that opened it
  pub opening : (n : ℕ) (c : Channel) → at n channels ≡ Some c →
      AllOpenings (λ number. number ≡ c.opened) (awaited_on n awaited)
  -- while frames act, what is awaited fits the channels
  pub fits : IsTrue acting → (n : ℕ) → FitsChannel (at n channels) n awaited
  -- until the connection is open nothing is awaited
  pub unopened : IsTrue (is_unopened state) → AwaitsNothing channels awaited
  -- the numbers on which something is awaited ascend
  pub ascend : Ascend (keys_of awaited)

-- ---- sound states

-- a sound state: its parts fit each other
pub record IsSound (t : Talk) : Type 0 where
  -- the state has its link
  pub link : IsTrue (fits_link t.state t.link)
  -- a connection that is open has room for a channel
  pub room : IsTrue (is_agreed t.state t.phase) → 1 ≤ t.configuration.channel_max
  -- while the connection is being opened, and while it is open, the frames that come act
  pub acting : IsTrue (goes_on t.state) → IsTrue (is_acting t.input)
  -- what finishes the session is the last of what is committed, and nothing waits behind it
  pub finish : Finishes t.input (following t.committed (waiting_items t.outbox))
  -- the listed channels stand in the order of their numbers, and none has the number 0
  pub listed : AscendFrom 0 (keys_of t.channels)
  -- so do the promises, and all of them were made
  pub promises : Ascend (keys_of t.promises) × AllBelow t.made (keys_of t.promises)
  -- a kept answer that a channel is open names the promise that it answers
  pub answers : NamesItself t.promises
  -- the listed channels, and what is awaited on them, fit each other
  pub channels : FitsChannels t.state (acts t) t.channels t.outbox.awaited t.made
