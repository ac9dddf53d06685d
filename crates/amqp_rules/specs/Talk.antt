-- The plain state of a session, in enums, numbers, lists and finite maps.
use Rattle.std.specs.Prelude.{ℕ, Bool, false, true, ◌&&◌, List, [], ◌∷◌, Option, Some, None, Result, is_some}
use Rattle.amqp_outbox.specs.Queued.{Queued, nothing_queued}
use Rattle.amqp_promise.specs.declared.state.ConnectionState.{ConnectionState}
use Rattle.amqp_promise.specs.declared.state.ConnectionState.TheVariants.{Initial, Closing}
use Rattle.amqp_rules.specs.declared.state.Phase.{Phase}
use Rattle.amqp_rules.specs.declared.state.Phase.TheVariants.{AwaitStart}
use Rattle.amqp_rules.specs.declared.state.Link.{Link}
use Rattle.amqp_rules.specs.declared.state.Link.TheVariants.{Wanted, Asked, Open, Ended}
use Rattle.amqp_rules.specs.declared.state.Input.{Input}
use Rattle.amqp_rules.specs.declared.state.Input.TheVariants.{Acting, Closed, Dropped}
use Rattle.amqp_settings.specs.declared.configuration.Configuration.{Configuration}
use Rattle.amqp_channels.specs.declared.channels.Channel.{Channel}
use Rattle.amqp_outgoing.specs.declared.committed.Mark.{Mark}
use Rattle.amqp_answers.specs.declared.handed.Handed.{Handed}
use Rattle.amqp_answers.specs.declared.answer.Answer.{Answer}
use Rattle.amqp_violations.specs.declared.server_close.ServerClose.{ServerClose}
use Rattle.amqp_promise.specs.declared.error.ErrorKind.{ErrorKind}
use Rattle.amqp_settings.specs.Capacities.{capacity_for}
use Rattle.amqp_settings.specs.Config.{Config, own_numbers}
use Rattle.amqp_answers.specs.Events.{Noted, unheard}

-- the state of a session
pub record Talk : Type 0 where
  -- what it was made from
  pub config : Config
  pub state : ConnectionState
  -- what the handshake awaits, while the state is Connecting
  pub phase : Phase
  -- where the session stands with its link, and how it ended
  pub link : Link ErrorKind
  -- what is done with the frames that come on the open link
  pub input : Input
  -- the server wants nothing to be written
  pub blocked : Bool
  -- the numbers of the connection, 0 where nothing is wished or agreed
  pub configuration : Configuration
  -- how many bytes can be unsent, and how long a frame may be that is read
  pub capacity : ℕ
  -- the listed channels, by their numbers
  pub channels : List (ℕ × Channel)
  -- the number of a channel to be drawn next, where 0 is the first
  pub cursor : ℕ
  -- the frames that wait to be committed, and the replies that are awaited
  pub outbox : Queued
  -- the committed frames that are not wholly sent, in order
  pub committed : List Mark
  -- the frames handed out and not yet taken, in order, by the promise that opened their channel
  pub handed : List (ℕ × List Handed)
  -- how many promises were made, which are numbered from 0 on
  pub made : ℕ
  -- the promises that wait, and those whose answer was not taken, with that answer
  pub promises : List (ℕ × Option (Result Answer ErrorKind))
  -- how the server closed the connection on the link, once it did
  pub server_close : Option ServerClose
  -- what is kept for those who listen
  pub noted : Noted
  -- the moments of the last happening, of the last reading and of the last writing, in milliseconds
  pub present : ℕ
  pub last_read : ℕ
  pub last_write : ℕ
  -- the moment from which the secret is valid, in milliseconds, and whether a refresh of it is told that the server did
  -- not answer yet
  pub secret_at : ℕ
  pub refreshing : Bool
  -- how many of the delays were taken since the connection was last opened
  pub tried : ℕ

-- the state at the beginning: a link is wanted, and the connection's promise, number 0, waits
abbrev pub start : Config → Talk
start config =
    record {
      config = config;
      state = Initial;
      phase = AwaitStart;
      link = Wanted;
      input = Acting;
      blocked = false;
      configuration = own_numbers config.uri.query;
      capacity = capacity_for (own_numbers config.uri.query).frame_max;
      channels = [];
      cursor = 0;
      outbox = nothing_queued;
      committed = [];
      handed = [];
      made = 1;
      promises = (0, None) ∷ [];
      server_close = None;
      noted = unheard;
      present = 0;
      last_read = 0;
      last_write = 0;
      secret_at = 0;
      refreshing = false;
      tried = 0;
    }

-- the state is Closing
abbrev pub is_closing : ConnectionState → Bool
is_closing Closing = true
is_closing _ = false

-- ---- where a session stands with its link

-- a link that is wanted, asked for or not
abbrev pub is_wanted_link : Link ErrorKind → Bool
is_wanted_link Wanted = true
is_wanted_link Asked = true
is_wanted_link _ = false

-- a link is wanted, asked for or not
abbrev pub wants_link : Talk → Bool
wants_link t = is_wanted_link t.link

-- a link that is asked for
abbrev pub is_asked_link : Link ErrorKind → Bool
is_asked_link Asked = true
is_asked_link _ = false

-- a link is asked for
abbrev pub is_asked : Talk → Bool
is_asked t = is_asked_link t.link

-- a link that is open
abbrev pub is_open_link : Link ErrorKind → Bool
is_open_link Open = true
is_open_link _ = false

-- a link is open, and the session goes on
abbrev pub is_open : Talk → Bool
is_open t = is_open_link t.link

-- how a session ended, where its link is ended
abbrev pub end_of_link : Link ErrorKind → Option (Result (Unit {0}) ErrorKind)
end_of_link (Ended result) = Some result
end_of_link _ = None

-- the end: Ok where the session ended Closed, else the error with which it ended
abbrev pub end_of : Talk → Option (Result (Unit {0}) ErrorKind)
end_of t = end_of_link t.link

-- the session has ended
abbrev pub has_ended : Talk → Bool
has_ended t = is_some (end_of t)

-- input whose frames act
abbrev pub is_acting : Input → Bool
is_acting Acting = true
is_acting _ = false

-- the frames that come on the open link act
abbrev pub acts : Talk → Bool
acts t = is_open t && is_acting t.input

-- input whose frames come after the server's close
abbrev pub is_closed_input : Input → Bool
is_closed_input (Closed crossed) = true
is_closed_input _ = false

-- input of which no more is read
abbrev pub is_dropped_input : Input → Bool
is_dropped_input (Dropped crossed) = true
is_dropped_input _ = false

-- no more of the open link's input is read
abbrev pub drops_input : Talk → Bool
drops_input t = is_dropped_input t.input

-- the server closed, and the frames that come on the open link are still read
abbrev pub hears_on : Talk → Bool
hears_on t = is_open t && is_closed_input t.input
