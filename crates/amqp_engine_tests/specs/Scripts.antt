-- Scripts of servers that are faultless, and of some that are not: frames, octet by octet, and the steps in which they
-- come.
use Rattle.std.specs.Prelude.{ℕ, List, [], ◌∷◌, ◌++◌, map, take, drop, Some, None, Ok, codes}
use Rattle.amqp_frame.specs.declared.frame.Frame.TheVariants.{Method, Raw, Heartbeat}
use Rattle.amqp_frame.specs.declared.frame.RawKind.TheVariants.{RawMethod, Header, Body}
use Rattle.amqp_frame.specs.declared.method.Method.TheVariants.{Tune, OpenOk, Close, CloseOk, Blocked, Unblocked, UpdateSecretOk, ChannelOpenOk, ChannelClose, ChannelCloseOk}
use Rattle.amqp_uri.specs.Address.{local}
use Rattle.amqp_auth.specs.declared.asked.Asked.{Asked}
use Rattle.amqp_auth.specs.declared.asked.Asked.TheVariants as answer
use Rattle.amqp_commands.specs.declared.command.Cmd.TheVariants.{OpenChannel, CloseChannel, CloseConnection, Publish, Listen}
use Rattle.amqp_settings.specs.Config.{config_of, no_options}
use Rattle.amqp_rules.specs.Talk.{Talk, start as new}
use Rattle.amqp_rules.specs.Commands.{command}
use Rattle.amqp_engine.specs.declared.given.Given.{Given}
use Rattle.amqp_engine.specs.declared.given.GivenStep.{GivenStep}
use Rattle.amqp_engine.specs.declared.given.GivenStep.TheVariants.{Link, Bytes, Tick, Command}
use Rattle.amqp_engine.specs.Valid.{SpelledFrame}
use Rattle.amqp_engine_tests.specs.Accounts.{one, basic_publish, no_properties, body}
use Rattle.amqp_engine_tests.specs.Sayings.{start}

-- a client of the address that says nothing
abbrev pub client : Talk
client = new (config_of local no_options)

-- the same, which keeps its events
abbrev pub listening : Talk
listening = command Listen client

-- who logs in as guest
abbrev pub guest : List Asked
guest = answer.Mechanism (codes "PLAIN") ∷ answer.Starter (Ok (0 ∷ codes "guest" ++ 0 ∷ codes "guest")) ∷ []

-- a token that is valid for a minute, and a new one
abbrev pub token : List ℕ
token = codes "my new valid token"

-- who logs in with the token, and tells it anew at the second of two ticks
abbrev pub renewed : List Asked
renewed =
    answer.Mechanism (codes "PLAIN")
    ∷ answer.Starter (Ok (0 ∷ 0 ∷ token))
    ∷ answer.ValidFor (Some 60000)
    ∷ answer.ValidFor (Some 60000)
    ∷ answer.Refreshed (Ok token)
    ∷ []

-- ---- frames of a server, with their octets (AMQP 0-9-1, 4.2; blocked and unblocked are RabbitMQ's)

-- start
abbrev pub started : SpelledFrame
started =
    record {
      octets =
          1 ∷ 0 ∷ 0 ∷ 0 ∷ 0 ∷ 0 ∷ 97 ∷ 0 ∷ 10 ∷ 0 ∷ 10 ∷ 0 ∷ 9 ∷ 0 ∷ 0 ∷ 0 ∷ 60 ∷ 12 ∷ codes "capabilitiesF"
          ++ 0 ∷ 0 ∷ 0 ∷ 21 ∷ 18 ∷ codes "publisher_confirmst"
          ++ 1 ∷ 7 ∷ codes "productS"
          ++ 0 ∷ 0 ∷ 0 ∷ 8 ∷ codes "RabbitMQ"
          ++ 0 ∷ 0 ∷ 0 ∷ 14 ∷ codes "PLAIN AMQPLAIN"
          ++ 0 ∷ 0 ∷ 0 ∷ 5 ∷ codes "en_US"
          ++ 206 ∷ [];
      frame = start;
    }

-- tune: 2047 channels, frames of 131072 octets, a heartbeat a minute
abbrev pub tuned : SpelledFrame
tuned =
    record {
      octets = 1 ∷ 0 ∷ 0 ∷ 0 ∷ 0 ∷ 0 ∷ 12 ∷ 0 ∷ 10 ∷ 0 ∷ 30 ∷ 7 ∷ 255 ∷ 0 ∷ 2 ∷ 0 ∷ 0 ∷ 0 ∷ 60 ∷ 206 ∷ [];
      frame = Method 0 (Tune 2047 131072 60);
    }

-- open-ok
abbrev pub opened : SpelledFrame
opened =
    record {
      octets = 1 ∷ 0 ∷ 0 ∷ 0 ∷ 0 ∷ 0 ∷ 5 ∷ 0 ∷ 10 ∷ 0 ∷ 41 ∷ 0 ∷ 206 ∷ [];
      frame = Method 0 OpenOk;
    }

-- blocked
abbrev pub blocked : SpelledFrame
blocked =
    record {
      octets = 1 ∷ 0 ∷ 0 ∷ 0 ∷ 0 ∷ 0 ∷ 8 ∷ 0 ∷ 10 ∷ 0 ∷ 60 ∷ 3 ∷ codes "low" ++ 206 ∷ [];
      frame = Method 0 (Blocked (codes "low"));
    }

-- unblocked
abbrev pub unblocked : SpelledFrame
unblocked =
    record {
      octets = 1 ∷ 0 ∷ 0 ∷ 0 ∷ 0 ∷ 0 ∷ 4 ∷ 0 ∷ 10 ∷ 0 ∷ 61 ∷ 206 ∷ [];
      frame = Method 0 Unblocked;
    }

-- close-ok
abbrev pub answered : SpelledFrame
answered =
    record {
      octets = 1 ∷ 0 ∷ 0 ∷ 0 ∷ 0 ∷ 0 ∷ 4 ∷ 0 ∷ 10 ∷ 0 ∷ 51 ∷ 206 ∷ [];
      frame = Method 0 CloseOk;
    }

-- close, without an error
abbrev pub closed : SpelledFrame
closed =
    record {
      octets =
          1 ∷ 0 ∷ 0 ∷ 0 ∷ 0 ∷ 0 ∷ 13 ∷ 0 ∷ 10 ∷ 0 ∷ 50 ∷ 0 ∷ 200 ∷ 2 ∷ codes "OK" ++ 0 ∷ 0 ∷ 0 ∷ 0 ∷ 206 ∷ [];
      frame = Method 0 (Close 200 (codes "OK") 0 0);
    }

-- channel.open-ok of channel 1
abbrev pub channel_opened : SpelledFrame
channel_opened =
    record {
      octets = 1 ∷ 0 ∷ 1 ∷ 0 ∷ 0 ∷ 0 ∷ 8 ∷ 0 ∷ 20 ∷ 0 ∷ 11 ∷ 0 ∷ 0 ∷ 0 ∷ 0 ∷ 206 ∷ [];
      frame = Method 1 ChannelOpenOk;
    }

-- channel.close of channel 1, since a queue is not there
abbrev pub channel_closed : SpelledFrame
channel_closed =
    record {
      octets =
          1 ∷ 0 ∷ 1 ∷ 0 ∷ 0 ∷ 0 ∷ 20 ∷ 0 ∷ 20 ∷ 0 ∷ 40 ∷ 1 ∷ 148 ∷ 9 ∷ codes "NOT_FOUND"
          ++ 0 ∷ 0 ∷ 0 ∷ 0 ∷ 206 ∷ [];
      frame = Method 1 (ChannelClose 404 (codes "NOT_FOUND") 0 0);
    }

-- channel.close-ok of channel 1
abbrev pub channel_answered : SpelledFrame
channel_answered =
    record {
      octets = 1 ∷ 0 ∷ 1 ∷ 0 ∷ 0 ∷ 0 ∷ 4 ∷ 0 ∷ 20 ∷ 0 ∷ 41 ∷ 206 ∷ [];
      frame = Method 1 ChannelCloseOk;
    }

-- update-secret-ok
abbrev pub secret_taken : SpelledFrame
secret_taken =
    record {
      octets = 1 ∷ 0 ∷ 0 ∷ 0 ∷ 0 ∷ 0 ∷ 4 ∷ 0 ∷ 10 ∷ 0 ∷ 71 ∷ 206 ∷ [];
      frame = Method 0 UpdateSecretOk;
    }

-- basic.deliver: to the consumer c, its first delivery, from the exchange without a name, with the routing key q
abbrev pub deliver : List ℕ
deliver = 0 ∷ 60 ∷ 0 ∷ 60 ∷ 1 ∷ 99 ∷ 0 ∷ 0 ∷ 0 ∷ 0 ∷ 0 ∷ 0 ∷ 0 ∷ 1 ∷ 0 ∷ 0 ∷ 1 ∷ 113 ∷ []

-- it comes on channel 1
abbrev pub delivering : SpelledFrame
delivering =
    record {
      octets = 1 ∷ 0 ∷ 1 ∷ 0 ∷ 0 ∷ 0 ∷ 18 ∷ deliver ++ 206 ∷ [];
      frame = Raw 1 RawMethod deliver;
    }

-- the header of a content of two octets
abbrev pub two_octets : List ℕ
two_octets = 0 ∷ 60 ∷ 0 ∷ 0 ∷ 0 ∷ 0 ∷ 0 ∷ 0 ∷ 0 ∷ 0 ∷ 0 ∷ 2 ∷ 0 ∷ 0 ∷ []

-- it comes on channel 1
abbrev pub header_comes : SpelledFrame
header_comes =
    record {
      octets = 2 ∷ 0 ∷ 1 ∷ 0 ∷ 0 ∷ 0 ∷ 14 ∷ two_octets ++ 206 ∷ [];
      frame = Raw 1 Header two_octets;
    }

-- and its body
abbrev pub body_comes : SpelledFrame
body_comes =
    record {
      octets = 3 ∷ 0 ∷ 1 ∷ 0 ∷ 0 ∷ 0 ∷ 2 ∷ 104 ∷ 105 ∷ 206 ∷ [];
      frame = Raw 1 Body (104 ∷ 105 ∷ []);
    }

-- heartbeat
abbrev pub heartbeat : SpelledFrame
heartbeat = record { octets = 8 ∷ 0 ∷ 0 ∷ 0 ∷ 0 ∷ 0 ∷ 0 ∷ 206 ∷ []; frame = Heartbeat }

-- ---- steps

-- steps at one moment
abbrev pub steps_at : ℕ → List GivenStep → List Given
steps_at moment steps = map (λ what. record { at = moment; what = what }) steps

-- each of these frames comes in a piece of its own
abbrev pub comes : List SpelledFrame → List GivenStep
comes spelled = map (λ (s : SpelledFrame). Bytes s.octets) spelled

-- our command to close the connection
abbrev pub shut : GivenStep
shut = Command (CloseConnection 200 (codes "OK"))

-- a link, the handshake, our close
abbrev pub closed_by_us : List Given
closed_by_us = steps_at 0 (Link None ∷ comes (started ∷ tuned ∷ opened ∷ []) ++ shut ∷ comes (answered ∷ []))

-- the same in pieces that do not end with their frames
abbrev pub in_pieces : List Given
in_pieces =
    steps_at 0 (
    Link None
    ∷ Bytes (take 3 started.octets)
    ∷ Bytes (drop 3 started.octets ++ take 5 tuned.octets)
    ∷ Bytes (drop 5 tuned.octets)
    ∷ Bytes opened.octets
    ∷ shut
    ∷ Bytes answered.octets
    ∷ [])

-- the server closes the connection without an error, in one piece with a heartbeat
abbrev pub closed_by_them : List Given
closed_by_them =
    steps_at 0 (Link None ∷ comes (started ∷ tuned ∷ opened ∷ []) ++ Bytes (heartbeat.octets ++ closed.octets) ∷ [])

-- our close waits while the server blocks; the tick is less than two minutes after what came last
abbrev pub blocked_a_while : List Given
blocked_a_while =
    steps_at 0 (Link None ∷ comes (started ∷ tuned ∷ opened ∷ blocked ∷ []) ++ shut ∷ [])
    ++ steps_at 40000 (Tick ∷ comes (unblocked ∷ answered ∷ []))

-- nothing comes for two minutes, and no more: two heartbeats, as they are agreed
abbrev pub heard_in_time : List Given
heard_in_time =
    steps_at 0 (Link None ∷ comes (started ∷ tuned ∷ opened ∷ []))
    ++ steps_at 120000 (Tick ∷ shut ∷ comes (answered ∷ []))

-- a channel is opened, a message is published on it and one is delivered, and the channel is closed
abbrev pub messages_pass : List Given
messages_pass =
    steps_at 0 (
    Link None
    ∷ comes (started ∷ tuned ∷ opened ∷ [])
    ++ Command OpenChannel
    ∷ comes (channel_opened ∷ [])
    ++ Command (Publish one basic_publish no_properties body)
    ∷ comes (delivering ∷ header_comes ∷ body_comes ∷ [])
    ++ Command (CloseChannel one 200 (codes "OK"))
    ∷ comes (channel_answered ∷ [])
    ++ shut
    ∷ comes (answered ∷ []))

-- the token is told anew once its minute is over, and not before
abbrev pub token_renewed : List Given
token_renewed =
    steps_at 0 (Link None ∷ comes (started ∷ tuned ∷ opened ∷ []))
    ++ steps_at 59999 (Tick ∷ [])
    ++ steps_at 60000 (Tick ∷ comes (secret_taken ∷ []) ++ shut ∷ comes (answered ∷ []))

-- the server tunes in one piece with its start, before we logged in
abbrev pub tunes_at_once : List Given
tunes_at_once =
    steps_at 0 (
    Link None ∷ Bytes (started.octets ++ tuned.octets) ∷ comes (opened ∷ []) ++ shut ∷ comes (answered ∷ []))

-- nothing comes for more than two minutes
abbrev pub missed : List Given
missed =
    steps_at 0 (Link None ∷ comes (started ∷ tuned ∷ opened ∷ []))
    ++ steps_at 120000 (Tick ∷ [])
    ++ steps_at 120001 (Tick ∷ comes (heartbeat ∷ []) ++ shut ∷ comes (answered ∷ []))

-- the server closes a channel that we closed, and does not answer
abbrev pub closes_cross : List Given
closes_cross =
    steps_at 0 (
    Link None
    ∷ comes (started ∷ tuned ∷ opened ∷ [])
    ++ Command OpenChannel
    ∷ comes (channel_opened ∷ [])
    ++ Command (CloseChannel one 200 (codes "OK"))
    ∷ comes (channel_closed ∷ [])
    ++ shut
    ∷ comes (answered ∷ []))
