-- What the script of a number says: nothing of the client, and these steps, all of the moment 0.
use Rattle.std.specs.Prelude.{ℕ, ◌*◌, ◌%◌, true, false, List, [], ◌∷◌, ◌++◌, map, replicate, None, codes}
use Rattle.std.specs.List.{flat_map, range_with_len}
use Rattle.amqp_types.specs.Value.{Pair, scalar, boolean, long_string, table, pairs_from}
use Rattle.amqp_frame.specs.declared.frame.Frame.{Frame}
use Rattle.amqp_frame.specs.declared.frame.Frame.TheVariants.{Method}
use Rattle.amqp_frame.specs.declared.method.Method.TheVariants.{Start, Tune, OpenOk, CloseOk, ChannelOpenOk}
use Rattle.amqp_frame.specs.Frames.{encoding}
use Rattle.amqp_uri.specs.Address.{local}
use Rattle.amqp_settings.specs.Config.{config_of, no_options}
use Rattle.amqp_commands.specs.declared.command.Cmd.TheVariants.{OpenChannel, CloseConnection, Publish}
use Rattle.amqp_engine.specs.declared.given.GivenStep.{GivenStep}
use Rattle.amqp_engine.specs.declared.given.GivenStep.TheVariants.{Link, Bytes, Command}
use Rattle.amqp_replay.specs.Grammar.{Scenario, given, numbered, sent_method}

-- a frame comes, whole in a piece of its own
abbrev pub frame_comes : Frame → GivenStep
frame_comes frame = Bytes (encoding frame)

-- what the server says of itself
abbrev pub broker_properties : List Pair
broker_properties =
    (codes "capabilities", table (pairs_from ((codes "publisher_confirms", scalar (boolean true)) ∷ [])))
    ∷ (codes "product", scalar (long_string (codes "RabbitMQ")))
    ∷ []

-- its start, its tune (at most 2,047 channels, frames of at most 131,072 octets, a heartbeat a minute), its open-ok
abbrev pub broker_frames : List Frame
broker_frames =
    Method 0 (Start 0 9 broker_properties (codes "PLAIN AMQPLAIN") (codes "en_US"))
    ∷ Method 0 (Tune 2047 131072 60)
    ∷ Method 0 OpenOk
    ∷ []

-- a channel is opened, and the server answers
abbrev pub channel_steps : ℕ → List GivenStep
channel_steps id = Command OpenChannel ∷ frame_comes (Method id ChannelOpenOk) ∷ []

-- basic.publish to the exchange without a name, with the routing key `hello`, without properties, and a body of so many
-- zeros
abbrev pub publish_hello : ℕ → ℕ → GivenStep
publish_hello id size =
    Command
    (Publish
    (numbered id)
    (sent_method 60 40 (0 ∷ 0 ∷ 0 ∷ 5 ∷ codes "hello" ++ 0 ∷ []))
    (0 ∷ 0 ∷ [])
    (replicate size 0))

-- one message is published on a channel, whose number tells the size
abbrev pub publish_step : ℕ → GivenStep
publish_step id = publish_hello id (id * 7919 % 9000)

-- what happens, line by line
abbrev pub generated_steps : ℕ → List GivenStep
generated_steps count =
    Link None
    ∷ map frame_comes broker_frames
    ++ flat_map channel_steps (range_with_len 1 count)
    ++ map publish_step (range_with_len 1 count)
    ++ Command (CloseConnection 200 (codes "OK"))
    ∷ frame_comes (Method 0 CloseOk)
    ∷ []

-- what the script says
abbrev pub generated_scenario : ℕ → Scenario
generated_scenario count =
    record {
      config = config_of local no_options;
      handed = false;
      listens = false;
      steps = map (given 0) (generated_steps count);
    }
