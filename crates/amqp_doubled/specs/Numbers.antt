-- `double N`, and the plan that a number makes.
use Rattle.std.specs.Prelude.{ℕ, ◌*◌, ◌%◌, if◌then◌else◌, List, [], ◌∷◌, ◌++◌, map, replicate, Option, None, codes}
use Rattle.std.specs.List.{range_with_len}
use Rattle.std.specs.Str.{bytes_eq}
use Rattle.amqp_commands.specs.declared.command.Cmd.{Cmd}
use Rattle.amqp_commands.specs.declared.command.Cmd.TheVariants.{OpenChannel, Publish}
use Rattle.amqp_settings.specs.declared.configuration.Configuration.{Configuration}
use Rattle.amqp_replay.specs.declared.limits.TheConstants.{MOST_GENERATED}
use Rattle.amqp_replay.specs.Decimals.{decimal_number}
use Rattle.amqp_replay.specs.Grammar.{numbered, sent_method}
use Rattle.amqp_joining.specs.Plans.{JoinPlan}

-- `double N`, N being decimal digits of a number from 0 to 2,000
abbrev pub double_in : List ℕ → List ℕ → Option ℕ
double_in word digits = if bytes_eq word (codes "double") then decimal_number MOST_GENERATED digits else None

-- the number, where the words are these
abbrev pub doubled_number : List (List ℕ) → Option ℕ
doubled_number (word ∷ digits ∷ []) = double_in word digits
doubled_number _ = None

-- what the double wishes for in its tune
abbrev pub double_numbers : Configuration
double_numbers = record { channel_max = 2047; frame_max = 131072; heartbeat = 60 }

-- basic.publish to the exchange without a name, with the routing key `hello`, without properties, and a body of zeros,
-- on a channel whose number tells how many
abbrev pub hello_command : ℕ → Cmd
hello_command id =
    Publish
    (numbered id)
    (sent_method 60 40 (0 ∷ 0 ∷ 0 ∷ 5 ∷ codes "hello" ++ 0 ∷ []))
    (0 ∷ 0 ∷ [])
    (replicate (id * 7919 % 9000) 0)

-- so many channels are opened, and a message is published on each
abbrev pub doubled_commands : ℕ → List Cmd
doubled_commands count = replicate count OpenChannel ++ map hello_command (range_with_len 1 count)

-- that, cut and with room by turns
abbrev pub doubled_plan : ℕ → JoinPlan
doubled_plan count =
    record { cuts = 1 ∷ 7 ∷ 4096 ∷ []; rooms = 1 ∷ 100 ∷ 5000 ∷ []; commands = doubled_commands count }
