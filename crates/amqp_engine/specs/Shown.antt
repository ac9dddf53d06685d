-- What `Debug` prints of an engine.
use Rattle.std.specs.Prelude.{List, ℕ, ◌++◌, length, codes}
use Rattle.std.specs.Fmt.{decimal}
use Rattle.amqp_promise.specs.Errors.{state_name}
use Rattle.amqp_engine.specs.Engine.{Engine}

-- the state of an engine, how many channels are listed and how many promises were made, and how many bytes are unread
-- and unsent
abbrev pub shown_parts : Engine → List ℕ
shown_parts e =
    state_name e.talk.state
    ++ (codes ", channels: "
    ++ (decimal (length e.talk.channels)
    ++ (codes ", promises: "
    ++ (decimal e.talk.made
    ++ (codes ", unread: "
    ++ (decimal (length e.unread) ++ (codes ", unsent: " ++ (decimal (length e.unsent) ++ codes ", .. }"))))))))

-- an engine that runs, as it is shown
abbrev pub loop_debug : Engine → List ℕ
loop_debug e = codes "IoLoop { state: " ++ shown_parts e

-- an engine that stands still, as it is shown
abbrev pub kept_debug : Engine → List ℕ
kept_debug e = codes "KeptLoop { state: " ++ shown_parts e
