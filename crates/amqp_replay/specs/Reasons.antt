-- Why something is closed, as it is read of a line.
use Rattle.std.specs.Prelude.{◌≡◌, ℕ, List, Option, Some, None}
use Rattle.amqp_commands.specs.declared.command.Cmd.{Cmd}
use Rattle.amqp_engine.specs.declared.given.GivenStep.TheVariants.{Command}
use Rattle.amqp_replay.specs.declared.grammar.Reason.{Reason}
use Rattle.amqp_replay.specs.declared.grammar.Said.{Said}
use Rattle.amqp_replay.specs.declared.grammar.Said.TheVariants.{Refused, Step}
use Rattle.amqp_replay.specs.Grammar.{closes}

-- something is closed for a reason, where there is one
abbrev pub closes_for : (ℕ → List ℕ → Cmd) → Option Reason → Said
closes_for cmd None = Refused
closes_for cmd (Some r) = Step (Command (cmd r.code r.text)) 0

-- whatever is closed, the line says so with this reason
abbrev pub GivesReason : Option Reason → Option (List ℕ) → Type 0
GivesReason r rest = (cmd : ℕ → List ℕ → Cmd) → closes cmd rest ≡ closes_for cmd r
