-- What is shown of a command.
use Rattle.std.specs.Prelude.{List, ℕ, codes, Option, Some, None}
use Rattle.amqp_commands.specs.declared.command.Cmd.{Cmd}
use Rattle.amqp_commands.specs.declared.command.Cmd.TheVariants.{UpdateSecret}

-- what `Debug` shows of a command that carries a secret; of all others nothing is said
abbrev pub command_debug : Cmd → Option (List ℕ)
command_debug (UpdateSecret secret reason) = Some (codes "UpdateSecret(..)")
command_debug _ = None
