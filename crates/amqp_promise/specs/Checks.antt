-- What a holder of errors tells.
use Rattle.std.specs.Prelude.{◌≡◌, ◌⊎◌, Option, Some, None, Result, Ok, Err}
use Rattle.amqp_promise.specs.declared.error.ErrorKind.{ErrorKind}
use Rattle.amqp_promise.specs.declared.error.ErrorKind.TheVariants.{NoMemory}

-- Ok where no error was set, and else the last one that was set, or NoMemory where memory for its copy was refused
abbrev pub Checks : Option ErrorKind → Result (Unit {0}) ErrorKind → Type 0
Checks None (Ok told) = Unit {0}
Checks None (Err error) = ⊥
Checks (Some held) (Ok told) = ⊥
Checks (Some held) (Err error) = (error ≡ held) ⊎ (error ≡ NoMemory)
