-- The errors of connecting, and why a loop was not started.
use Rattle.std.specs.Prelude.{ℕ, Option, Some, None, Result, Ok, Err}
use Rattle.amqp_types.specs.Counts.{Rose}
use Rattle.amqp_types.specs.declared.word.Word.{Word}
use Rattle.amqp_types.specs.declared.word.Word.TheVariants.{NoLoop}
use Rattle.amqp_promise.specs.declared.error.ErrorKind.{ErrorKind}
use Rattle.amqp_promise.specs.declared.error.ErrorKind.TheVariants.{IOError, NoMemory}
use Rattle.amqp_promise.specs.declared.io_fault.IoFault.TheVariants.{Other}
use Rattle.amqp_uri.specs.declared.fault.UriFault.{UriFault}
use Rattle.amqp_uri.specs.Faults.{word_of}
use Rattle.lapin_connection.specs.declared.spawner.SpawnFault.{SpawnFault}
use Rattle.lapin_connection.specs.declared.spawner.SpawnFault.TheVariants as start

-- an error of input and output by its word; without one it is NoMemory
abbrev pub error_by : Option Word → ErrorKind
error_by None = NoMemory
error_by (Some word) = IOError (Other word)

-- the error of a text that is no address
abbrev pub error_of_address : UriFault → ErrorKind
error_of_address fault = error_by (word_of fault)

-- the error of a loop that was not started
abbrev pub error_of_start : SpawnFault → ErrorKind
error_of_start start.Refused = IOError (Other NoLoop)
error_of_start start.NoMemory = NoMemory

-- where a spawner refused, its count rose
abbrev pub RoseIfRefused : {A : Type 0} → Result A SpawnFault → ℕ → ℕ → Type 0
RoseIfRefused (Ok x) before after = Unit {0}
RoseIfRefused (Err start.NoMemory) before after = Unit {0}
RoseIfRefused (Err start.Refused) before after = Rose before after
