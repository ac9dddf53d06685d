-- How a builder's connecting is answered.
use Rattle.std.specs.Prelude.{◌≡◌, ◌⊎◌, ℕ, List, Option, Result, Ok, Err}
use Rattle.std.specs.String.{string_bytes}
use Rattle.amqp_types.specs.declared.word.Word.TheVariants.{NoUriGiven}
use Rattle.amqp_promise.specs.declared.error.ErrorKind.{ErrorKind}
use Rattle.amqp_promise.specs.declared.error.ErrorKind.TheVariants.{IOError}
use Rattle.amqp_promise.specs.declared.io_fault.IoFault.TheVariants.{Other}
use Rattle.amqp_promise.specs.declared.error.ErrorKind.TheVariants.{NoMemory}
use Rattle.amqp_uri.specs.Address.{address_of_text}
use Rattle.amqp_uri.specs.declared.fault.UriFault.{UriFault}
use Rattle.amqp_uri.specs.declared.uri.AMQPUri.{AMQPUri}
use Rattle.lapin_connection.specs.Refusals.{error_of_address}
use Rattle.lapin_connection.specs.declared.builder.Address.{Address}
use Rattle.lapin_connection.specs.declared.builder.Address.TheVariants as address
use Rattle.amqp_settings.specs.Config.{Options}
use Rattle.lapin_connection.specs.declared.connection.Connection.{Connection}
use Rattle.lapin_connection.specs.Connecting.{Connects, ConnectsToText, HasBegun, HasBegunBy}

-- the address that is read, or why there is none: by what it was read as, or NoMemory
abbrev pub ReadsBy : Result AMQPUri UriFault → Result AMQPUri ErrorKind → Type 0
ReadsBy known (Ok uri) = known ≡ Ok uri
ReadsBy (Ok uri) (Err e) = e ≡ NoMemory
ReadsBy (Err fault) (Err e) = (e ≡ NoMemory) ⊎ (e ≡ error_of_address fault)

-- the same of what was given as an address
abbrev pub ReadsAs : Address → Result AMQPUri ErrorKind → Type 0
ReadsAs address.Unset read = read ≡ Err (IOError (Other NoUriGiven))
ReadsAs (address.Uri uri) read = read ≡ Ok uri
ReadsAs (address.Text text) read = ReadsBy (address_of_text (string_bytes text)) read

-- by what was given last as an address: nothing is an error of its own; an address and a text are connected to
abbrev pub Builds : {A : Type 0} → Address → ℕ → ℕ → Result A ErrorKind → Type 0
Builds address.Unset before after answer = answer ≡ Err (IOError (Other NoUriGiven))
Builds (address.Uri uri) before after answer = Connects before after answer
Builds (address.Text text) before after answer = ConnectsToText (string_bytes text) before after answer

-- a connection has begun to what was given last as an address
abbrev pub HasBegunAs : Option AMQPUri → Address → Options → Connection → Type 0
HasBegunAs asked address.Unset options c = ⊥
HasBegunAs asked (address.Uri uri) options c = HasBegun asked uri options c
HasBegunAs asked (address.Text text) options c = HasBegunBy asked (address_of_text (string_bytes text)) options c
