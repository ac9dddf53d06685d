-- How connecting is answered.
use Rattle.std.specs.Prelude.{◌≡◌, ◌⊎◌, ℕ, List, slice_get, Option, Some, Result, Ok, Err}
use Rattle.amqp_types.specs.Counts.{Rose}
use Rattle.amqp_types.specs.declared.word.Word.TheVariants.{NoLoop}
use Rattle.amqp_promise.specs.declared.error.ErrorKind.{ErrorKind}
use Rattle.amqp_promise.specs.declared.error.ErrorKind.TheVariants.{IOError, NoMemory}
use Rattle.amqp_promise.specs.declared.io_fault.IoFault.TheVariants.{Other}
use Rattle.amqp_uri.specs.Address.{address_of_text}
use Rattle.amqp_uri.specs.declared.fault.UriFault.{UriFault}
use Rattle.amqp_uri.specs.declared.uri.AMQPUri.{AMQPUri}
use Rattle.amqp_settings.specs.Config.{Options, config_of}
use Rattle.amqp_rules.specs.Talk.{start}
use Rattle.amqp_engine.specs.Engine.{Engine, begin}
use Rattle.amqp_engine.specs.Turn.{asks}
use Rattle.lapin_connection.specs.Refusals.{error_of_address}
use Rattle.lapin_connection.specs.Handles.{engine_begun}
use Rattle.lapin_connection.specs.declared.connection.Connection.{Connection}

-- an engine that asks for its first link, to this address with these options
abbrev pub asking : AMQPUri → Options → Engine
asking uri options = asks (begin (start (config_of uri options)))

-- no loop was started, and the spawner counts a refusal
abbrev pub IsNoLoop : ℕ → ℕ → ErrorKind → Type 0
IsNoLoop before after e = (e ≡ IOError (Other NoLoop)) × Rose before after

-- connecting to an address is refused with NoMemory, or by the spawner
abbrev pub Connects : {A : Type 0} → ℕ → ℕ → Result A ErrorKind → Type 0
Connects before after (Ok c) = Unit {0}
Connects before after (Err e) = (e ≡ NoMemory) ⊎ IsNoLoop before after e

-- connecting to a text: it is an address, and to connect to that is answered; or it is none, and the error is its
-- fault, or NoMemory
abbrev pub ConnectsBy : {A : Type 0} → Result AMQPUri UriFault → ℕ → ℕ → Result A ErrorKind → Type 0
ConnectsBy (Ok uri) before after answer = Connects before after answer
ConnectsBy (Err fault) before after (Ok c) = ⊥
ConnectsBy (Err fault) before after (Err e) = (e ≡ NoMemory) ⊎ (e ≡ error_of_address fault)

-- the same of a text
abbrev pub ConnectsToText : {A : Type 0} → List ℕ → ℕ → ℕ → Result A ErrorKind → Type 0
ConnectsToText text before after answer = ConnectsBy (address_of_text text) before after answer

-- a connection has begun: a port to this address was asked for last, and its engine was one that asks for its first
-- link, to this address with these options
abbrev pub HasBegun : Option AMQPUri → AMQPUri → Options → Connection → Type 0
HasBegun asked uri options c = (asked ≡ Some uri) × (engine_begun c ≡ asking uri options)

-- the same of the address that a text was read as
abbrev pub HasBegunBy : Option AMQPUri → Result AMQPUri UriFault → Options → Connection → Type 0
HasBegunBy asked (Ok uri) options c = HasBegun asked uri options c
HasBegunBy asked (Err fault) options c = ⊥

-- a connection has begun to this address, with some options
abbrev pub HasBegunTo : Option AMQPUri → AMQPUri → Connection → Type 0
HasBegunTo asked uri c = (asked ≡ Some uri) × ((engine_begun c).talk.config.uri ≡ uri)

-- the same to one of these addresses
abbrev pub HasReached : Option AMQPUri → List AMQPUri → Connection → Type 0
HasReached asked uris c = (n : ℕ) × (uri : AMQPUri) × (slice_get uris n ≡ Some uri) × HasBegunTo asked uri c
