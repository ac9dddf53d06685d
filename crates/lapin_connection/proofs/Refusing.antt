-- An address that is refused is refused so by a builder.
use Rattle.std.proofs.Common.{◌≡◌, ◌⊎◌, inl, ℕ, List, ap, Result, Ok, Err}
use Rattle.std.specs.String.{string_bytes}
use Rattle.amqp_promise.specs.declared.error.ErrorKind.{ErrorKind}
use Rattle.amqp_promise.specs.declared.error.ErrorKind.TheVariants.{IOError}
use Rattle.amqp_promise.specs.declared.io_fault.IoFault.TheVariants.{Other}
use Rattle.amqp_types.specs.declared.word.Word.TheVariants.{NoUriGiven}
use Rattle.amqp_uri.specs.Address.{address_of_text}
use Rattle.amqp_uri.specs.declared.fault.UriFault.{UriFault}
use Rattle.amqp_uri.specs.declared.uri.AMQPUri.{AMQPUri}
use Rattle.lapin_connection.specs.declared.builder.Address.{Address}
use Rattle.lapin_connection.specs.declared.builder.Address.TheVariants as address
use Rattle.lapin_connection.specs.Connecting.{ConnectsBy}
use Rattle.lapin_connection.specs.Building.{ReadsBy, ReadsAs, Builds}

module _ (A : Type 0) (e : ErrorKind) (before after : ℕ) where
  -- a text that is no address, or for which memory was refused
  by-text : (k : Result AMQPUri UriFault) → ReadsBy k (Err e) → ConnectsBy {A = A} k before after (Err e)
  by-text (Ok uri) h = inl h
  by-text (Err fault) h = h

  pub refused-builds : (a : Address) → ReadsAs a (Err e) → Builds {A = A} a before after (Err e)
  refused-builds address.Unset h = let same : e ≡ IOError (Other NoUriGiven) = cc in ap Err same
  refused-builds (address.Uri uri) h = absurd cc
  refused-builds (address.Text text) h = by-text (address_of_text (string_bytes text)) h
