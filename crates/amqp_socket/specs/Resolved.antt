-- The addresses of a host by its name.
use Rattle.std.specs.Prelude.{◌≡◌}
use Rattle.amqp_uri.specs.declared.uri.AMQPUri.{AMQPUri}

-- an AMQP address is another one, but for its host
abbrev pub IsAt : AMQPUri → AMQPUri → Type 0
IsAt uri at = at ≡ record uri { authority = record uri.authority { host = at.authority.host } }
