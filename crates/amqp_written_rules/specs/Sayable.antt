-- What is asked of what a session is made from, of what it is told and of what is answered to it, so that all that it
-- says can be written: that numbers are in the range of their types, and that short strings are short.
use Rattle.std.specs.Prelude.{◌<◌, ◌^◌, length}
use Rattle.amqp_frame.specs.Rules.{KeepsTable}
use Rattle.amqp_auth.specs.declared.asked.Asked.{Asked}
use Rattle.amqp_auth.specs.declared.asked.Asked.TheVariants as answer
use Rattle.amqp_commands.specs.declared.command.Cmd.{Cmd}
use Rattle.amqp_commands.specs.declared.command.Cmd.TheVariants.{CloseChannel, CloseConnection, UpdateSecret}
use Rattle.amqp_settings.specs.declared.configuration.Configuration.{Configuration}
use Rattle.amqp_settings.specs.Config.{Config, own_numbers}
use Rattle.amqp_settings.specs.Handshake.{client_properties}

-- the numbers of a connection are in the range of their types
abbrev pub AreInRange : Configuration → Type 0
AreInRange n = (n.channel_max < 2 ^ 16) × (n.frame_max < 2 ^ 32) × (n.heartbeat < 2 ^ 16)

-- what the address wishes, and what the client says of itself, can be written
pub record CanBeSaid (c : Config) : Type 0 where
  pub numbers : AreInRange (own_numbers c.uri.query)
  pub vhost : length c.uri.vhost < 2 ^ 8
  pub locale : length c.options.locale < 2 ^ 8
  pub properties : KeepsTable (client_properties c.options.properties)

-- what a command says of its own can be written: the code and the text of a close, and the reason for a new secret
abbrev pub CanBeTold : Cmd → Type 0
CanBeTold (CloseChannel channel code text) = (code < 2 ^ 16) × (length text < 2 ^ 8)
CanBeTold (CloseConnection code text) = (code < 2 ^ 16) × (length text < 2 ^ 8)
CanBeTold (UpdateSecret secret reason) = length reason < 2 ^ 8
CanBeTold _ = Unit {0}

-- what a provider answers can be written: a mechanism has a short string for a name
abbrev pub CanBeAnswered : Asked → Type 0
CanBeAnswered (answer.Mechanism name) = length name < 2 ^ 8
CanBeAnswered _ = Unit {0}
