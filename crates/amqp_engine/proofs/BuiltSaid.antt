-- What an engine is made from can be said.
use Rattle.std.proofs.Common.{◌<◌, ◌^◌, length, arith}
use Rattle.std.specs.Prelude.{codes}
use Rattle.amqp_uri.specs.declared.uri.AMQPUri.{AMQPUri}
use Rattle.amqp_settings.specs.Config.{Options, config_of}
use Rattle.amqp_written_rules.specs.Sayable.{CanBeSaid}
use Rattle.amqp_written_rules.proofs.Introducing.{AreProperties, put-text, properties-said}
use Rattle.amqp_engine.specs.Built.{IsSayableAddress, AreBuilt}

-- the locale is short, and the properties can be spelled
record AreSayable (o : Options) : Type 0 where
  locale : length o.locale < 2 ^ 8
  properties : AreProperties o.properties

sayable : (o : Options) → AreBuilt o → AreSayable o
sayable o AreBuilt.nothing = record { locale = omega arith; properties = (tt, tt) }
sayable o (AreBuilt.locale {o = o'} text short h) = record { locale = short; properties = (sayable o' h).properties }
sayable o (AreBuilt.property {o = o'} key text short h) =
    let k = sayable o' h in
    record { locale = k.locale; properties = put-text o'.properties key text k.properties short }
sayable o (AreBuilt.name {o = o'} text h) =
    let k = sayable o' h in
    record { locale = k.locale; properties = put-text o'.properties (codes "connection_name") text k.properties (omega arith) }
sayable o (AreBuilt.backoff {o = o'} delays h) = record { locale = (sayable o' h).locale; properties = (sayable o' h).properties }
sayable o (AreBuilt.recovery {o = o'} h) = record { locale = (sayable o' h).locale; properties = (sayable o' h).properties }
sayable o (AreBuilt.limit {o = o'} octets h) = record { locale = (sayable o' h).locale; properties = (sayable o' h).properties }

pub built-said : (uri : AMQPUri) (o : Options) → IsSayableAddress uri → AreBuilt o → CanBeSaid (config_of uri o)
built-said uri o address built =
    let k = sayable o built in
    record { numbers = address.0; vhost = address.1; locale = k.locale; properties = properties-said o.properties k.properties }
