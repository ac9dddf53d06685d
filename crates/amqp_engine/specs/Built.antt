-- What an engine is made from can be said, where it comes from the calls that make it: an address, and what its user
-- says of the client.
use Rattle.std.specs.Prelude.{ℕ, ◌<◌, ◌^◌, List, length}
use Rattle.amqp_uri.specs.declared.uri.AMQPUri.{AMQPUri}
use Rattle.amqp_settings.specs.Config.{Options, no_options, with_locale, with_property, with_name, with_backoff, with_recovery, with_outbox_limit, own_numbers}
use Rattle.amqp_written_rules.specs.Sayable.{AreInRange}

-- the numbers of an address are in the range of their types, and its virtual host is a short string
abbrev pub IsSayableAddress : AMQPUri → Type 0
IsSayableAddress uri = AreInRange (own_numbers uri.query) × (length uri.vhost < 2 ^ 8)

-- what a user says of the client by one call after another, a locale and the names of properties being short strings
pub data AreBuilt : Options → Type 0 where
  nothing : AreBuilt no_options
  locale : {o : Options} (text : List ℕ) → length text < 2 ^ 8 → AreBuilt o → AreBuilt (with_locale text o)
  property : {o : Options} (key text : List ℕ) → length key < 2 ^ 8 → AreBuilt o → AreBuilt (with_property key text o)
  name : {o : Options} (text : List ℕ) → AreBuilt o → AreBuilt (with_name text o)
  backoff : {o : Options} (delays : List ℕ) → AreBuilt o → AreBuilt (with_backoff delays o)
  recovery : {o : Options} → AreBuilt o → AreBuilt (with_recovery o)
  limit : {o : Options} (octets : ℕ) → AreBuilt o → AreBuilt (with_outbox_limit octets o)
