-- What a session is made from: the address, and what its user says of the client.
use Rattle.std.specs.Prelude.{ℕ, if◌then◌else◌, List, [], ◌∷◌, Bool, true, false, Option, Some, None, codes, unwrap_or}
use Rattle.amqp_types.specs.Value.{FieldValue, Pair, scalar, long_string}
use Rattle.amqp_types.specs.Table.{put}
use Rattle.amqp_uri.specs.declared.uri.AMQPUri.{AMQPUri}
use Rattle.amqp_uri.specs.declared.query.AMQPQuery.{AMQPQuery}
use Rattle.amqp_uri.specs.Query.{kept_frame_max}
use Rattle.amqp_settings.specs.declared.configuration.Configuration.{Configuration}

-- what the user says of the client, as contracts see `ConnectionProperties`
pub record Options : Type 0 where
  -- the language in which the server's texts are wanted
  pub locale : List ℕ
  -- the client's properties, by name
  pub properties : List Pair
  -- how long the session waits, time after time, where it has no link and is to have one, in milliseconds; and whether
  -- that was said
  pub delays : List ℕ
  pub has_delays : Bool
  -- whether the session goes on where its link is lost
  pub recover : Bool
  -- how many octets may wait to be committed once a send or a publish is told, where that is limited
  pub outbox_limit : Option ℕ

-- what a session is made from; no rule changes it
pub record Config : Type 0 where
  -- where it connects, as whom, and which numbers it wishes
  pub uri : AMQPUri
  -- what its user says of the client
  pub options : Options

-- both together
abbrev pub config_of : AMQPUri → Options → Config
config_of uri options = record { uri = uri; options = options }

-- ---- what the user says

-- a text as a value
abbrev pub text_value : List ℕ → FieldValue
text_value content = scalar (long_string content)

-- nothing beside what every client says: texts in English, no properties, no delays, no recovery, and no limit
abbrev pub no_options : Options
no_options =
    record {
      locale = codes "en_US";
      properties = [];
      delays = [];
      has_delays = false;
      recover = false;
      outbox_limit = None;
    }

-- the same with another language
abbrev pub with_locale : List ℕ → Options → Options
with_locale locale options = record options { locale = locale }

-- the same with a property, which takes the place of one with its name
abbrev pub with_property : List ℕ → List ℕ → Options → Options
with_property name text options = record options { properties = put options.properties name (text_value text) }

-- the same with a name of the connection, by which RabbitMQ shows it
abbrev pub with_name : List ℕ → Options → Options
with_name name options = with_property (codes "connection_name") name options

-- the same with other delays
abbrev pub with_backoff : List ℕ → Options → Options
with_backoff delays options = record options { delays = delays; has_delays = true }

-- the delays of a session that recovers, where its user said none: from a second on each is twice the one before, and
-- ten more of a minute
abbrev pub default_delays : List ℕ
default_delays =
    1000 ∷ 2000 ∷ 4000 ∷ 8000 ∷ 16000 ∷ 32000
    ∷ 60000 ∷ 60000 ∷ 60000 ∷ 60000 ∷ 60000 ∷ 60000 ∷ 60000 ∷ 60000 ∷ 60000 ∷ 60000
    ∷ []

-- the delays of a session that recovers: those that were said, where some were
abbrev pub recovery_delays : Options → List ℕ
recovery_delays options = if options.has_delays then options.delays else default_delays

-- the same, and the session goes on where its link is lost, with delays of its own where none were said
abbrev pub with_recovery : Options → Options
with_recovery options = record options { delays = recovery_delays options; recover = true }

-- the same with a limit on the octets that wait to be committed
abbrev pub with_outbox_limit : ℕ → Options → Options
with_outbox_limit limit options = record options { outbox_limit = Some limit }

-- ---- what the address says

-- the numbers that an address wishes, 0 where it has none
abbrev pub own_numbers : AMQPQuery → Configuration
own_numbers query =
    record {
      channel_max = unwrap_or query.channel_max 0;
      frame_max = kept_frame_max (unwrap_or query.frame_max 0);
      heartbeat = unwrap_or query.heartbeat 0;
    }
