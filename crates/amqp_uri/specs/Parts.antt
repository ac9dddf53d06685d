-- How conversions of faults, single pairs and fields are seen; no public call's contract cites it.
use Rattle.std.specs.Prelude.{ℕ, List, ◌++◌, Result}
use Rattle.std.specs.Option.{option_or}
use Rattle.amqp_types.specs.Forms.{spell_short_string}
use Rattle.amqp_types.specs.Value.{scalar, long_string}
use Rattle.amqp_types.specs.Spelling.{spell}
use Rattle.url.specs.declared.error.ParseError.{ParseError}
use Rattle.url.specs.declared.error.ParseError.TheVariants.{Overflow, OutOfMemory}
use Rattle.amqp_uri.specs.declared.fault.UriFault.{UriFault}
use Rattle.amqp_uri.specs.declared.fault.UriFault.TheVariants.{NotAmqp, NoMemory}
use Rattle.amqp_uri.specs.declared.query.AMQPQuery.{AMQPQuery}
use Rattle.amqp_uri.specs.Query.{QueryPair, pair_frame_max, pair_channel_max, pair_heartbeat, pair_mechanism, refusal_of, unless}

-- why a URL could not be made: for want of room, or since the text is none
abbrev pub of_parsing : ParseError → UriFault
of_parsing OutOfMemory = NoMemory
of_parsing Overflow = NoMemory
of_parsing _ = NotAmqp

-- what a pair wishes, over what was wished before
abbrev pub onto : AMQPQuery → QueryPair → AMQPQuery
onto query pair = record {
  frame_max = option_or (pair_frame_max pair) query.frame_max;
  channel_max = option_or (pair_channel_max pair) query.channel_max;
  heartbeat = option_or (pair_heartbeat pair) query.heartbeat;
  auth_mechanism = option_or (pair_mechanism pair) query.auth_mechanism;
}

-- the same, unless the pair is refused
abbrev pub with_pair : AMQPQuery → QueryPair → Result AMQPQuery UriFault
with_pair query pair = unless (refusal_of pair) (onto query pair)

-- a pair of a field table whose value is a long string
abbrev pub spell_field : List ℕ → List ℕ → List ℕ
spell_field name value = spell_short_string name ++ spell (scalar (long_string value))
