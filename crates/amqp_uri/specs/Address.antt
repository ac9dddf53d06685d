-- Which address a text is, or why it is none: a function of the URL that the text parses to (URL Standard, 4.4).
use Rattle.std.specs.Prelude.{ℕ, nat_lt, ◌==◌, List, drop, length, slice_index, codes, bytes_eq, None, Result, Ok, Err, if◌then◌else◌}
use Rattle.url.specs.Ascii.{slash}
use Rattle.url.specs.Input.{is_empty}
use Rattle.url.specs.Parts.{Parts}
use Rattle.url.specs.Parser.{Parsed, parse_url}
use Rattle.amqp_uri.specs.declared.fault.UriFault.{UriFault}
use Rattle.amqp_uri.specs.declared.fault.UriFault.TheVariants.{NotAmqp, Amqps, VhostTooLong}
use Rattle.amqp_uri.specs.declared.query.AMQPQuery.{AMQPQuery}
use Rattle.amqp_uri.specs.declared.uri.AMQPUri.{AMQPUri}
use Rattle.amqp_uri.specs.Decoding.{decoded}
use Rattle.amqp_uri.specs.Query.{query_of}
use Rattle.amqp_uri.specs.Authority.{local_authority, authority_of}

-- how many octets the text of an address may have; a limit of our own
abbrev pub most_octets : ℕ
most_octets = 65535

-- a text without the `/` at its front, if one is there
abbrev pub without_slash : List ℕ → List ℕ
without_slash text = if slice_index text 0 == slash then drop 1 text else text

-- the virtual host that a path names: `/` for the empty path, and else what follows the `/` at its front
abbrev pub vhost_of : List ℕ → List ℕ
vhost_of path = if is_empty path then codes "/" else without_slash (decoded path)

-- the address of a URL with these wishes
abbrev pub with_query : Parts → Result AMQPQuery UriFault → Result AMQPUri UriFault
with_query url (Ok query) = Ok (record { vhost = vhost_of url.path; authority = authority_of url; query = query })
with_query url (Err fault) = Err fault

-- the address of a URL whose scheme is `amqp`: a virtual host is a short string, of 255 octets at most
abbrev pub address_of : Parts → Result AMQPUri UriFault
address_of url =
    if nat_lt 255 (length (vhost_of url.path)) then Err VhostTooLong else with_query url (query_of url.query)

-- the address of a URL
abbrev pub address_by_scheme : Parts → Result AMQPUri UriFault
address_by_scheme url =
    if bytes_eq url.scheme (codes "amqp") then address_of url
    else (if bytes_eq url.scheme (codes "amqps") then Err Amqps else Err NotAmqp)

-- the address of what a text parses to
abbrev pub address_in : Parsed Parts → Result AMQPUri UriFault
address_in (Ok url) = address_by_scheme url
address_in (Err error) = Err NotAmqp

-- the address that a text is, or the first fault that it has
abbrev pub address_of_text : List ℕ → Result AMQPUri UriFault
address_of_text text = if nat_lt most_octets (length text) then Err NotAmqp else address_in (parse_url None text)

-- an address that says nothing: the broker of this machine, and its virtual host `/`
abbrev pub local : AMQPUri
local = record {
  vhost = codes "/";
  authority = local_authority;
  query = record { frame_max = None; channel_max = None; heartbeat = None; auth_mechanism = None };
}
