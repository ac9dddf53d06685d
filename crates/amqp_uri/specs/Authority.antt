-- Where a URL leads, and as whom.
use Rattle.std.specs.Prelude.{ℕ, List, codes, option_map, unwrap_or, if◌then◌else◌}
use Rattle.url.specs.Host.{host_text}
use Rattle.url.specs.Input.{is_empty}
use Rattle.url.specs.Parts.{Parts, nonempty_host}
use Rattle.amqp_uri.specs.declared.authority.AMQPAuthority.{AMQPAuthority}
use Rattle.amqp_uri.specs.declared.authority.AMQPUserInfo.{AMQPUserInfo}
use Rattle.amqp_uri.specs.Decoding.{decoded}

-- the user with which a new broker comes
abbrev pub guest : AMQPUserInfo
guest = record { username = codes "guest"; password = codes "guest" }

-- the port of AMQP
abbrev pub amqp_port : ℕ
amqp_port = 5672

-- `guest` at this machine
abbrev pub local_authority : AMQPAuthority
local_authority = record { userinfo = guest; host = codes "localhost"; port = amqp_port }

-- user and password of a URL: `guest` with its password where the URL has no user, and an empty user is none;
-- a user without password has the empty one
abbrev pub user_info_of : Parts → AMQPUserInfo
user_info_of url =
    if is_empty url.username then guest
    else record { username = decoded url.username; password = decoded url.password }

-- the host of a URL, `localhost` where there is none or it is empty
abbrev pub host_of : Parts → List ℕ
host_of url = unwrap_or (option_map (λ host. decoded (host_text host)) (nonempty_host url)) (codes "localhost")

-- all of it, with the port of AMQP where the URL has none
abbrev pub authority_of : Parts → AMQPAuthority
authority_of url = record {
  userinfo = user_info_of url;
  host = host_of url;
  port = unwrap_or url.port amqp_port;
}
