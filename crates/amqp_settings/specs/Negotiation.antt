-- The numbers of a connection, as the wishes of both peers decide them (AMQP 0-9-1, connection.tune).
use Rattle.std.specs.Prelude.{ℕ, ◌==◌, if◌then◌else◌, min, max}
use Rattle.amqp_settings.specs.declared.configuration.Configuration.{Configuration}
use Rattle.amqp_settings.specs.Capacities.{frame_min_size}

-- the lesser of two wishes, where 0 is none
abbrev pub lesser_wish : ℕ → ℕ → ℕ
lesser_wish own server = if own == 0 then server else if server == 0 then own else min own server

-- a wish, or the greatest number of its type where there is none
abbrev pub wish_or : ℕ → ℕ → ℕ
wish_or greatest wish = if wish == 0 then greatest else wish

-- the numbers that hold after tune-ok
abbrev pub tune : Configuration → Configuration → Configuration
tune own server =
    record {
      channel_max = wish_or 65535 (lesser_wish own.channel_max server.channel_max);
      frame_max = max frame_min_size (wish_or 4294967295 (lesser_wish own.frame_max server.frame_max));
      heartbeat = lesser_wish own.heartbeat server.heartbeat;
    }
