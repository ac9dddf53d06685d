-- The agreed numbers in the state of a session, and how long a frame may be by them.
use Rattle.std.specs.Prelude.{ℕ, min, max}
use Rattle.amqp_settings.specs.Capacities.{capacity_for}
use Rattle.amqp_settings.specs.Negotiation.{wish_or}
use Rattle.amqp_rules.specs.Talk.{Talk}

-- the greatest number of octets that a frame may have that is read: as agreed, and within the capacity
abbrev pub frame_limit : Talk → ℕ
frame_limit t = min t.capacity (wish_or t.capacity t.configuration.frame_max)

-- how many bytes can be unsent once the connection is open: as many as the agreed frames ask for, and never less than
-- before
abbrev pub grown_capacity : Talk → ℕ
grown_capacity t = max t.capacity (capacity_for t.configuration.frame_max)
