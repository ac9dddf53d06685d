-- The message that arrives, frame by frame (AMQP 0-9-1, 4.2.6: a method that carries content, its content header, and
-- its body in parts).
use Rattle.std.specs.Prelude.{ℕ, ◌-◌, nat_le, nat_eq, Bool, false, List, length, ◌++◌, take, drop, Option, Some, None, if◌then◌else◌}
use Rattle.std.specs.Int.{w64, from_be_bytes}
use Rattle.amqp_methods.specs.Heard.{deliver_in}
use Rattle.amqp_methods.specs.declared.heard.Deliver.{Deliver}
use Rattle.amqp_tools.specs.declared.arriving.Stage.{Stage}
use Rattle.amqp_tools.specs.declared.arriving.Stage.TheVariants.{Idle, Announced, Missing}

-- a message that was delivered, or none
abbrev pub stage_by : Option Deliver → Stage
stage_by (Some deliver) = Announced deliver.delivery_tag
stage_by None = Idle

-- after a method that is this payload
abbrev pub stage_at : List ℕ → Stage
stage_at payload = stage_by (deliver_in payload)

-- whether a message that was delivered may have been before
abbrev pub is_redelivered : Option Deliver → Bool
is_redelivered (Some deliver) = deliver.redelivered
is_redelivered None = false

-- how many octets the body has, by its content header: octets 4 to 11, the first being octet 0
abbrev pub body_size : List ℕ → ℕ
body_size header = if nat_le 12 (length header) then from_be_bytes w64 (take 8 (drop 4 header)) else 0

-- after a content header with this size
abbrev pub announced_size : ℕ → Stage → Stage
announced_size size (Announced tag) = Missing tag size
announced_size size stage = stage

-- after a part of a body, which is not taken where it is more than is missing
abbrev pub after_part : List ℕ → Stage → Stage
after_part part (Missing tag missing) =
    if nat_le (length part) missing then Missing tag (missing - length part) else Missing tag missing
after_part part stage = stage

-- what has come of the body, after such a part
abbrev pub joined : List ℕ → Stage → List ℕ → List ℕ
joined part (Missing tag missing) body = if nat_le (length part) missing then body ++ part else body
joined part stage body = body

-- the tag of a message that is whole
abbrev pub whole : Stage → Option ℕ
whole (Missing tag missing) = if nat_eq missing 0 then Some tag else None
whole _ = None
