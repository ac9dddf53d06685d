-- Which deliveries of a link may be acknowledged (AMQP 0-9-1, class reference of basic: the tags of deliveries are of
-- their channel, and basic.ack with `multiple` means all up to its tag).
use Rattle.std.specs.Prelude.{ℕ, nat_lt, nat_eq, Bool, true, false, not, ◌&&◌, Option, Some, None}
use Rattle.amqp_tools.specs.declared.tags.Deed.{Deed}
use Rattle.amqp_tools.specs.declared.tags.Deed.TheVariants.{Printed, Known, PassedOver, Flushed, Acknowledged, Lost}
use Rattle.amqp_tools.specs.declared.tags.Tags.{Tags}

-- nothing was delivered
abbrev pub undelivered : Tags
undelivered = record { last = 0; passed = false; printed = None; flushed = None }

-- an acknowledgement is that of the last delivery that the sink took
abbrev pub is_tag : Option ℕ → ℕ → Bool
is_tag (Some tag) t = nat_eq tag t
is_tag None t = false

-- what may be done next
abbrev pub may : Tags → Deed → Bool
may tags (Printed tag) = not tags.passed && nat_lt tags.last tag
may tags (Known tag) = not tags.passed && nat_lt tags.last tag
may tags (PassedOver tag) = nat_lt tags.last tag
may tags Flushed = true
may tags (Acknowledged tag) = is_tag tags.flushed tag
may tags Lost = true

-- the last that the sink took, where it takes what was printed
abbrev pub last_taken : Option ℕ → Option ℕ → Option ℕ
last_taken (Some tag) before = Some tag
last_taken None before = before

-- how far it is after that
abbrev pub after_deed : Tags → Deed → Tags
after_deed tags (Printed tag) = record tags { last = tag; printed = Some tag }
after_deed tags (Known tag) = record tags { last = tag; printed = Some tag }
after_deed tags (PassedOver tag) = record tags { last = tag; passed = true }
after_deed tags Flushed = record tags { printed = None; flushed = last_taken tags.printed tags.flushed }
after_deed tags (Acknowledged tag) = record tags { flushed = None }
after_deed tags Lost = undelivered
