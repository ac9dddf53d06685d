-- The channels that were kept, as the code opens them again.
use Rattle.std.specs.Prelude.{ℕ, ◌==◌, ◌<◌, ◌*◌, Bool, List, [], ◌∷◌, length, None, IsTrue}
use Rattle.std.specs.List.{list_any}
use Rattle.amqp_outbox.specs.declared.item.Item.{Item}
use Rattle.amqp_outbox.specs.declared.reply.Reply.TheVariants.{ChannelOpened}
use Rattle.amqp_outbox.specs.Items.{plain_item}
use Rattle.amqp_outbox.specs.Queued.{Queued, pushed_control, with_awaited}
use Rattle.amqp_outgoing.specs.declared.outgoing.Outgoing.{Outgoing}
use Rattle.amqp_outgoing.specs.Outgoings.{HasFramePlaces, HasAwaitedPlace}
use Rattle.amqp_settings.specs.Handshake.{channel_open}

-- channel.open for a number
abbrev pub open_item : ℕ → Item
open_item n = plain_item n (channel_open n)

-- a channel is opened again, without a promise
abbrev pub reopened : ℕ → Queued → Queued
reopened n q = with_awaited n (record { reply = ChannelOpened; promise = None }) (pushed_control (open_item n) q)

-- channels are opened again, one after another
abbrev pub reopened_each : List ℕ → Queued → Queued
reopened_each [] q = q
reopened_each (n ∷ ns) q = reopened_each ns (reopened n q)

-- ---- the places for that

-- a number is among some
abbrev pub is_among : List ℕ → ℕ → Bool
is_among ns n = list_any (λ m. m == n) ns

-- there are places for channel.open for each of these numbers, of 13 bytes each, where there is one
abbrev pub HasOpenPlaces : List ℕ → Outgoing → Type 0
HasOpenPlaces ns o = 0 < length ns → HasFramePlaces None (length ns) (length ns * 13) o

-- there is a place for the reply to each
abbrev pub HasOpenedPlaces : List ℕ → Outgoing → Type 0
HasOpenedPlaces ns o = (n : ℕ) → IsTrue (is_among ns n) → HasAwaitedPlace n ChannelOpened o
