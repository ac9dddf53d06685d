-- The outbox as the code keeps it, and how it is seen.
use Rattle.std.specs.Prelude.{◌≡◌, ℕ, ◌+◌, ◌<◌, ◌^◌, List, [], ◌∷◌, length, Option, Some, None}
use Rattle.std.specs.VecDeque.{deque_capacity}
use Rattle.amqp_outbox.specs.declared.item.Item.{Item}
use Rattle.amqp_outbox.specs.declared.reply.Awaited.{Awaited}
use Rattle.amqp_outbox.specs.declared.reply.Reply.{Reply}
use Rattle.amqp_outbox.specs.declared.replies.Replies.{Replies}
use Rattle.amqp_outbox.specs.declared.outbox.Outbox.{Outbox}
use Rattle.amqp_outbox.specs.Listed.{at}
use Rattle.amqp_outbox.specs.Items.{octets_of, channel_of}
use Rattle.amqp_outbox.specs.Queued.{Queued, waiting_items, unsent_octets}
use Rattle.amqp_outbox.specs.Order.{seen, waiting, HasPlaces}

-- awaited replies, where there is one
abbrev pub some_awaited : List Awaited → Option (List Awaited)
some_awaited [] = None
some_awaited (a ∷ list) = Some (a ∷ list)

-- what is awaited on a channel as it is seen: no reply is none
abbrev pub list_seen : Replies → Option (List Awaited)
list_seen r = some_awaited r.list.items

-- there is a place for one more among those of a channel
abbrev pub HasRoomForReply : Replies → Type 0
HasRoomForReply r = length r.list.items < deque_capacity r.list

-- a channel has a place for this reply, as it has for any
abbrev pub HasReplyPlaces : ℕ → Reply → List (ℕ × Replies) → Type 0
HasReplyPlaces channel reply lists = (r : Replies) × (at channel lists ≡ Some r) × HasRoomForReply r

-- ---- the outbox

-- an outbox as plain lists
abbrev pub queued : Outbox → Queued
queued o =
    record {
      control = waiting o.control.slots.entries;
      publish = waiting o.publish.slots.entries;
      begun = o.begun.items;
      awaited = seen list_seen o.awaiting.lists.entries;
    }

-- so many frames more, of so many bytes in all, leave the number of frames that wait, and that of their bytes, within
-- 64 bits
abbrev pub CanCount : ℕ → ℕ → Queued → Type 0
CanCount n octets q = (length (waiting_items q) + n < 2 ^ 64) × (unsent_octets q + octets < 2 ^ 64)

-- there are places for so many frames more in the control lane, of so many bytes in all, which are dropped with this
-- channel, or with none
abbrev pub HasControlPlaces : Option ℕ → ℕ → ℕ → Outbox → Type 0
HasControlPlaces key n octets o =
    HasPlaces key n o.control.made o.control.slots.entries o.control.numbers.lists.entries
    × CanCount n octets (queued o)

-- there is a place for this group
abbrev pub HasGroupPlace : List Item → Outbox → Type 0
HasGroupPlace group o =
    HasPlaces (channel_of group) 1 o.publish.made o.publish.slots.entries o.publish.numbers.lists.entries
    × CanCount (length group) (octets_of group) (queued o)

-- there is a place for one more that awaits this reply on a channel
abbrev pub HasReplyPlace : ℕ → Reply → Outbox → Type 0
HasReplyPlace channel reply o = HasReplyPlaces channel reply o.awaiting.lists.entries
