-- What is to go out, and its places, as the code keeps them.
use Rattle.std.specs.Prelude.{ℕ, List, Option, length}
use Rattle.amqp_outbox.specs.declared.item.Item.{Item}
use Rattle.amqp_outbox.specs.declared.reply.Reply.{Reply}
use Rattle.amqp_outbox.specs.Parts.{queued, HasControlPlaces, HasGroupPlace, HasReplyPlace}
use Rattle.amqp_outbox.specs.Queued.{Queued}
use Rattle.amqp_outgoing.specs.declared.committed.Mark.{Mark}
use Rattle.amqp_outgoing.specs.declared.outgoing.Outgoing.{Outgoing}
use Rattle.amqp_outgoing.specs.Places.{marks_in, HasMarkPlaces}

-- the frames that wait, and the replies that are awaited
abbrev pub queue_of : Outgoing → Queued
queue_of o = queued o.outbox

-- the committed frames that are not wholly sent, in order
abbrev pub marks : Outgoing → List Mark
marks o = marks_in o.committed

-- there are places for so many frames more, of so many bytes in all, which are dropped with this channel, or with none
abbrev pub HasFramePlaces : Option ℕ → ℕ → ℕ → Outgoing → Type 0
HasFramePlaces key frames octets o =
    HasControlPlaces key frames octets o.outbox × HasMarkPlaces frames (queue_of o) o.committed

-- there is a place for this group
abbrev pub HasGroupPlaces : List Item → Outgoing → Type 0
HasGroupPlaces group o = HasGroupPlace group o.outbox × HasMarkPlaces (length group) (queue_of o) o.committed

-- there is a place for one more that awaits this reply on a channel
abbrev pub HasAwaitedPlace : ℕ → Reply → Outgoing → Type 0
HasAwaitedPlace channel reply o = HasReplyPlace channel reply o.outbox
