-- The frames that a turn sends whole.
use Rattle.std.specs.Prelude.{◌-◌, List, length, drop, map, slice_get, Option, Some, None}
use Rattle.amqp_frame.specs.declared.frame.Frame.{Frame}
use Rattle.amqp_outbox.specs.declared.item.Item.{Item}
use Rattle.amqp_engine.specs.Engine.{Engine}
use Rattle.amqp_engine.specs.Turn.{Turn, asks}
use Rattle.amqp_engine.specs.Sending.{Sending, nothing_sent, items_sent, step_sending, turn_sending}

-- what was sent on a link, or nothing where there was none
abbrev pub sending_or : Option Sending → Sending
sending_or None = nothing_sent
sending_or (Some s) = s

-- what was sent on the last link
abbrev pub last_sending : List Sending → Sending
last_sending ss = sending_or (slice_get ss (length ss - 1))

-- the frames that a turn sends whole
abbrev pub said_of : Turn → Engine → List Sending → List Frame
said_of u e ss =
    let before = last_sending (step_sending u.step (asks e) ss) in
    let after = last_sending (turn_sending u e ss) in
    map (λ (i : Item). i.frame) (drop before.sent (items_sent after))
