-- The octets of some links, as a client may send them and as it may not.
use Rattle.std.specs.Prelude.{ℕ, List, [], ◌∷◌}
use Rattle.amqp_frame.specs.declared.frame.Frame.TheVariants.{Method}
use Rattle.amqp_frame.specs.declared.method.Method.TheVariants.{StartOk, TuneOk, Open, ChannelOpen}
use Rattle.amqp_frame.specs.Frames.{encoding}
use Rattle.amqp_outbox.specs.declared.item.Item.{Item}
use Rattle.amqp_outbox.specs.Items.{plain_item}
use Rattle.amqp_legal.specs.Legal.{amqp_header}
use Rattle.amqp_engine.specs.Sending.{Sending, encodings}

-- the header of the protocol
abbrev pub greeting : List ℕ
greeting = encoding amqp_header

-- an introduction, and then channel.open on channel 0
abbrev pub opening_of_0 : List Item
opening_of_0 =
    plain_item 0 amqp_header
    ∷ plain_item 0 (Method 0 (StartOk [] [] [] []))
    ∷ plain_item 0 (Method 0 (TuneOk 0 0 0))
    ∷ plain_item 0 (Method 0 (Open []))
    ∷ plain_item 0 (Method 0 ChannelOpen)
    ∷ []

-- their octets
abbrev pub opens_0 : List ℕ
opens_0 = encodings opening_of_0

-- the header was committed and sent
abbrev pub greeted_link : Sending
greeted_link = record { committed = plain_item 0 amqp_header ∷ []; sent = 1; taken = 8 }
