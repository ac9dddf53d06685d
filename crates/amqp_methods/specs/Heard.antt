-- Methods by which a server delivers and confirms (AMQP 0-9-1, class reference of basic; that a server says ack and
-- nack is an extension of RabbitMQ): how they are spelled, and how they are read.
use Rattle.std.specs.Prelude.{◌≡◌, ℕ, ◌%◌, ◌/◌, ◌==◌, ◌&&◌, Bool, List, Option, Some, None, if◌then◌else◌}
use Rattle.std.specs.Int.{w16, w64}
use Rattle.amqp_types.specs.Forms.{Form, ◌▸◌, OctetOf, NumberOf, ShortStringOf}
use Rattle.amqp_types.specs.Reading.{Reader, ◌>>=◌, octet_at, number_at, short_string_at, ◌⊗◌}
use Rattle.amqp_frame.specs.FrameReading.{exactly}
use Rattle.amqp_frame.specs.Methods.{BitOf}
use Rattle.amqp_methods.specs.declared.heard.Deliver.{Deliver}
use Rattle.amqp_methods.specs.declared.heard.Ack.{Ack}
use Rattle.amqp_methods.specs.declared.heard.Nack.{Nack}

-- ---- spellings

-- an octet of which the two lowest bits count, the lowest first
abbrev pub TwoBitsOf : Bool → Bool → Form
TwoBitsOf first second bytes =
    (n : ℕ) × (first ≡ (n % 2 == 1)) × (second ≡ (n / 2 % 2 == 1)) × OctetOf n bytes

-- the numbers of class basic and of one of its methods
abbrev pub BasicMethodOf : ℕ → Form
BasicMethodOf number = NumberOf w16 60 ▸ NumberOf w16 number

-- basic.deliver: the consumer's tag, the delivery's tag, a bit, the exchange and the routing key
abbrev pub DeliverOf : Deliver → Form
DeliverOf d =
    NumberOf w16 60 ▸ NumberOf w16 60 ▸ ShortStringOf d.consumer_tag ▸ NumberOf w64 d.delivery_tag
    ▸ BitOf d.redelivered ▸ ShortStringOf d.exchange ▸ ShortStringOf d.routing_key

-- basic.ack: the delivery's tag, and a bit
abbrev pub AckOf : Ack → Form
AckOf a = NumberOf w16 60 ▸ NumberOf w16 80 ▸ NumberOf w64 a.delivery_tag ▸ BitOf a.multiple

-- basic.nack: the delivery's tag, and two bits
abbrev pub NackOf : Nack → Form
NackOf n = NumberOf w16 60 ▸ NumberOf w16 120 ▸ NumberOf w64 n.delivery_tag ▸ TwoBitsOf n.multiple n.requeue

-- ---- reading

-- what is taken of octets, seen by view, and what is left are what a reader gives
abbrev pub ReadsOff : {X Y : Type 0} → (X → Y) → Option X → List ℕ → Option (Y × List ℕ) → Type 0
ReadsOff view (Some x) left read = read ≡ Some (view x, left)
ReadsOff view None left read = read ≡ None

-- the numbers of a class and of a method, and arguments
abbrev pub method_at : {A : Type 0} → Reader A → Reader (ℕ × (ℕ × A))
method_at arguments_at = number_at w16 ⊗ (number_at w16 ⊗ arguments_at)

-- the arguments in a payload that is the method of class basic with a number, and has no more octets
abbrev pub basic_in : {A : Type 0} → Reader A → ℕ → List ℕ → Option A
basic_in arguments_at number payload =
    exactly (method_at arguments_at) payload >>= λ m. if (m.0 == 60) && (m.1.0 == number) then Some m.1.1 else None

-- a number of 64 bits, and an octet of flags
abbrev pub tag_and_flags_at : Reader (ℕ × ℕ)
tag_and_flags_at = number_at w64 ⊗ octet_at

-- the arguments of basic.deliver
abbrev pub deliver_arguments_at : Reader (List ℕ × (ℕ × (ℕ × (List ℕ × List ℕ))))
deliver_arguments_at = short_string_at ⊗ (number_at w64 ⊗ (octet_at ⊗ (short_string_at ⊗ short_string_at)))

-- the arguments of basic.return: a code, a text, the exchange and the routing key
abbrev pub return_arguments_at : Reader (ℕ × (List ℕ × (List ℕ × List ℕ)))
return_arguments_at = number_at w16 ⊗ (short_string_at ⊗ (short_string_at ⊗ short_string_at))

-- the delivery that these arguments are
abbrev pub delivery_of : List ℕ × (ℕ × (ℕ × (List ℕ × List ℕ))) → Deliver
delivery_of a =
    record {
      consumer_tag = a.0;
      delivery_tag = a.1.0;
      redelivered = a.1.1.0 % 2 == 1;
      exchange = a.1.1.1.0;
      routing_key = a.1.1.1.1;
    }

-- the basic.deliver that a payload is
abbrev pub deliver_in : List ℕ → Option Deliver
deliver_in payload = basic_in deliver_arguments_at 60 payload >>= λ a. Some (delivery_of a)

-- the basic.ack that a payload is
abbrev pub ack_in : List ℕ → Option Ack
ack_in payload =
    basic_in tag_and_flags_at 80 payload >>= λ a. Some (record { delivery_tag = a.0; multiple = a.1 % 2 == 1 })

-- the basic.nack that a payload is
abbrev pub nack_in : List ℕ → Option Nack
nack_in payload =
    basic_in tag_and_flags_at 120 payload
    >>= λ a. Some (record { delivery_tag = a.0; multiple = a.1 % 2 == 1; requeue = a.1 / 2 % 2 == 1 })
