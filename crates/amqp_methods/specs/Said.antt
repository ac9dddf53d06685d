-- Methods that a client says of messages and queues (AMQP 0-9-1, class reference of basic and queue; confirm.select is
-- an extension of RabbitMQ): their class, their number, and their arguments in the order of the reference.
use Rattle.std.specs.Prelude.{◌+◌, ◌*◌, ℕ, Bool, List, [], ◌∷◌, ◌++◌, if◌then◌else◌}
use Rattle.std.specs.Int.{w16, w64, to_be_bytes}
use Rattle.amqp_types.specs.Forms.{spell_short_string}
use Rattle.amqp_types.specs.Spelling.{spell_table}
use Rattle.amqp_types.specs.Value.{Pair}
use Rattle.amqp_frame.specs.RawMethods.{OtherMethod}
use Rattle.amqp_methods.specs.declared.options.BasicPublishOptions.{BasicPublishOptions}
use Rattle.amqp_methods.specs.declared.options.BasicConsumeOptions.{BasicConsumeOptions}
use Rattle.amqp_methods.specs.declared.options.BasicAckOptions.{BasicAckOptions}
use Rattle.amqp_methods.specs.declared.options.BasicQosOptions.{BasicQosOptions}
use Rattle.amqp_methods.specs.declared.options.QueueDeclareOptions.{QueueDeclareOptions}
use Rattle.amqp_methods.specs.declared.options.ConfirmSelectOptions.{ConfirmSelectOptions}

-- flags in the bits of one octet, the first in the lowest (4.2.5.2)
abbrev pub bits : List Bool → ℕ
bits [] = 0
bits (b ∷ bs) = (if b then 1 else 0) + 2 * bits bs

-- two reserved octets
abbrev pub reserved : List ℕ
reserved = 0 ∷ 0 ∷ []

-- basic.publish: the exchange, the routing key, and two flags
abbrev pub publish_method : List ℕ → List ℕ → BasicPublishOptions → OtherMethod
publish_method exchange routing_key o =
    record {
      class = 60;
      method = 40;
      arguments = reserved ++ (spell_short_string exchange ++ (spell_short_string routing_key
          ++ (bits (o.mandatory ∷ o.immediate ∷ []) ∷ [])));
    }

-- basic.consume: the queue, the consumer's tag, four flags and arguments
abbrev pub consume_method : List ℕ → List ℕ → BasicConsumeOptions → List Pair → OtherMethod
consume_method queue consumer_tag o arguments =
    record {
      class = 60;
      method = 20;
      arguments = reserved ++ (spell_short_string queue ++ (spell_short_string consumer_tag
          ++ ((bits (o.no_local ∷ o.no_ack ∷ o.exclusive ∷ o.nowait ∷ []) ∷ []) ++ spell_table arguments)));
    }

-- basic.ack: the delivery's tag, and a flag
abbrev pub ack_method : ℕ → BasicAckOptions → OtherMethod
ack_method delivery_tag o =
    record {
      class = 60;
      method = 80;
      arguments = to_be_bytes w64 delivery_tag ++ (bits (o.multiple ∷ []) ∷ []);
    }

-- basic.cancel: the consumer's tag, and a flag
abbrev pub cancel_method : List ℕ → Bool → OtherMethod
cancel_method consumer_tag nowait =
    record {
      class = 60;
      method = 30;
      arguments = spell_short_string consumer_tag ++ (bits (nowait ∷ []) ∷ []);
    }

-- basic.qos: no number of octets, the number of deliveries, and a flag
abbrev pub qos_method : ℕ → BasicQosOptions → OtherMethod
qos_method prefetch_count o =
    record {
      class = 60;
      method = 10;
      arguments = (0 ∷ 0 ∷ 0 ∷ 0 ∷ []) ++ (to_be_bytes w16 prefetch_count ++ (bits (o.global ∷ []) ∷ []));
    }

-- queue.declare: the queue, five flags and arguments
abbrev pub declare_method : List ℕ → QueueDeclareOptions → List Pair → OtherMethod
declare_method queue o arguments =
    record {
      class = 50;
      method = 10;
      arguments = reserved ++ (spell_short_string queue
          ++ ((bits (o.passive ∷ o.durable ∷ o.exclusive ∷ o.auto_delete ∷ o.nowait ∷ []) ∷ [])
          ++ spell_table arguments));
    }

-- confirm.select: a flag
abbrev pub select_method : ConfirmSelectOptions → OtherMethod
select_method o = record { class = 85; method = 10; arguments = bits (o.nowait ∷ []) ∷ [] }
