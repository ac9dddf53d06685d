-- What a broker tells by a method, to one who publishes or consumes (AMQP 0-9-1, class basic; class confirm, basic.nack
-- and basic.cancel of a broker are extensions of RabbitMQ).
use Rattle.std.specs.Prelude.{ℕ, Bool, List, [], ◌∷◌, take, length, nat_le, ◌&&◌, Option, Some, None, if◌then◌else◌}
use Rattle.std.specs.Str.{bytes_eq}
use Rattle.amqp_methods.specs.Heard.{ack_in, nack_in}
use Rattle.amqp_methods.specs.declared.heard.Ack.{Ack}
use Rattle.amqp_methods.specs.declared.heard.Nack.{Nack}
use Rattle.amqp_tools.specs.declared.heard.Heard.{Heard}
use Rattle.amqp_tools.specs.declared.heard.Heard.TheVariants.{Taken, Refused, Returned, Selected, Cancelled, Other}

-- octets begin with the four of a class and a method
abbrev pub begins : List ℕ → List ℕ → Bool
begins numbers payload = nat_le 4 (length payload) && bytes_eq (take 4 payload) numbers

-- basic.return, confirm.select-ok, basic.cancel, or any other
abbrev pub other : List ℕ → Heard
other payload =
    if begins (0 ∷ 60 ∷ 0 ∷ 50 ∷ []) payload then Returned
    else if begins (0 ∷ 85 ∷ 0 ∷ 11 ∷ []) payload then Selected
    else if begins (0 ∷ 60 ∷ 0 ∷ 30 ∷ []) payload then Cancelled
    else Other

-- basic.nack, where a payload is one
abbrev pub refused_or_other : Option Nack → List ℕ → Heard
refused_or_other (Some nack) payload = Refused nack.delivery_tag nack.multiple
refused_or_other None payload = other payload

-- basic.ack, where a payload is one
abbrev pub taken_or_other : Option Ack → List ℕ → Heard
taken_or_other (Some ack) payload = Taken ack.delivery_tag ack.multiple
taken_or_other None payload = refused_or_other (nack_in payload) payload

-- what the method tells that a payload is
abbrev pub heard_in : List ℕ → Heard
heard_in payload = taken_or_other (ack_in payload) payload
