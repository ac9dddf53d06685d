-- What stands at the front of octets before anything of it is copied, and what becomes of it.
use Rattle.std.specs.Prelude.{◌+◌, Bool, true, false, not, length, nat_lt}
use Rattle.amqp_frame.specs.declared.frame.Frame.TheVariants as f
use Rattle.amqp_frame.specs.declared.frame.Read.{Read}
use Rattle.amqp_frame.specs.declared.frame.Read.TheVariants as r
use Rattle.amqp_frame.specs.declared.read.Shape.{Shape}
use Rattle.amqp_frame.specs.declared.read.Shape.TheVariants.{More, TooLarge, BadHeartbeat, Bad, Heartbeat, Version, Content, Method}
use Rattle.amqp_frame.specs.FrameReading.{method_payload, payload_answer}

-- the answer, once the payload is copied
abbrev pub completed : {V : Type 0} → Shape V → Read
completed More = r.More
completed (TooLarge size) = r.TooLarge size
completed (BadHeartbeat channel) = r.BadHeartbeat channel
completed Bad = r.Bad
completed Heartbeat = r.Whole f.Heartbeat 8
completed (Version version) = r.Whole (f.ProtocolHeader version) 8
completed (Content kind channel size payload) = r.Whole (f.Raw channel kind payload) (size + 8)
completed (Method channel size payload) = payload_answer size (method_payload channel payload)

-- whether memory is asked for it
abbrev pub asks_of : {V : Type 0} → Shape V → Bool
asks_of (Content kind channel size payload) = true
asks_of (Method channel size payload) = not (nat_lt (length payload) 4)
asks_of _ = false
