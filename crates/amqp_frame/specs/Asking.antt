-- Where reading asks for memory, as a function beside `HoldsPayload`, which says it as a relation: for a payload that
-- is copied, once the frame is all there.
use Rattle.std.specs.Prelude.{ℕ, ◌+◌, Bool, true, false, not, List, [], ◌∷◌, length, nat_lt, ◌==◌, if◌then◌else◌}
use Rattle.std.specs.Option.{option_map_or}
use Rattle.std.specs.Int.{w16, w32}
use Rattle.amqp_types.specs.Reading.{octet_at, octets_at, number_at, ◌⊗◌}
use Rattle.amqp_frame.specs.Frames.{end_octet}
use Rattle.amqp_frame.specs.FrameReading.{is_type_octet}

-- for the payload of a frame of a type other than a heartbeat's
unfoldable pub payload_asks : ℕ → List ℕ → Bool
payload_asks type payload =
    if type == 3 then true else
    if type == 2 then not (nat_lt (length payload) 14) else not (nat_lt (length payload) 4)

-- for a frame that ends where it is to end
unfoldable pub ended_asks : ℕ → List ℕ → Bool
ended_asks type payload = if type == 8 then false else payload_asks type payload

-- for what stands behind a size
unfoldable pub sized_asks : ℕ → ℕ → ℕ → List ℕ → Bool
sized_asks type limit size bytes =
    if nat_lt limit (size + 8) then false else
    option_map_or (λ p. if p.0.1 == end_octet then ended_asks type p.0.0 else false)
    ((octets_at size ⊗ octet_at) bytes) false

-- for what stands behind a type octet
unfoldable pub framed_asks : ℕ → ℕ → List ℕ → Bool
framed_asks type limit bytes =
    option_map_or (λ p. sized_asks type limit p.0.1 p.1) ((number_at w16 ⊗ number_at w32) bytes) false

-- for what stands at the front
unfoldable pub front_asks : List ℕ → ℕ → Bool
front_asks [] limit = false
front_asks (o ∷ rest) limit = if is_type_octet o then framed_asks o limit rest else false
