-- What a publish says: a method, its content header and its body (AMQP 0-9-1, 2.3.5.2 and 4.2.6).
use Rattle.std.specs.Prelude.{ℕ, zero, suc, List, [], ◌∷◌, ◌++◌, take, drop, length, map, sum_by}
use Rattle.std.specs.Int.{w16, w64, to_be_bytes}
use Rattle.amqp_frame.specs.declared.frame.Frame.{Frame}
use Rattle.amqp_frame.specs.declared.frame.Frame.TheVariants.{Raw}
use Rattle.amqp_frame.specs.declared.frame.RawKind.TheVariants.{RawMethod, Header, Body}
use Rattle.amqp_frame.specs.Frames.{encoding}
use Rattle.amqp_frame.specs.RawMethods.{OtherMethod, spell_raw_method}

-- the frame of a method that is passed through
abbrev pub method_frame : ℕ → OtherMethod → Frame
method_frame n method = Raw n RawMethod (spell_raw_method method)

-- the payload of a content header: the class of the method, weight 0, how long the body is, and the property flags with
-- the properties
abbrev pub content_header : ℕ → ℕ → List ℕ → List ℕ
content_header class size properties =
    to_be_bytes w16 class ++ (to_be_bytes w16 0 ++ (to_be_bytes w64 size ++ properties))

-- octets cut into at most so many pieces of this length, the last of which may be shorter
abbrev pub cut : ℕ → ℕ → List ℕ → List (List ℕ)
cut zero size octets = []
cut (suc pieces) size [] = []
cut (suc pieces) size (octet ∷ octets) =
    take size (octet ∷ octets) ∷ cut pieces size (drop size (octet ∷ octets))

-- a body in pieces of this length: none where it is empty, and no piece is empty
abbrev pub body_pieces : ℕ → List ℕ → List (List ℕ)
body_pieces size body = cut (length body) size body

-- the frames of a publish on a channel, whose body is cut into pieces of this length
abbrev pub publish_frames : ℕ → OtherMethod → List ℕ → List ℕ → ℕ → List Frame
publish_frames n method properties body size =
    method_frame n method
    ∷ Raw n Header (content_header method.class (length body) properties)
    ∷ map (Raw n Body) (body_pieces size body)

-- how many octets spell some frames
abbrev pub octets_of_frames : List Frame → ℕ
octets_of_frames frames = sum_by (λ frame. length (encoding frame)) frames
