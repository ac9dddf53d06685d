-- A frame that is spelled at the front is read there.
use Rattle.std.proofs.Common.{◌≡◌, ◌≢◌, ◌⊎◌, ℕ, suc, ◌+◌, ◌<◌, ◌≤◌, Bool, true, false, not, cond, eqb, ltb, ◌&&◌, List, [], ◌∷◌, ◌++◌, length, take, Option, Some, None, option_map, refl, sym, ap, ap₂, ◌∙◌, append_assoc, arith, inl, inr}
use Rattle.std.specs.Option.{option_map_or}
use Rattle.std.proofs.lemmas.Bool.{eqb-true, le-ltb}
use Rattle.std.proofs.lemmas.List.{append-nil, length-append, take_at}
use Rattle.std.specs.Int.{w16, w32}
use Rattle.amqp_types.specs.Forms.{Form, ◌▸◌, OctetOf, NumberOf, LongStringOf}
use Rattle.amqp_types.specs.Reading.{◌>>=◌, octet_at, octets_at, number_at, ◌⊗◌, read_map}
use Rattle.amqp_types.proofs.Readers.{octet_reader, octets_reader, number16_reader, number32_reader, both_reader}
use Rattle.amqp_frame.specs.declared.method.Method.{Method}
use Rattle.amqp_frame.specs.declared.frame.Frame.{Frame}
use Rattle.amqp_frame.specs.declared.frame.Frame.TheVariants as f
use Rattle.amqp_frame.specs.declared.frame.RawKind.{RawKind}
use Rattle.amqp_frame.specs.declared.frame.RawKind.TheVariants.{RawMethod, Header, Body}
use Rattle.amqp_frame.specs.declared.frame.Read.TheVariants.{Whole, More}
use Rattle.amqp_frame.specs.Methods.{is_of_a_channel, class_of, number_of, ArgumentsOf, MethodOf}
use Rattle.amqp_frame.specs.Frames.{spell_heartbeat, type_of, Framed, RawPayload, FrameOf}
use Rattle.amqp_frame.specs.Fronts.{IsWithinLimit}
use Rattle.amqp_frame.specs.FrameReading.{exactly, method_content, method_payload, content, ended, sized, framed, version, header, front}
use Rattle.amqp_frame.proofs.FrameReaders.{arguments_at, arguments_again}

-- ---- one level of each answer
ended_is :
    (type channel size : ℕ) (payload : List ℕ) (frame : Frame) → eqb type 8 ≡ false →
    content type channel payload ≡ Some frame → ended type channel size payload ≡ Whole frame (size + 8)
unfolding ended
ended_is type channel size payload frame other holds = rw (other, holds) refl

sized_is :
    (type limit channel size : ℕ) (bytes payload rest : List ℕ) → ltb limit (size + 8) ≡ false →
    (eqb type 8 && not (eqb size 0)) ≡ false → (octets_at size ⊗ octet_at) bytes ≡ Some ((payload, 206), rest) →
    sized type limit channel size bytes ≡ ended type channel size payload
unfolding sized
sized_is type limit channel size bytes payload rest within fits e = rw (within, fits, e) refl

pub framed_is :
    (type limit channel size : ℕ) (bytes rest : List ℕ) →
    (number_at w16 ⊗ number_at w32) bytes ≡ Some ((channel, size), rest) →
    framed type limit bytes ≡ sized type limit channel size rest
unfolding framed
framed_is type limit channel size bytes rest e =
    ap (λ (o : Option ((ℕ × ℕ) × List ℕ)). option_map_or (λ p. sized type limit p.0.0 p.0.1 p.1) o More) e

-- a frame of a type, with its channel, its size, its payload and its end
module _
    (type limit channel : ℕ) (payload text rest : List ℕ)
    (f : (NumberOf w16 channel ▸ LongStringOf payload ▸ OctetOf 206) text) (within : length payload + 8 ≤ limit)
    (fits : (eqb type 8 && not (eqb (length payload) 0)) ≡ false) where
  pub framed_again : framed type limit (text ++ rest) ≡ ended type channel (length payload) payload
  framed_again =
      let head : List ℕ = f.0 ++ f.4.3.0 in
      let tail : List ℕ = f.4.3.1 ++ f.4.1 in
      let whole : text ++ rest ≡ (f.0 ++ f.4.3.0) ++ ((f.4.3.1 ++ f.4.1) ++ rest) =
      rw (f.2, f.4.2, f.4.3.2) (simp append_assoc) in
      let behind : List ℕ = (f.4.3.1 ++ f.4.1) ++ rest in
      let numbers : (number_at w16 ⊗ number_at w32) (text ++ rest) ≡ Some ((channel, length payload), behind) =
      ap (number_at w16 ⊗ number_at w32) whole
      ∙ (both_reader number16_reader number32_reader).again (channel, length payload) (f.0 ++ f.4.3.0)
      ((f.4.3.1 ++ f.4.1) ++ rest) (f.0, f.4.3.0, refl, f.3, f.4.3.3) in
      let body : (octets_at (length payload) ⊗ octet_at) ((f.4.3.1 ++ f.4.1) ++ rest) ≡ Some ((payload, 206), rest) =
      (both_reader (octets_reader (length payload)) octet_reader).again (payload, 206) (f.4.3.1 ++ f.4.1) rest
      (f.4.3.1, f.4.1, refl, f.4.3.4, f.4.4) in
      framed_is type limit channel (length payload) (text ++ rest) ((f.4.3.1 ++ f.4.1) ++ rest) numbers
      ∙ sized_is type limit channel (length payload) ((f.4.3.1 ++ f.4.1) ++ rest) payload rest (le-ltb _ _ within)
      fits body

length_framed :
    (channel : ℕ) (payload text : List ℕ) → (NumberOf w16 channel ▸ LongStringOf payload ▸ OctetOf 206) text →
    length text ≡ length payload + 7
length_framed channel payload text f =
    let a : length f.0 ≡ 2 = ap length f.3.1 in
    let b : length f.4.3.0 ≡ 4 = ap length f.4.3.3.1 in
    let c : length f.4.3.1 ≡ length payload = ap length f.4.3.4.1 in
    let d : length f.4.1 ≡ 1 = ap length f.4.4.1 in
    omega (
      arith,
      ap length f.2,
      ap length f.4.2,
      ap length f.4.3.2,
      length-append f.0 f.1,
      length-append f.4.0 f.4.1,
      length-append f.4.3.0 f.4.3.1,
    )

-- a whole frame of a type other than a heartbeat
whole_again :
    (type limit channel : ℕ) (payload text rest : List ℕ) (frame : Frame) → eqb type 8 ≡ false →
    (NumberOf w16 channel ▸ LongStringOf payload ▸ OctetOf 206) text → length text < limit →
    content type channel payload ≡ Some frame → framed type limit (text ++ rest) ≡ Whole frame (suc (length text))
whole_again type limit channel payload text rest frame other f within holds =
    let len = length_framed channel payload text f in
    let no_heartbeat : (eqb type 8 && not (eqb (length payload) 0)) ≡ false = rw other refl in
    framed_again type limit channel payload text rest f (omega (arith, len)) no_heartbeat
    ∙ ended_is type channel (length payload) payload frame other holds
    ∙ ap (Whole frame) (omega (arith, len))

-- ---- what frames hold
class_cases : (method : Method) → ((class_of method ≡ 10) ⊎ (class_of method ≡ 20))
class_cases method = by (is_of_a_channel method)
  where
    by : (t : Bool) → ((cond {A = ℕ} t 20 10 ≡ 10) ⊎ (cond {A = ℕ} t 20 10 ≡ 20))
    by true = inr refl
    by false = inl refl

exactly_again :
    (method : Method) (channel : ℕ) (text : List ℕ) → ArgumentsOf method text →
    exactly (read_map (f.Method channel) (arguments_at (class_of method) (number_of method))) text ≡ Some
    (f.Method channel method)
exactly_again method channel text a =
    let read : arguments_at (class_of method) (number_of method) text ≡ Some (method, []) =
    ap (arguments_at (class_of method) (number_of method)) (sym (append-nil text))
    ∙ arguments_again method text [] a in
    ap
    (λ (o : Option (Method × List ℕ)).
    option_map {U = Frame × List ℕ} (λ (x : Method × List ℕ). (f.Method channel x.0, x.1)) o
    >>= λ x. cond (eqb (length x.1) 0) (Some x.0) None)
    read

content_method :
    (method : Method) (channel : ℕ) (payload text : List ℕ) → ArgumentsOf method text →
    method_content channel payload (class_of method) (number_of method) text ≡ Some (f.Method channel method)
content_method method channel payload text a = elim (class_cases method) [
  | inl e ↦ by10 (class_of method) e (exactly_again method channel text a)
  | inr e ↦ by20 (class_of method) e (exactly_again method channel text a)
]
  where
    by10 :
        (class : ℕ) → class ≡ 10 →
        exactly (read_map (f.Method channel) (arguments_at class (number_of method))) text ≡ Some
        (f.Method channel method) →
        method_content channel payload class (number_of method) text ≡ Some (f.Method channel method)
    by10 class e h = rw e (rw e at h)

    by20 :
        (class : ℕ) → class ≡ 20 →
        exactly (read_map (f.Method channel) (arguments_at class (number_of method))) text ≡ Some
        (f.Method channel method) →
        method_content channel payload class (number_of method) text ≡ Some (f.Method channel method)
    by20 class e h = rw e (rw e at h)

-- class and number of a payload
payload_is :
    (channel class id : ℕ) (payload : List ℕ) (G : Form) → (p : (NumberOf w16 class ▸ NumberOf w16 id ▸ G) payload) →
    method_payload channel payload ≡ method_content channel payload class id p.4.1
unfolding method_payload
payload_is channel class id payload G p =
    let one : number_at w16 payload ≡ Some (class, p.1) =
    ap (number_at w16) p.2 ∙ number16_reader.again class p.0 p.1 p.3 in
    let two : number_at w16 p.1 ≡ Some (id, p.4.1) =
    ap (number_at w16) p.4.2 ∙ number16_reader.again id p.4.0 p.4.1 p.4.3 in
    ap (λ (o : Option (ℕ × List ℕ)). o >>= λ c. number_at w16 c.1 >>= λ n. method_content channel payload c.0 n.0 n.1)
    one
    ∙ ap (λ (o : Option (ℕ × List ℕ)). o >>= λ n. method_content channel payload class n.0 n.1) two

pub not_eqb : (a b : ℕ) → a ≢ b → eqb a b ≡ false
not_eqb a b ne = by (eqb a b) refl
  where
    by : (t : Bool) → eqb a b ≡ t → eqb a b ≡ false
    by true e = absurd (ne (eqb-true a b e))
    by false e = e

other_content :
    (channel class id : ℕ) (payload rest : List ℕ) → class ≢ 10 → class ≢ 20 →
    method_content channel payload class id rest ≡ Some (f.Raw channel RawMethod payload)
other_content channel class id payload rest a b = rw (not_eqb class 10 a, not_eqb class 20 b) refl

content_raw :
    (channel : ℕ) (kind : RawKind) (payload : List ℕ) → RawPayload kind payload →
    content (type_of kind) channel payload ≡ Some (f.Raw channel kind payload)
unfolding content
content_raw channel RawMethod payload p =
    payload_is channel p.0 p.1 payload (λ rest. Unit {0}) p.4 ∙ other_content channel p.0 p.1 payload _ p.2 p.3
content_raw channel Header payload p = let long : ltb (length payload) 14 ≡ false = le-ltb _ _ p in rw long refl
content_raw channel Body payload p = refl

content_of_method :
    (channel : ℕ) (method : Method) (payload : List ℕ) → MethodOf method payload →
    content 1 channel payload ≡ Some (f.Method channel method)
unfolding content
content_of_method channel method payload p =
    payload_is channel (class_of method) (number_of method) payload (ArgumentsOf method) p
    ∙ content_method method channel payload p.4.1 p.4.4

-- ---- behind a type octet
type_front :
    (type limit : ℕ) (text rest : List ℕ) → ((type ≡ 1) ⊎ ((type ≡ 2) ⊎ (type ≡ 3))) →
    front (type ∷ text ++ rest) limit ≡ framed type limit (text ++ rest)
unfolding front
type_front type limit text rest (inl e) = rw e refl
type_front type limit text rest (inr (inl e)) = rw e refl
type_front type limit text rest (inr (inr e)) = rw e refl

type_cases : (kind : RawKind) → ((type_of kind ≡ 1) ⊎ ((type_of kind ≡ 2) ⊎ (type_of kind ≡ 3)))
type_cases RawMethod = inl refl
type_cases Header = inr (inl refl)
type_cases Body = inr (inr refl)

not_heartbeat : (kind : RawKind) → eqb (type_of kind) 8 ≡ false
not_heartbeat RawMethod = refl
not_heartbeat Header = refl
not_heartbeat Body = refl

framed_front :
    (type limit channel : ℕ) (payload text rest : List ℕ) (frame : Frame) → ((type ≡ 1) ⊎ ((type ≡ 2) ⊎ (type ≡ 3))) →
    eqb type 8 ≡ false → Framed type channel payload text → length text ≤ limit →
    content type channel payload ≡ Some frame → front (text ++ rest) limit ≡ Whole frame (length text)
framed_front type limit channel payload text rest frame types other p within holds =
    let is : text ≡ type ∷ p.1 = p.2 ∙ ap (λ (t : List ℕ). t ++ p.1) p.3.1 in
    let len : length text ≡ suc (length p.1) = ap length is in
    ap (λ (t : List ℕ). front (t ++ rest) limit) is
    ∙ type_front type limit p.1 rest types
    ∙ whole_again type limit channel payload p.1 rest frame other p.4 (omega arith) holds
    ∙ ap (Whole frame) (sym len)

header_front :
    (o a b c : ℕ) (rest : List ℕ) (limit : ℕ) →
    front ((65 ∷ 77 ∷ 81 ∷ 80 ∷ o ∷ a ∷ b ∷ c ∷ []) ++ rest) limit ≡ Whole
    (f.ProtocolHeader (record { major = a; minor = b; revision = c })) 8
unfolding front header version
header_front o a b c rest limit = refl

heartbeat_front : (limit : ℕ) (rest : List ℕ) → 8 ≤ limit → front (spell_heartbeat ++ rest) limit ≡ Whole f.Heartbeat 8
unfolding front ended
heartbeat_front limit rest within =
    let body : (NumberOf w16 0 ▸ LongStringOf [] ▸ OctetOf 206) (0 ∷ 0 ∷ 0 ∷ 0 ∷ 0 ∷ 0 ∷ 206 ∷ []) = (
      0 ∷ 0 ∷ [],
      0 ∷ 0 ∷ 0 ∷ 0 ∷ 206 ∷ [],
      refl,
      (omega arith, refl),
      (
        0 ∷ 0 ∷ 0 ∷ 0 ∷ [],
        206 ∷ [],
        refl,
        (0 ∷ 0 ∷ 0 ∷ 0 ∷ [], [], refl, (omega arith, refl), (refl, refl)),
        (omega arith, refl),
      ),
    )
    in
    framed_again 8 limit 0 [] (0 ∷ 0 ∷ 0 ∷ 0 ∷ 0 ∷ 0 ∷ 206 ∷ []) rest body within refl

-- a frame that is spelled at the front is read there
pub front_again :
    (frame : Frame) (text rest : List ℕ) (limit : ℕ) → FrameOf frame text → IsWithinLimit limit (length text) frame →
    front (text ++ rest) limit ≡ Whole frame (length text)
front_again (f.ProtocolHeader v) text rest limit p within =
    let is : text ≡ 65 ∷ 77 ∷ 81 ∷ 80 ∷ p.4.3.0 ∷ v.major ∷ v.minor ∷ v.revision ∷ [] =
    rw (p.2, p.3, p.4.2, p.4.3.1.1, p.4.4.2, p.4.4.3.1, p.4.4.4.2, p.4.4.4.3.1, p.4.4.4.4.1) refl in
    ap (λ (t : List ℕ). front (t ++ rest) limit) is
    ∙ header_front p.4.3.0 v.major v.minor v.revision rest limit
    ∙ ap (λ (t : List ℕ). Whole (f.ProtocolHeader v) (length t)) (sym is)
front_again (f.Method channel method) text rest limit p within =
    framed_front 1 limit channel p.0 text rest (f.Method channel method) (inl refl) refl p.2 within
    (content_of_method channel method p.0 p.1)
front_again (f.Raw channel kind payload) text rest limit p within =
    framed_front (type_of kind) limit channel payload text rest (f.Raw channel kind payload) (type_cases kind)
    (not_heartbeat kind) p.1 within (content_raw channel kind payload p.0)
front_again f.Heartbeat text rest limit p within =
    let eight : length text ≡ 8 = ap length p in
    ap (λ (t : List ℕ). front (t ++ rest) limit) p
    ∙ heartbeat_front limit rest (omega (arith, eight, within))
    ∙ ap (Whole f.Heartbeat) (sym eight)

-- ---- no octets spell two frames
pub within_all : (frame : Frame) (n limit : ℕ) → n ≤ limit → IsWithinLimit limit n frame
within_all (f.ProtocolHeader v) n limit le = tt
within_all (f.Method channel method) n limit le = le
within_all (f.Raw channel kind payload) n limit le = le
within_all f.Heartbeat n limit le = le

whole_same : (first second : Frame) (m n : ℕ) → Whole first m ≡ Whole second n → (first ≡ second) × (m ≡ n)
whole_same first second m n e = (cc, cc)

pub one_frame :
    (first second : Frame) (a b x y : List ℕ) → FrameOf first a → FrameOf second b → a ++ x ≡ b ++ y →
    (first ≡ second) × (a ≡ b)
one_frame first second a b x y p q e =
    let limit : ℕ = length a + length b in
    let one : front (a ++ x) (length a + length b) ≡ Whole first (length a) =
    front_again first a x (length a + length b) p (within_all first (length a) (length a + length b) (omega arith)) in
    let two : front (b ++ y) (length a + length b) ≡ Whole second (length b) =
    front_again second b y (length a + length b) q (within_all second (length b) (length a + length b) (omega arith))
    in
    let same =
    whole_same first second (length a) (length b)
    (sym one ∙ ap (λ (t : List ℕ). front t (length a + length b)) e ∙ two) in
    (same.0, sym (take_at a x (length a) refl) ∙ ap₂ take same.1 e ∙ take_at b y (length b) refl)
