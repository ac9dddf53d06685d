-- The answer at the front is the one that holds there, and no other does.
use Rattle.std.proofs.Common.{eq-eqb, ◌||◌, ◌≡◌, ◌≢◌, ◌⊎◌, ℕ, zero, suc, ◌+◌, ◌<◌, ◌≤◌, Bool, true, false, not, cond, eqb, ltb, ◌&&◌, List, [], ◌∷◌, ◌++◌, length, take, drop, Option, Some, None, refl, sym, ap, ap₂, subst, ◌∙◌, append_assoc, arith, inl, inr}
use Rattle.std.specs.Option.{option_map_or}
use Rattle.std.proofs.lemmas.Bool.{eqb-true, ltb-true, ltb-false}
use Rattle.std.proofs.lemmas.List.{append-nil, length-append, length-drop, nil_from_length}
use Rattle.std.specs.Int.{w16, w32, from_be_bytes, to_be_bytes}
use mathlib.Core.Bool.{false≢true}
use Rattle.amqp_types.specs.Forms.{IsOctets, ◌▸◌, OctetOf, NumberOf}
use Rattle.amqp_types.specs.Reading.{◌>>=◌, octet_at, octets_at, number_at, ◌⊗◌}
use Rattle.amqp_types.proofs.Readers.{IsOctets-rest, IsOctets-first, octet_reader, octets_reader, number16_reader, number32_reader, both_reader}
use Rattle.amqp_types.proofs.Small.{some_is}
use Rattle.amqp_frame.specs.declared.frame.Frame.{Frame}
use Rattle.amqp_frame.specs.declared.frame.Frame.TheVariants as f
use Rattle.amqp_frame.specs.declared.frame.Read.{Read}
use Rattle.amqp_frame.specs.declared.frame.Read.TheVariants.{Whole, More, TooLarge, BadHeartbeat, Bad}
use Rattle.amqp_frame.specs.Frames.{Anything, Framed, FrameOf}
use Rattle.amqp_frame.specs.Fronts.{IsTypeOctet, NamesSize, IsFront}
use Rattle.amqp_frame.specs.FrameReading.{content, ended, sized, framed, expect, version, header, is_type_octet, front}
use Rattle.amqp_frame.proofs.FrontLaws.{within_all, not_eqb}
use Rattle.amqp_frame.proofs.MethodTakes.{content_makes}

-- ---- behind a type octet, every answer but Bad is the one that holds
abbrev pub Sound : List ℕ → ℕ → Read → Type 0
Sound bytes limit a = (a ≡ Bad) ⊎ IsFront bytes limit a

bad_is_sound : (bytes : List ℕ) (limit : ℕ) → Sound bytes limit Bad
bad_is_sound bytes limit = inl refl

-- ---- what a reader that failed says of the length
octets_none : (n : ℕ) (bytes : List ℕ) → octets_at n bytes ≡ None → length bytes < n
octets_none n bytes e = by (ltb (length bytes) n) refl e
  where
    by :
        (t : Bool) → ltb (length bytes) n ≡ t →
        cond {A = Option (List ℕ × List ℕ)} t None (Some (take n bytes, drop n bytes)) ≡ None → length bytes < n
    by true is e = ltb-true _ _ is
    by false is e = absurd cc

octet_none : (bytes : List ℕ) → octet_at bytes ≡ None → bytes ≡ []
octet_none [] e = refl
octet_none (o ∷ bytes) e = absurd cc

-- an octet behind what was read, and a number
abbrev pub then_octet : Option (List ℕ × List ℕ) → Option ((List ℕ × ℕ) × List ℕ)
then_octet o = o >>= λ x. octet_at x.1 >>= λ y. Some ((x.0, y.0), y.1)

abbrev pub with_number : ℕ → Option (ℕ × List ℕ) → Option ((ℕ × ℕ) × List ℕ)
with_number n o = o >>= λ y. Some ((n, y.0), y.1)

abbrev pub then_number : Option (ℕ × List ℕ) → Option ((ℕ × ℕ) × List ℕ)
then_number o = o >>= λ x. number_at w32 x.1 >>= λ y. Some ((x.0, y.0), y.1)

body_none : (n : ℕ) (bytes : List ℕ) → (octets_at n ⊗ octet_at) bytes ≡ None → length bytes < n + 1
body_none n bytes e = by (octets_at n bytes) refl e
  where
    by : (o : Option (List ℕ × List ℕ)) → octets_at n bytes ≡ o → then_octet o ≡ None → length bytes < n + 1
    by None is e = omega (arith, octets_none n bytes is)
    by (Some x) is e =
        let len = octets_len n bytes x is in
        let none : x.1 ≡ [] = octet_none x.1 (second x.1 x.0 e) in
        omega (arith, len, ap length none)
      where
        second : (l : List ℕ) (p : List ℕ) → then_octet (Some (p, l)) ≡ None → octet_at l ≡ None
        second [] p e = refl
        second (y ∷ l) p e = absurd cc

        octets_len :
            (n : ℕ) (bytes : List ℕ) (x : List ℕ × List ℕ) → octets_at n bytes ≡ Some x →
            length bytes ≡ n + length x.1
        octets_len n bytes x e = go (ltb (length bytes) n) refl e
          where
            go :
                (t : Bool) → ltb (length bytes) n ≡ t →
                cond {A = Option (List ℕ × List ℕ)} t None (Some (take n bytes, drop n bytes)) ≡ Some x →
                length bytes ≡ n + length x.1
            go true is e = absurd cc
            go false is e =
                let le : n ≤ length bytes = ltb-false _ _ is in
                let same : ◌≡◌ {A =
                List ℕ × List ℕ} (take n bytes, drop n bytes) x = some_is (take n bytes, drop n bytes) x e in
                omega (arith, le, length-drop n bytes, ap (λ (p : List ℕ × List ℕ). length p.1) same)

numbers_none : (bytes : List ℕ) → (number_at w16 ⊗ number_at w32) bytes ≡ None → length bytes < 6
numbers_none bytes e = by (ltb (length bytes) 2) refl e
  where
    by :
        (t : Bool) → ltb (length bytes) 2 ≡ t →
        then_number (cond t None (Some (from_be_bytes w16 (take 2 bytes), drop 2 bytes))) ≡ None → length bytes < 6
    by true is e = omega (arith, ltb-true _ _ is)
    by false is e = go (ltb (length (drop 2 bytes)) 4) refl e
      where
        go :
            (t : Bool) → ltb (length (drop 2 bytes)) 4 ≡ t →
            with_number (from_be_bytes w16 (take 2 bytes))
            (cond t None (Some (from_be_bytes w32 (take 4 (drop 2 bytes)), drop 4 (drop 2 bytes)))) ≡ None →
            length bytes < 6
        go true short e = omega (arith, ltb-true _ _ short, length-drop 2 bytes)
        go false long e = absurd cc

-- ---- a protocol header
header_form :
    (o a b c : ℕ) → o < 256 → a < 256 → b < 256 → c < 256 →
    FrameOf (f.ProtocolHeader (record { major = a; minor = b; revision = c })) (65 ∷ 77 ∷ 81 ∷ 80 ∷ o ∷ a ∷ b ∷ c ∷ [])
header_form o a b c lo la lb lc = (
  65 ∷ 77 ∷ 81 ∷ 80 ∷ [],
  o ∷ a ∷ b ∷ c ∷ [],
  refl,
  refl,
  (
    o ∷ [],
    a ∷ b ∷ c ∷ [],
    refl,
    (o, (lo, refl)),
    (a ∷ [], b ∷ c ∷ [], refl, (la, refl), (b ∷ [], c ∷ [], refl, (lb, refl), (lc, refl))),
  ),
)

-- an octet of the signature
expect_sound :
    (n : ℕ) (next : List ℕ → Read) (before bytes : List ℕ) (limit : ℕ) → Sound before limit More →
    ((rest : List ℕ) → bytes ≡ n ∷ rest → Sound (before ++ n ∷ rest) limit (next rest)) →
    Sound (before ++ bytes) limit (expect n next bytes)
expect_sound n next before [] limit short more =
    subst (λ (l : List ℕ). Sound l limit More) (sym (append-nil before)) short
expect_sound n next before (o ∷ rest) limit short more = by (eqb o n) refl
  where
    by : (t : Bool) → eqb o n ≡ t → Sound (before ++ o ∷ rest) limit (cond t (next rest) Bad)
    by true is =
        let same : o ≡ n = eqb-true o n is in
        subst (λ (k : ℕ). Sound (before ++ k ∷ rest) limit (next rest)) (sym same)
        (more rest (ap (λ (k : ℕ). k ∷ rest) same))
    by false is = inl refl

begins :
    (bytes more : List ℕ) (o a b c : ℕ) → o < 256 → a < 256 → b < 256 → c < 256 → bytes ≢ [] → more ≢ [] →
    bytes ++ more ≡ 65 ∷ 77 ∷ 81 ∷ 80 ∷ o ∷ a ∷ b ∷ c ∷ [] → (limit : ℕ) → Sound bytes limit More
begins bytes more o a b c lo la lb lc some left is limit =
    inr
    (inr
    (inl (
      more,
      record { major = a; minor = b; revision = c },
      some,
      left,
      subst (FrameOf (f.ProtocolHeader (record { major = a; minor = b; revision = c }))) (sym is)
          (header_form o a b c lo la lb lc),
    )))

not_nil : (x : ℕ) (xs : List ℕ) → (x ∷ xs) ≢ []
not_nil x xs e = absurd cc

version_sound : (bytes : List ℕ) (limit : ℕ) → IsOctets bytes → Sound (65 ∷ 77 ∷ 81 ∷ 80 ∷ bytes) limit (version bytes)
unfolding version
version_sound [] limit fits =
    begins (65 ∷ 77 ∷ 81 ∷ 80 ∷ []) (0 ∷ 0 ∷ 0 ∷ 0 ∷ []) 0 0 0 0 (omega arith) (omega arith) (omega arith)
    (omega arith) (not_nil _ _) (not_nil _ _) refl limit
version_sound (o ∷ []) limit fits =
    begins (65 ∷ 77 ∷ 81 ∷ 80 ∷ o ∷ []) (0 ∷ 0 ∷ 0 ∷ []) o 0 0 0 (fits 0) (omega arith) (omega arith) (omega arith)
    (not_nil _ _) (not_nil _ _) refl limit
version_sound (o ∷ a ∷ []) limit fits =
    begins (65 ∷ 77 ∷ 81 ∷ 80 ∷ o ∷ a ∷ []) (0 ∷ 0 ∷ []) o a 0 0 (fits 0) (fits 1) (omega arith) (omega arith)
    (not_nil _ _) (not_nil _ _) refl limit
version_sound (o ∷ a ∷ b ∷ []) limit fits =
    begins (65 ∷ 77 ∷ 81 ∷ 80 ∷ o ∷ a ∷ b ∷ []) (0 ∷ []) o a b 0 (fits 0) (fits 1) (fits 2) (omega arith)
    (not_nil _ _) (not_nil _ _) refl limit
version_sound (o ∷ a ∷ b ∷ c ∷ rest) limit fits =
    inr (
      65 ∷ 77 ∷ 81 ∷ 80 ∷ o ∷ a ∷ b ∷ c ∷ [],
      rest,
      refl,
      refl,
      header_form o a b c (fits 0) (fits 1) (fits 2) (fits 3),
      tt,
    )

pub IsOctets-tail : (o : ℕ) (bytes : List ℕ) → IsOctets (o ∷ bytes) → IsOctets bytes
IsOctets-tail o bytes h i = h (suc i)

header_sound : (bytes : List ℕ) (limit : ℕ) → IsOctets bytes → Sound (65 ∷ bytes) limit (header bytes)
unfolding header
header_sound bytes limit fits =
    expect_sound 77 (expect 81 (expect 80 version)) (65 ∷ []) bytes limit
    (begins (65 ∷ []) (77 ∷ 81 ∷ 80 ∷ 0 ∷ 0 ∷ 0 ∷ 0 ∷ []) 0 0 0 0 (omega arith) (omega arith) (omega arith)
    (omega arith) (not_nil _ _) (not_nil _ _) refl limit)
    (λ rest1 is1. expect_sound 81 (expect 80 version) (65 ∷ 77 ∷ []) rest1 limit
    (begins (65 ∷ 77 ∷ []) (81 ∷ 80 ∷ 0 ∷ 0 ∷ 0 ∷ 0 ∷ []) 0 0 0 0 (omega arith) (omega arith) (omega arith)
    (omega arith) (not_nil _ _) (not_nil _ _) refl limit)
    (λ rest2 is2. expect_sound 80 version (65 ∷ 77 ∷ 81 ∷ []) rest2 limit
    (begins (65 ∷ 77 ∷ 81 ∷ []) (80 ∷ 0 ∷ 0 ∷ 0 ∷ 0 ∷ []) 0 0 0 0 (omega arith) (omega arith) (omega arith)
    (omega arith) (not_nil _ _) (not_nil _ _) refl limit)
    (λ rest3 is3.
    version_sound rest3 limit
    (IsOctets-tail 80 rest3
    (subst IsOctets is3
    (IsOctets-tail 81 rest2 (subst IsOctets is2 (IsOctets-tail 77 rest1 (subst IsOctets is1 fits)))))))))

-- ---- behind a type octet
pub type_small : (type : ℕ) → IsTypeOctet type → type < 256
type_small type (inl e) = omega arith
type_small type (inr (inl e)) = omega arith
type_small type (inr (inr (inl e))) = omega arith
type_small type (inr (inr (inr e))) = omega arith

other_type : (type : ℕ) → IsTypeOctet type → eqb type 8 ≡ false → ((type ≡ 1) ⊎ ((type ≡ 2) ⊎ (type ≡ 3)))
other_type type (inl e) other = inl e
other_type type (inr (inl e)) other = inr (inl e)
other_type type (inr (inr (inl e))) other = inr (inr e)
other_type type (inr (inr (inr e))) other = absurd (false≢true (sym other ∙ eq-eqb type 8 e))

-- a type octet, a channel, a size, a payload and an end
abbrev pub own : ℕ → List ℕ → List ℕ → List ℕ → List ℕ
own type a b payload = type ∷ (a ++ (b ++ (payload ++ 206 ∷ [])))

pub own_then :
    (type : ℕ) (a b payload rest : List ℕ) →
    type ∷ (a ++ (b ++ (payload ++ 206 ∷ rest))) ≡ own type a b payload ++ rest
own_then type a b payload rest = sym (simp append_assoc)

pub own_framed :
    (type channel : ℕ) (a b payload : List ℕ) → type < 256 → NumberOf w16 channel a →
    NumberOf w32 (length payload) b → Framed type channel payload (own type a b payload)
own_framed type channel a b payload small chan num = (
  type ∷ [],
  a ++ (b ++ (payload ++ 206 ∷ [])),
  refl,
  (small, refl),
  (
    a,
    b ++ (payload ++ 206 ∷ []),
    refl,
    chan,
    (
      b ++ payload,
      206 ∷ [],
      sym (append_assoc b payload (206 ∷ [])),
      (b, payload, refl, num, (refl, refl)),
      (omega arith, refl),
    ),
  ),
)

length-own :
    (type channel size : ℕ) (a b payload : List ℕ) → NumberOf w16 channel a → NumberOf w32 size b →
    length payload ≡ size → length (own type a b payload) ≡ size + 8
length-own type channel size a b payload chan num len =
    let two : length a ≡ 2 = ap length chan.1 in
    let four : length b ≡ 4 = ap length num.1 in
    omega (
      arith,
      length-append a (b ++ (payload ++ 206 ∷ [])),
      length-append b (payload ++ 206 ∷ []),
      length-append payload (206 ∷ []),
    )

heartbeat_form :
    (channel : ℕ) (a b rest : List ℕ) → NumberOf w16 channel a → NumberOf w32 0 b →
    (OctetOf 8 ▸ NumberOf w16 channel ▸ NumberOf w32 0 ▸ OctetOf 206 ▸ Anything) (8 ∷ (a ++ (b ++ 206 ∷ rest)))
heartbeat_form channel a b rest chan num = (
  8 ∷ [],
  a ++ (b ++ 206 ∷ rest),
  refl,
  (omega arith, refl),
  (a, b ++ 206 ∷ rest, refl, chan, (b, 206 ∷ rest, refl, num, (206 ∷ [], rest, refl, (omega arith, refl), tt))),
)

no_size : (type size : ℕ) → eqb type 8 ≡ true → (eqb type 8 && not (eqb size 0)) ≡ false → size ≡ 0
no_size type zero is e = refl
no_size type (suc size) is e =
    let above : eqb (suc size) 0 ≡ false = not_eqb (suc size) 0 (λ same. absurd (omega arith)) in
    absurd (false≢true (sym (rw (is, above) at e)))

-- a frame that ends where it is to end
module _
    (type limit channel size : ℕ) (a b payload rest : List ℕ) (types : IsTypeOctet type) (chan : NumberOf w16 channel a)
    (num : NumberOf w32 size b) (len : length payload ≡ size) (fits : IsOctets payload) (within : size + 8 ≤ limit)
    (empty : (eqb type 8 && not (eqb size 0)) ≡ false) where
  ended_sound : Sound (type ∷ (a ++ (b ++ (payload ++ 206 ∷ rest)))) limit (ended type channel size payload)
  unfolding ended
  ended_sound = by8 (eqb type 8) refl
    where
      whole :
          (frame : Frame) → FrameOf frame (own type a b payload) →
          Sound (type ∷ (a ++ (b ++ (payload ++ 206 ∷ rest)))) limit (Whole frame (size + 8))
      whole frame spelled =
          inr (
            own type a b payload,
            rest,
            own_then type a b payload rest,
            length-own type channel size a b payload chan num len,
            spelled,
            within_all frame (size + 8) limit within,
          )

      held :
          (o : Option Frame) → content type channel payload ≡ o → eqb type 8 ≡ false →
          Sound (type ∷ (a ++ (b ++ (payload ++ 206 ∷ rest)))) limit
          (option_map_or (λ frame. Whole frame (size + 8)) o Bad)
      held None is other = inl refl
      held (Some frame) is other =
          whole frame
          (content_makes type channel payload frame (other_type type types other) fits is (own type a b payload)
          (own_framed type channel a b payload (type_small type types) chan
          (subst (λ (k : ℕ). NumberOf w32 k b) (sym len) num)))

      by_channel :
          (t : Bool) → eqb channel 0 ≡ t → eqb type 8 ≡ true →
          Sound (type ∷ (a ++ (b ++ (payload ++ 206 ∷ rest)))) limit
          (cond t (Whole f.Heartbeat 8) (BadHeartbeat channel))
      by_channel true is eight =
          let zero_size : size ≡ 0 = no_size type size eight empty in
          let type_is : type ≡ 8 = eqb-true type 8 eight in
          let channel_is : channel ≡ 0 = eqb-true channel 0 is in
          let a_is : a ≡ 0 ∷ 0 ∷ [] = chan.1 ∙ ap (to_be_bytes w16) channel_is in
          let b_is : b ≡ 0 ∷ 0 ∷ 0 ∷ 0 ∷ [] = num.1 ∙ ap (to_be_bytes w32) zero_size in
          let payload_is : payload ≡ [] = nil_from_length payload (len ∙ zero_size) in
          let spelled : own type a b payload ≡ 8 ∷ 0 ∷ 0 ∷ 0 ∷ 0 ∷ 0 ∷ 0 ∷ 206 ∷ [] =
          rw (type_is, a_is, b_is, payload_is) refl in
          let eight_long : size + 8 ≡ 8 = omega arith in
          subst (λ (k : ℕ). Sound (type ∷ (a ++ (b ++ (payload ++ 206 ∷ rest)))) limit (Whole f.Heartbeat k))
          eight_long (whole f.Heartbeat spelled)
      by_channel false is eight =
          let zero_size : size ≡ 0 = no_size type size eight empty in
          let type_is : type ≡ 8 = eqb-true type 8 eight in
          let payload_is : payload ≡ [] = nil_from_length payload (len ∙ zero_size) in
          let text_is : type ∷ (a ++ (b ++ (payload ++ 206 ∷ rest))) ≡ 8 ∷ (a ++ (b ++ 206 ∷ rest)) =
          rw (type_is, payload_is) refl in
          let form = heartbeat_form channel a b rest chan (subst (λ (k : ℕ). NumberOf w32 k b) zero_size num) in
          inr (
            subst (OctetOf 8 ▸ NumberOf w16 channel ▸ NumberOf w32 0 ▸ OctetOf 206 ▸ Anything) (sym text_is) form,
            (λ same. false≢true (sym is ∙ eq-eqb channel 0 same)),
            omega arith,
          )

      by8 :
          (t : Bool) → eqb type 8 ≡ t →
          Sound (type ∷ (a ++ (b ++ (payload ++ 206 ∷ rest)))) limit
          (cond t (cond (eqb channel 0) (Whole f.Heartbeat 8) (BadHeartbeat channel))
          (option_map_or (λ frame. Whole frame (size + 8)) (content type channel payload) Bad))
      by8 true is = by_channel (eqb channel 0) refl is
      by8 false is = held (content type channel payload) refl is

names_form :
    (type channel size : ℕ) (a b rest : List ℕ) → IsTypeOctet type → NumberOf w16 channel a → NumberOf w32 size b →
    NamesSize type size (type ∷ (a ++ (b ++ rest)))
names_form type channel size a b rest types chan num = (
  type ∷ [],
  a ++ (b ++ rest),
  refl,
  (type_small type types, refl),
  (a, b ++ rest, refl, ap length chan.1, (b, rest, refl, num, tt)),
)

only_zero : (type size : ℕ) → (eqb type 8 && not (eqb size 0)) ≡ false → type ≡ 8 → size ≡ 0
only_zero type size e is = no_size type size (eq-eqb type 8 is) e

-- what stands behind a size
sized_sound :
    (type limit channel size : ℕ) (a b rest : List ℕ) → IsTypeOctet type → NumberOf w16 channel a →
    NumberOf w32 size b → IsOctets rest → Sound (type ∷ (a ++ (b ++ rest))) limit (sized type limit channel size rest)
unfolding sized
sized_sound type limit channel size a b rest types chan num fits = by_limit (ltb limit (size + 8)) refl
  where
    names : NamesSize type size (type ∷ (a ++ (b ++ rest)))
    names = names_form type channel size a b rest types chan num

    by_end :
        (payload last : List ℕ) (end : ℕ) → size + 8 ≤ limit → (eqb type 8 && not (eqb size 0)) ≡ false →
        rest ≡ payload ++ end ∷ last → length payload ≡ size → (t : Bool) → eqb end 206 ≡ t →
        Sound (type ∷ (a ++ (b ++ rest))) limit (cond t (ended type channel size payload) Bad)
    by_end payload last end within empty is len false e = inl refl
    by_end payload last end within empty is len true e =
        let end_is : end ≡ 206 = eqb-true end 206 e in
        let rest_is : rest ≡ payload ++ 206 ∷ last = is ∙ ap (λ (k : ℕ). payload ++ k ∷ last) end_is in
        let payload_fits : IsOctets payload = IsOctets-first payload (end ∷ last) (subst IsOctets is fits) in
        subst (λ (r : List ℕ). Sound (type ∷ (a ++ (b ++ r))) limit (ended type channel size payload)) (sym rest_is)
        (ended_sound type limit channel size a b payload last types chan num len payload_fits within empty)

    by_body :
        (o : Option ((List ℕ × ℕ) × List ℕ)) → (octets_at size ⊗ octet_at) rest ≡ o → size + 8 ≤ limit →
        (eqb type 8 && not (eqb size 0)) ≡ false →
        Sound (type ∷ (a ++ (b ++ rest))) limit
        (option_map_or (λ p. cond (eqb p.0.1 206) (ended type channel size p.0.0) Bad) o More)
    by_body None is within empty =
        let two : length a ≡ 2 = ap length chan.1 in
        let four : length b ≡ 4 = ap length num.1 in
        let short : length (type ∷ (a ++ (b ++ rest))) < size + 8 =
        omega (arith, body_none size rest is, length-append a (b ++ rest), length-append b rest) in
        inr (inr (inr (inr (type, size, types, names, within, short, only_zero type size empty))))
    by_body (Some p) is within empty =
        let t = (both_reader (octets_reader size) octet_reader).takes rest p.0 p.1 fits is in
        let payload_is : t.2.0 ≡ p.0.0 = t.2.3.1 in
        let end_is : t.2.1 ≡ p.0.1 ∷ [] = t.2.4.1 in
        let text_is : rest ≡ p.0.0 ++ p.0.1 ∷ p.1 =
        t.1
        ∙ ap (λ (x : List ℕ). x ++ p.1) (t.2.2 ∙ ap₂ (λ (x y : List ℕ). x ++ y) payload_is end_is)
        ∙ append_assoc p.0.0 (p.0.1 ∷ []) p.1 in
        by_end p.0.0 p.1 p.0.1 within empty text_is t.2.3.0 (eqb p.0.1 206) refl

    by_empty :
        (t : Bool) → (eqb type 8 && not (eqb size 0)) ≡ t → size + 8 ≤ limit →
        Sound (type ∷ (a ++ (b ++ rest))) limit
        (cond t Bad
        (option_map_or (λ p. cond (eqb p.0.1 206) (ended type channel size p.0.0) Bad)
        ((octets_at size ⊗ octet_at) rest) More))
    by_empty true is within = inl refl
    by_empty false is within = by_body ((octets_at size ⊗ octet_at) rest) refl within is

    by_limit :
        (t : Bool) → ltb limit (size + 8) ≡ t →
        Sound (type ∷ (a ++ (b ++ rest))) limit
        (cond t (TooLarge size)
        (cond (eqb type 8 && not (eqb size 0)) Bad
        (option_map_or (λ p. cond (eqb p.0.1 206) (ended type channel size p.0.0) Bad)
        ((octets_at size ⊗ octet_at) rest) More)))
    by_limit true is = inr (type, types, names, ltb-true _ _ is)
    by_limit false is = by_empty (eqb type 8 && not (eqb size 0)) refl (ltb-false _ _ is)

-- what stands behind a type octet
framed_sound :
    (type limit : ℕ) (rest : List ℕ) → IsTypeOctet type → IsOctets rest →
    Sound (type ∷ rest) limit (framed type limit rest)
unfolding framed
framed_sound type limit rest types fits = by ((number_at w16 ⊗ number_at w32) rest) refl
  where
    by :
        (o : Option ((ℕ × ℕ) × List ℕ)) → (number_at w16 ⊗ number_at w32) rest ≡ o →
        Sound (type ∷ rest) limit (option_map_or (λ p. sized type limit p.0.0 p.0.1 p.1) o More)
    by None is = inr (inr (inr (inl (type, rest, refl, types, omega (arith, numbers_none rest is)))))
    by (Some p) is =
        let t = (both_reader number16_reader number32_reader).takes rest p.0 p.1 fits is in
        let text_is : rest ≡ t.2.0 ++ (t.2.1 ++ p.1) =
        t.1 ∙ ap (λ (x : List ℕ). x ++ p.1) t.2.2 ∙ append_assoc t.2.0 t.2.1 p.1 in
        subst (λ (r : List ℕ). Sound (type ∷ r) limit (sized type limit p.0.0 p.0.1 p.1)) (sym text_is)
        (sized_sound type limit p.0.0 p.0.1 t.2.0 t.2.1 p.1 types t.2.3 t.2.4 (IsOctets-rest rest t.0 p.1 t.1 fits))

pub types_of : (n : ℕ) → is_type_octet n ≡ true → IsTypeOctet n
types_of n e = by1 (eqb n 1) refl e
  where
    by8 : (t : Bool) → eqb n 8 ≡ t → t ≡ true → IsTypeOctet n
    by8 true is e = inr (inr (inr (eqb-true n 8 is)))
    by8 false is e = absurd (false≢true e)

    by3 : (t : Bool) → eqb n 3 ≡ t → (t || eqb n 8) ≡ true → IsTypeOctet n
    by3 true is e = inr (inr (inl (eqb-true n 3 is)))
    by3 false is e = by8 (eqb n 8) refl e

    by2 : (t : Bool) → eqb n 2 ≡ t → (t || (eqb n 3 || eqb n 8)) ≡ true → IsTypeOctet n
    by2 true is e = inr (inl (eqb-true n 2 is))
    by2 false is e = by3 (eqb n 3) refl e

    by1 : (t : Bool) → eqb n 1 ≡ t → (t || (eqb n 2 || (eqb n 3 || eqb n 8))) ≡ true → IsTypeOctet n
    by1 true is e = inl (eqb-true n 1 is)
    by1 false is e = by2 (eqb n 2) refl e

-- every answer but Bad is one that holds
pub front_sound : (bytes : List ℕ) (limit : ℕ) → IsOctets bytes → Sound bytes limit (front bytes limit)
unfolding front
front_sound [] limit fits = inr (inl refl)
front_sound (o ∷ rest) limit fits = by65 (eqb o 65) refl
  where
    by_type : (t : Bool) → is_type_octet o ≡ t → Sound (o ∷ rest) limit (cond t (framed o limit rest) Bad)
    by_type true is = framed_sound o limit rest (types_of o is) (IsOctets-tail o rest fits)
    by_type false is = inl refl

    by65 :
        (t : Bool) → eqb o 65 ≡ t →
        Sound (o ∷ rest) limit (cond t (header rest) (cond (is_type_octet o) (framed o limit rest) Bad))
    by65 true is =
        subst (λ (k : ℕ). Sound (k ∷ rest) limit (header rest)) (sym (eqb-true o 65 is))
        (header_sound rest limit (IsOctets-tail o rest fits))
    by65 false is = by_type (is_type_octet o) refl
