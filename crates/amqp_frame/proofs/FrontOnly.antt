-- Each answer that holds at the front is the one that is read.
use Rattle.std.proofs.Common.{eq-eqb, ◌≡◌, ◌≢◌, ℕ, ◌+◌, ◌<◌, Bool, true, false, not, cond, eqb, ltb, ◌&&◌, List, [], ◌∷◌, ◌++◌, length, take, drop, Option, Some, None, refl, sym, ap, ap₂, subst, ◌∙◌, append_assoc, arith, inl, inr}
use Rattle.std.specs.Option.{option_map_or}
use Rattle.std.proofs.lemmas.Bool.{eqb-true, ltb-false, le-ltb}
use Rattle.std.proofs.lemmas.List.{append-nil, length-append, length-drop, take_at, drop_at, nil_from_length}
use Rattle.std.specs.Int.{w16, w32, from_be_bytes}
use Rattle.amqp_types.specs.Forms.{IsOctets, ◌▸◌, OctetOf, NumberOf, LongStringOf}
use Rattle.amqp_types.specs.Reading.{octet_at, octets_at, number_at, ◌⊗◌}
use Rattle.amqp_types.proofs.Readers.{number32_reader}
use Rattle.amqp_frame.specs.declared.frame.Frame.{Frame}
use Rattle.amqp_frame.specs.declared.frame.Read.{Read}
use Rattle.amqp_frame.specs.declared.frame.Read.TheVariants.{Whole, More, TooLarge, BadHeartbeat, Bad, NoMemory}
use Rattle.amqp_frame.specs.Fronts.{IsTypeOctet, NamesSize, IsWithinLimit, IsWhole, IsBadHeartbeat, IsTooLarge, BeginsHeader, LacksSize, IsUnfinished, IsMore, IsBad, IsFront}
use Rattle.amqp_frame.specs.FrameReading.{ended, sized, framed, expect, version, header, front, Yields}
use Rattle.amqp_frame.proofs.FrontLaws.{front_again, framed_again, framed_is, not_eqb}
use Rattle.amqp_frame.proofs.FrontExact.{then_octet, with_number, then_number, front_sound}

-- behind a type octet
type_is_front :
    (type limit : ℕ) (rest : List ℕ) → IsTypeOctet type → front (type ∷ rest) limit ≡ framed type limit rest
unfolding front
type_is_front type limit rest (inl e) = rw e refl
type_is_front type limit rest (inr (inl e)) = rw e refl
type_is_front type limit rest (inr (inr (inl e))) = rw e refl
type_is_front type limit rest (inr (inr (inr e))) = rw e refl

lt-true : (a b : ℕ) → a < b → ltb a b ≡ true
lt-true a b lt = by (ltb a b) refl
  where
    by : (t : Bool) → ltb a b ≡ t → ltb a b ≡ true
    by true e = e
    by false e = absurd (omega (arith, ltb-false a b e))

number16_any : (c rest : List ℕ) → length c ≡ 2 → number_at w16 (c ++ rest) ≡ Some (from_be_bytes w16 c, rest)
number16_any c rest len =
    let long : ltb (length (c ++ rest)) 2 ≡ false = le-ltb _ _ (omega (arith, length-append c rest)) in
    rw (long, take_at c rest 2 len, drop_at c rest 2 len) refl

-- the channel and the size that a frame names
named :
    (type size limit : ℕ) (bytes : List ℕ) → IsTypeOctet type → (n : NamesSize type size bytes) →
    front bytes limit ≡ sized type limit (from_be_bytes w16 n.4.0) size n.4.4.1
named type size limit bytes types n =
    let c = n.4.0 in
    let bytes_is : bytes ≡ type ∷ (n.4.0 ++ (n.4.4.0 ++ n.4.4.1)) =
    n.2 ∙ ap₂ (λ (x y : List ℕ). x ++ y) n.3.1 (n.4.2 ∙ ap (λ (x : List ℕ). n.4.0 ++ x) n.4.4.2) in
    let one = number16_any n.4.0 (n.4.4.0 ++ n.4.4.1) n.4.3 in
    let two = number32_reader.again size n.4.4.0 n.4.4.1 n.4.4.3 in
    let behind : List ℕ = n.4.4.0 ++ n.4.4.1 in
    let both : (number_at w16 ⊗ number_at w32) (n.4.0 ++ behind) ≡ Some ((from_be_bytes w16 n.4.0, size), n.4.4.1) =
    ap then_number one ∙ ap (with_number (from_be_bytes w16 n.4.0)) two in
    ap (λ (x : List ℕ). front x limit) bytes_is
    ∙ type_is_front type limit (n.4.0 ++ (n.4.4.0 ++ n.4.4.1)) types
    ∙ framed_is type limit (from_be_bytes w16 n.4.0) size (n.4.0 ++ (n.4.4.0 ++ n.4.4.1)) n.4.4.1 both

too_large :
    (type limit channel size : ℕ) (rest : List ℕ) → limit < size + 8 →
    sized type limit channel size rest ≡ TooLarge size
unfolding sized
too_large type limit channel size rest lt = let above : ltb limit (size + 8) ≡ true = lt-true _ _ lt in rw above refl

large_only : (bytes : List ℕ) (limit size : ℕ) → IsTooLarge bytes limit size → front bytes limit ≡ TooLarge size
large_only bytes limit size h =
    named h.0 size limit bytes h.1 h.2 ∙ too_large h.0 limit (from_be_bytes w16 h.2.4.0) size h.2.4.4.1 h.3

ended_heartbeat : (channel : ℕ) → channel ≢ 0 → ended 8 channel 0 [] ≡ BadHeartbeat channel
unfolding ended
ended_heartbeat channel ne = rw (not_eqb channel 0 ne) refl

heartbeat_only :
    (bytes : List ℕ) (limit channel : ℕ) → IsBadHeartbeat bytes limit channel →
    front bytes limit ≡ BadHeartbeat channel
heartbeat_only bytes limit channel h =
    let n = h.0 in
    let text = n.4.0 ++ (n.4.4.0 ++ n.4.4.4.0) in
    let bytes_is : bytes ≡ 8 ∷ ((n.4.0 ++ (n.4.4.0 ++ n.4.4.4.0)) ++ n.4.4.4.1) =
    n.2
    ∙ ap₂ (λ (x y : List ℕ). x ++ y) n.3.1
    (n.4.2 ∙ ap (λ (x : List ℕ). n.4.0 ++ x) (n.4.4.2 ∙ ap (λ (x : List ℕ). n.4.4.0 ++ x) n.4.4.4.2))
    ∙ ap (λ (x : List ℕ). 8 ∷ x) (simp append_assoc) in
    let form : (NumberOf w16 channel ▸ LongStringOf [] ▸ OctetOf 206) (n.4.0 ++ (n.4.4.0 ++ n.4.4.4.0)) = (
      n.4.0,
      n.4.4.0 ++ n.4.4.4.0,
      refl,
      n.4.3,
      (n.4.4.0, n.4.4.4.0, refl, (n.4.4.0, [], sym (append-nil n.4.4.0), n.4.4.3, (refl, refl)), n.4.4.4.3),
    )
    in
    ap (λ (x : List ℕ). front x limit) bytes_is
    ∙ type_is_front 8 limit ((n.4.0 ++ (n.4.4.0 ++ n.4.4.4.0)) ++ n.4.4.4.1) (inr (inr (inr refl)))
    ∙ framed_again 8 limit channel [] (n.4.0 ++ (n.4.4.0 ++ n.4.4.4.0)) n.4.4.4.1 form h.2 refl
    ∙ ended_heartbeat channel h.1

-- ---- what asks for more
head_is : (x y : ℕ) (xs ys : List ℕ) → x ∷ xs ≡ y ∷ ys → (x ≡ y) × (xs ≡ ys)
head_is x y xs ys e = (cc, cc)

expect_more :
    (n : ℕ) (next : List ℕ → Read) (bytes more tail : List ℕ) → bytes ++ more ≡ n ∷ tail →
    ((rest : List ℕ) → rest ++ more ≡ tail → next rest ≡ More) → expect n next bytes ≡ More
expect_more n next [] more tail e h = refl
expect_more n next (x ∷ bytes) more tail e h =
    let both = head_is x n (bytes ++ more) tail e in
    let same : eqb x n ≡ true = eq-eqb x n both.0 in
    rw same (h bytes both.1)

version_more :
    (bytes more : List ℕ) (o a b c : ℕ) → more ≢ [] → bytes ++ more ≡ o ∷ a ∷ b ∷ c ∷ [] → version bytes ≡ More
unfolding version
version_more [] more o a b c left e = refl
version_more (x ∷ []) more o a b c left e = refl
version_more (x ∷ y ∷ []) more o a b c left e = refl
version_more (x ∷ y ∷ z ∷ []) more o a b c left e = refl
version_more (x ∷ y ∷ z ∷ w ∷ bytes) more o a b c left e =
    absurd (left (nil_from_length more (omega (arith, ap length e, length-append bytes more))))

header_more :
    (bytes more : List ℕ) (o a b c limit : ℕ) → more ≢ [] → bytes ++ more ≡ 77 ∷ 81 ∷ 80 ∷ o ∷ a ∷ b ∷ c ∷ [] →
    front (65 ∷ bytes) limit ≡ More
unfolding front header
header_more bytes more o a b c limit left e =
    expect_more 77 (expect 81 (expect 80 version)) bytes more (81 ∷ 80 ∷ o ∷ a ∷ b ∷ c ∷ []) e (λ rest1 e1.
    expect_more 81 (expect 80 version) rest1 more (80 ∷ o ∷ a ∷ b ∷ c ∷ []) e1 (λ rest2 e2.
    expect_more 80 version rest2 more (o ∷ a ∷ b ∷ c ∷ []) e2 (λ rest3 e3. version_more rest3 more o a b c left e3)))

begins_only : (bytes : List ℕ) (limit : ℕ) → BeginsHeader bytes → front bytes limit ≡ More
begins_only [] limit h = absurd (h.2 refl)
begins_only (x ∷ bytes) limit h =
    let p = h.4 in
    let is : x ∷ (bytes ++ h.0) ≡ 65 ∷ 77 ∷ 81 ∷ 80 ∷ p.4.3.0 ∷ h.1.major ∷ h.1.minor ∷ h.1.revision ∷ [] =
    p.2 ∙ rw (p.3, p.4.2, p.4.3.1.1, p.4.4.2, p.4.4.3.1, p.4.4.4.2, p.4.4.4.3.1, p.4.4.4.4.1) refl in
    let both = head_is x 65 (bytes ++ h.0) (77 ∷ 81 ∷ 80 ∷ p.4.3.0 ∷ h.1.major ∷ h.1.minor ∷ h.1.revision ∷ []) is in
    ap (λ (k : ℕ). front (k ∷ bytes) limit) both.0
    ∙ header_more bytes h.0 p.4.3.0 h.1.major h.1.minor h.1.revision limit h.3 both.1

numbers_short : (bytes : List ℕ) → length bytes < 6 → (number_at w16 ⊗ number_at w32) bytes ≡ None
numbers_short bytes lt = by (ltb (length bytes) 2) refl
  where
    by :
        (t : Bool) → ltb (length bytes) 2 ≡ t →
        then_number (cond t None (Some (from_be_bytes w16 (take 2 bytes), drop 2 bytes))) ≡ None
    by true is = refl
    by false is =
        let short : ltb (length (drop 2 bytes)) 4 ≡ true =
        lt-true _ _ (omega (arith, length-drop 2 bytes, ltb-false _ _ is)) in
        rw short refl

body_short : (n : ℕ) (bytes : List ℕ) → length bytes < n + 1 → (octets_at n ⊗ octet_at) bytes ≡ None
body_short n bytes lt = by (ltb (length bytes) n) refl
  where
    by : (t : Bool) → ltb (length bytes) n ≡ t → then_octet (cond t None (Some (take n bytes, drop n bytes))) ≡ None
    by true is = refl
    by false is =
        let none : drop n bytes ≡ [] =
        nil_from_length (drop n bytes) (omega (arith, length-drop n bytes, ltb-false _ _ is)) in
        ap (λ (r : List ℕ). then_octet (Some (take n bytes, r))) none

framed_more :
    (type limit : ℕ) (rest : List ℕ) → (number_at w16 ⊗ number_at w32) rest ≡ None → framed type limit rest ≡ More
unfolding framed
framed_more type limit rest e =
    ap (λ (o : Option ((ℕ × ℕ) × List ℕ)). option_map_or (λ p. sized type limit p.0.0 p.0.1 p.1) o More) e

short_only : (bytes : List ℕ) (limit : ℕ) → LacksSize bytes → front bytes limit ≡ More
short_only bytes limit h =
    ap (λ (x : List ℕ). front x limit) h.2
    ∙ type_is_front h.0 limit h.1 h.3
    ∙ framed_more h.0 limit h.1 (numbers_short h.1 (omega (arith, h.4, ap length h.2)))

empty_enough : (type size : ℕ) → (type ≡ 8 → size ≡ 0) → (eqb type 8 && not (eqb size 0)) ≡ false
empty_enough type size h = by (eqb type 8) refl
  where
    by : (t : Bool) → eqb type 8 ≡ t → (t && not (eqb size 0)) ≡ false
    by true is = let zero_size : size ≡ 0 = h (eqb-true type 8 is) in rw zero_size refl
    by false is = refl

sized_more :
    (type limit channel size : ℕ) (rest : List ℕ) → ltb limit (size + 8) ≡ false →
    (eqb type 8 && not (eqb size 0)) ≡ false → (octets_at size ⊗ octet_at) rest ≡ None →
    sized type limit channel size rest ≡ More
unfolding sized
sized_more type limit channel size rest a b c = rw (a, b, c) refl

unfinished_only : (bytes : List ℕ) (limit : ℕ) → IsUnfinished bytes limit → front bytes limit ≡ More
unfinished_only bytes limit h =
    let n = h.3 in
    let two : length n.4.0 ≡ 2 = n.4.3 in
    let one : length n.0 ≡ 1 = ap length n.3.1 in
    let four : length n.4.4.0 ≡ 4 = ap length n.4.4.3.1 in
    let short : length n.4.4.1 < h.1 + 1 =
    omega (
      arith,
      h.5,
      ap length n.2,
      length-append n.0 n.1,
      ap length n.4.2,
      length-append n.4.0 n.4.1,
      ap length n.4.4.2,
      length-append n.4.4.0 n.4.4.1,
    )
    in
    named h.0 h.1 limit bytes h.2 h.3
    ∙ sized_more h.0 limit (from_be_bytes w16 n.4.0) h.1 n.4.4.1 (le-ltb _ _ h.4) (empty_enough h.0 h.1 h.6)
    (body_short h.1 n.4.4.1 short)

more_only : (bytes : List ℕ) (limit : ℕ) → IsMore bytes limit → front bytes limit ≡ More
unfolding front
more_only bytes limit (inl e) = ap (λ (x : List ℕ). front x limit) e
more_only bytes limit (inr (inl h)) = begins_only bytes limit h
more_only bytes limit (inr (inr (inl h))) = short_only bytes limit h
more_only bytes limit (inr (inr (inr h))) = unfinished_only bytes limit h

whole_only :
    (bytes : List ℕ) (limit : ℕ) (frame : Frame) (n : ℕ) → IsWhole bytes limit frame n →
    front bytes limit ≡ Whole frame n
whole_only bytes limit frame n h =
    ap (λ (x : List ℕ). front x limit) h.2
    ∙ front_again frame h.0 h.1 limit h.4 (subst (λ (k : ℕ). IsWithinLimit limit k frame) (sym h.3) h.5)
    ∙ ap (Whole frame) h.3

-- ---- exactly one answer
pub front_holds : (bytes : List ℕ) (limit : ℕ) → IsOctets bytes → IsFront bytes limit (front bytes limit)
front_holds bytes limit fits = elim (front_sound bytes limit fits) [
  | inl e ↦ subst (IsFront bytes limit) (sym e) (record {
    not_whole = λ frame n h. unlike_whole frame n (sym e ∙ whole_only bytes limit frame n h);
    not_heartbeat = λ channel h. unlike_heartbeat channel (sym e ∙ heartbeat_only bytes limit channel h);
    not_large = λ size h. unlike_large size (sym e ∙ large_only bytes limit size h);
    not_more = λ h. unlike_more (sym e ∙ more_only bytes limit h);
  })
  | inr h ↦ h
]
  where
    unlike_whole : (frame : Frame) (n : ℕ) → Bad ≡ Whole frame n → ⊥
    unlike_whole frame n e = cc

    unlike_heartbeat : (channel : ℕ) → Bad ≡ BadHeartbeat channel → ⊥
    unlike_heartbeat channel e = cc

    unlike_large : (size : ℕ) → Bad ≡ TooLarge size → ⊥
    unlike_large size e = cc

    unlike_more : Bad ≡ More → ⊥
    unlike_more e = cc

bad_only : (bytes : List ℕ) (limit : ℕ) (r : Read) → IsBad bytes limit → IsFront bytes limit r → r ≡ Bad
bad_only bytes limit (Whole frame n) bad h = absurd (bad.not_whole frame n h)
bad_only bytes limit More bad h = absurd (bad.not_more h)
bad_only bytes limit (TooLarge size) bad h = absurd (bad.not_large size h)
bad_only bytes limit (BadHeartbeat channel) bad h = absurd (bad.not_heartbeat channel h)
bad_only bytes limit Bad bad h = refl
bad_only bytes limit NoMemory bad h = absurd h

pub front_only :
    (bytes : List ℕ) (limit : ℕ) (answer : Read) → IsOctets bytes → IsFront bytes limit answer →
    front bytes limit ≡ answer
front_only bytes limit (Whole frame n) fits h = whole_only bytes limit frame n h
front_only bytes limit More fits h = more_only bytes limit h
front_only bytes limit (TooLarge size) fits h = large_only bytes limit size h
front_only bytes limit (BadHeartbeat channel) fits h = heartbeat_only bytes limit channel h
front_only bytes limit Bad fits h = bad_only bytes limit (front bytes limit) h (front_holds bytes limit fits)
front_only bytes limit NoMemory fits h = absurd h

-- the answer that was given holds
pub answer_holds :
    (bytes : List ℕ) (limit : ℕ) (r answer : Read) → IsFront bytes limit answer → Yields r answer → r ≢ NoMemory →
    IsFront bytes limit r
answer_holds bytes limit (Whole frame n) answer h given real = subst (IsFront bytes limit) given h
answer_holds bytes limit More answer h given real = subst (IsFront bytes limit) given h
answer_holds bytes limit (TooLarge size) answer h given real = subst (IsFront bytes limit) given h
answer_holds bytes limit (BadHeartbeat channel) answer h given real = subst (IsFront bytes limit) given h
answer_holds bytes limit Bad answer h given real = subst (IsFront bytes limit) given h
answer_holds bytes limit NoMemory answer h given real = absurd (real refl)
