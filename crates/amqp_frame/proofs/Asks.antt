-- Memory is asked for a payload that is copied, of a frame that is all there.
use Rattle.std.proofs.Common.{◌≡◌, ℕ, ◌+◌, ◌≤◌, Bool, true, false, not, cond, eqb, ltb, List, [], ◌∷◌, ◌++◌, length, Option, Some, None, refl, sym, ap, ap₂, subst, ◌∙◌, append_assoc, arith, inl, inr}
use Rattle.std.specs.Option.{option_map_or}
use Rattle.std.proofs.lemmas.Bool.{eqb-true, ltb-false}
use Rattle.std.specs.Int.{w16, w32}
use mathlib.Core.Bool.{false≢true}
use Rattle.amqp_types.specs.Forms.{IsOctets, NumberOf}
use Rattle.amqp_types.specs.Reading.{octet_at, octets_at, number_at, ◌⊗◌}
use Rattle.amqp_types.proofs.Readers.{IsOctets-rest, octet_reader, octets_reader, number16_reader, number32_reader, both_reader}
use Rattle.amqp_frame.specs.Fronts.{IsTypeOctet, IsCopied, HoldsPayload}
use Rattle.amqp_frame.specs.FrameReading.{is_type_octet}
use Rattle.amqp_frame.specs.Asking.{payload_asks, ended_asks, sized_asks, framed_asks, front_asks}
use Rattle.amqp_frame.proofs.FrontExact.{IsOctets-tail, type_small, own, own_then, own_framed, types_of}

long_enough : (payload : List ℕ) (least : ℕ) → not (ltb (length payload) least) ≡ true → least ≤ length payload
long_enough payload least e = by (ltb (length payload) least) refl e
  where
    by : (t : Bool) → ltb (length payload) least ≡ t → not t ≡ true → least ≤ length payload
    by true is e = absurd (false≢true e)
    by false is e = ltb-false _ _ is

payload_asked :
    (type : ℕ) (payload : List ℕ) → IsTypeOctet type → ended_asks type payload ≡ true → IsCopied type payload
unfolding ended_asks payload_asks
payload_asked type payload (inl one) e = inl (one, long_enough payload 4 (rw one at e))
payload_asked type payload (inr (inl two)) e = inr (inl (two, long_enough payload 14 (rw two at e)))
payload_asked type payload (inr (inr (inl three))) e = inr (inr three)
payload_asked type payload (inr (inr (inr eight))) e = absurd (false≢true (rw eight at e))

-- behind a size
module _
    (type limit channel size : ℕ) (a b rest : List ℕ) (types : IsTypeOctet type) (chan : NumberOf w16 channel a)
    (num : NumberOf w32 size b) (fits : IsOctets rest) where
  abbrev Asked : Type 0
  Asked = HoldsPayload (type ∷ (a ++ (b ++ rest))) limit

  whole_asked :
      (payload last : List ℕ) → size + 8 ≤ limit → length payload ≡ size → rest ≡ payload ++ 206 ∷ last →
      ended_asks type payload ≡ true → Asked
  whole_asked payload last within len is e =
      let text : type ∷ (a ++ (b ++ rest)) ≡ own type a b payload ++ last =
      ap (λ (r : List ℕ). type ∷ (a ++ (b ++ r))) is ∙ own_then type a b payload last in
      let number : NumberOf w32 (length payload) b = subst (λ (k : ℕ). NumberOf w32 k b) (sym len) num in
      let form = own_framed type channel a b payload (type_small type types) chan number in (
        type,
        channel,
        payload,
        payload_asked type payload types e,
        omega arith,
        (own type a b payload, last, text, form, tt),
      )

  by_end :
      (payload last : List ℕ) (end : ℕ) → size + 8 ≤ limit → length payload ≡ size → rest ≡ payload ++ end ∷ last →
      (t : Bool) → eqb end 206 ≡ t → cond t (ended_asks type payload) false ≡ true → Asked
  by_end payload last end within len is false ends e = absurd (false≢true e)
  by_end payload last end within len is true ends e =
      whole_asked payload last within len (is ∙ ap (λ (k : ℕ). payload ++ k ∷ last) (eqb-true end 206 ends)) e

  by_body : (o : Option ((List ℕ × ℕ) × List ℕ)) → (octets_at size ⊗ octet_at) rest ≡ o → size + 8 ≤ limit
      → option_map_or (λ p. cond (eqb p.0.1 206) (ended_asks type p.0.0) false) o false ≡ true → Asked
  by_body None is within e = absurd (false≢true e)
  by_body (Some p) is within e =
      let t = (both_reader (octets_reader size) octet_reader).takes rest p.0 p.1 fits is in
      let payload_is : t.2.0 ≡ p.0.0 = t.2.3.1 in
      let end_is : t.2.1 ≡ p.0.1 ∷ [] = t.2.4.1 in
      let text : rest ≡ p.0.0 ++ p.0.1 ∷ p.1 =
      t.1
      ∙ ap (λ (x : List ℕ). x ++ p.1) (t.2.2 ∙ ap₂ (λ (x y : List ℕ). x ++ y) payload_is end_is)
      ∙ append_assoc p.0.0 (p.0.1 ∷ []) p.1 in
      by_end p.0.0 p.1 p.0.1 within t.2.3.0 text (eqb p.0.1 206) refl e

  sized_asked : sized_asks type limit size rest ≡ true → Asked
  unfolding sized_asks
  sized_asked e = by (ltb limit (size + 8)) refl e
    where
      by :
          (t : Bool) → ltb limit (size + 8) ≡ t →
          cond t false
          (option_map_or (λ p. cond (eqb p.0.1 206) (ended_asks type p.0.0) false) ((octets_at size ⊗ octet_at) rest)
          false)
          ≡ true →
          Asked
      by true is e = absurd (false≢true e)
      by false is e = by_body ((octets_at size ⊗ octet_at) rest) refl (ltb-false _ _ is) e

-- behind a type octet
framed_asked :
    (type limit : ℕ) (rest : List ℕ) → IsTypeOctet type → IsOctets rest → framed_asks type limit rest ≡ true →
    HoldsPayload (type ∷ rest) limit
unfolding framed_asks
framed_asked type limit rest types fits e = by ((number_at w16 ⊗ number_at w32) rest) refl e
  where
    by :
        (o : Option ((ℕ × ℕ) × List ℕ)) → (number_at w16 ⊗ number_at w32) rest ≡ o →
        option_map_or (λ p. sized_asks type limit p.0.1 p.1) o false ≡ true → HoldsPayload (type ∷ rest) limit
    by None is e = absurd (false≢true e)
    by (Some p) is e =
        let t = (both_reader number16_reader number32_reader).takes rest p.0 p.1 fits is in
        let text : rest ≡ t.2.0 ++ (t.2.1 ++ p.1) =
        t.1 ∙ ap (λ (x : List ℕ). x ++ p.1) t.2.2 ∙ append_assoc t.2.0 t.2.1 p.1 in
        subst (λ (r : List ℕ). HoldsPayload (type ∷ r) limit) (sym text)
        (sized_asked type limit p.0.0 p.0.1 t.2.0 t.2.1 p.1 types t.2.3 t.2.4 (IsOctets-rest rest t.0 p.1 t.1 fits) e)

pub front_asked :
    (bytes : List ℕ) (limit : ℕ) → IsOctets bytes → front_asks bytes limit ≡ true → HoldsPayload bytes limit
unfolding front_asks
front_asked [] limit fits e = absurd (false≢true e)
front_asked (o ∷ rest) limit fits e = by (is_type_octet o) refl e
  where
    by :
        (t : Bool) → is_type_octet o ≡ t → cond t (framed_asks o limit rest) false ≡ true →
        HoldsPayload (o ∷ rest) limit
    by true is e = framed_asked o limit rest (types_of o is) (IsOctets-tail o rest fits) e
    by false is e = absurd (false≢true e)
