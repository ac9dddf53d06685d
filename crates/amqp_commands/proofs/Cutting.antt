-- A body that is cut into pieces, and the frames that they make.
use Rattle.std.proofs.Common.{◌≡◌, ◌∙◌, inl, inr, ap, sym, refl, ℕ, zero, suc, ◌+◌, ◌-◌, ◌≤◌, ◌<◌, nat_lt, min, false, cond, List, [], ◌∷◌, ◌++◌, take, drop, length, append-nil, length-append, length-drop, length-take, Some, None, arith}
use Rattle.std.specs.Prelude.{find, map}
use Rattle.std.proofs.lemmas.Bool.{cases_lt}
use Rattle.std.proofs.lemmas.Bool.Decides.{nat_tests}
use Rattle.std.proofs.lemmas.List.{nil_from_length, take_all}
use Rattle.std.proofs.Math.Seq.{take-append_seam, drop-append_seam}
use Rattle.amqp_frame.specs.declared.frame.Frame.TheVariants.{Raw}
use Rattle.amqp_frame.specs.declared.frame.RawKind.{RawKind}
use Rattle.amqp_frame.specs.declared.frame.RawKind.TheVariants.{Body}
use Rattle.amqp_frame.specs.Frames.{encoding}
use Rattle.amqp_commands.specs.Publishing.{cut, body_pieces}

-- ---- pieces

-- a number of pieces that is enough cuts all
cut-enough : (n m size : ℕ) (octets : List ℕ) → 1 ≤ size → length octets ≤ n → length octets ≤ m → cut n size octets ≡ cut m size octets
cut-enough zero zero size octets one within within' = refl
cut-enough zero (suc m) size [] one within within' = refl
cut-enough zero (suc m) size (octet ∷ octets) one within within' = absurd (omega (arith, within))
cut-enough (suc n) zero size [] one within within' = refl
cut-enough (suc n) zero size (octet ∷ octets) one within within' = absurd (omega (arith, within'))
cut-enough (suc n) (suc m) size [] one within within' = refl
cut-enough (suc n) (suc m) size (octet ∷ octets) one within within' =
    let less : length (drop size (octet ∷ octets)) ≡ suc (length octets) - size = length-drop size (octet ∷ octets) in
    ap (λ pieces. take size (octet ∷ octets) ∷ pieces)
    (cut-enough n m size (drop size (octet ∷ octets)) one (omega (arith, less, within, one)) (omega (arith, less, within', one)))

module _ (size : ℕ) (piece rest : List ℕ) (long : length piece ≡ min size (length piece + length rest)) where
  taken-first : take size (piece ++ rest) ≡ piece
  taken-first = elim (cases_lt (length piece) size) [
    | inl short ↦
        let none : rest ≡ [] = nil_from_length rest (omega (arith, long, short)) in
        ap (λ l. take size (piece ++ l)) none ∙ ap (take size) (append-nil piece) ∙ take_all size piece (omega (arith, short))
    | inr whole ↦
        let same : size ≡ length piece = omega (arith, long, whole) in
        ap (λ n. take n (piece ++ rest)) same ∙ take-append_seam piece rest
  ]

  left-over : drop size (piece ++ rest) ≡ rest
  left-over = elim (cases_lt (length piece) size) [
    | inl short ↦
        let none : rest ≡ [] = nil_from_length rest (omega (arith, long, short)) in
        let gone : length (drop size (piece ++ rest)) ≡ 0 =
        length-drop size (piece ++ rest) ∙ omega (arith, length-append piece rest, ap length none, short) in
        nil_from_length (drop size (piece ++ rest)) gone ∙ sym none
    | inr whole ↦
        let same : size ≡ length piece = omega (arith, long, whole) in
        ap (λ n. drop n (piece ++ rest)) same ∙ drop-append_seam piece rest
  ]

-- the first piece, and then the pieces of the rest
pub pieces-first : (size : ℕ) (all piece rest : List ℕ) → 1 ≤ size → all ≡ piece ++ rest → length piece ≡ min size (length all)
    → 0 < length all → body_pieces size all ≡ piece ∷ body_pieces size rest
pieces-first size [] piece rest one parts long some = absurd (omega (arith, some))
pieces-first size (octet ∷ octets) piece rest one parts long some =
    let all : List ℕ = octet ∷ octets in
    let sum : length all ≡ length piece + length rest = ap length parts ∙ length-append piece rest in
    let long' : length piece ≡ min size (length piece + length rest) = long ∙ ap (min size) sum in
    let first : take size all ≡ piece = ap (take size) parts ∙ taken-first size piece rest long' in
    let after : drop size all ≡ rest = ap (drop size) parts ∙ left-over size piece rest long' in
    ap (λ p. p ∷ cut (length octets) size (drop size all)) first
    ∙ ap (λ r. piece ∷ cut (length octets) size r) after
    ∙ ap (λ pieces. piece ∷ pieces)
    (cut-enough (length octets) (length rest) size rest one (omega (arith, sum, long', one, some)) (omega arith))

-- ---- frames

-- a frame has 8 octets around its payload
pub raw-length : (n : ℕ) (kind : RawKind) (payload : List ℕ) → length (encoding (Raw n kind payload)) ≡ length payload + 8
raw-length n kind payload = omega (arith, length-append payload (206 ∷ []))

-- no frame of a body is too long, where a piece leaves room for what is around it
pub bodies-fit : (pieces size n cap : ℕ) (octets : List ℕ) → size + 8 ≤ cap
    → find (λ frame. nat_lt cap (length (encoding frame))) (map (Raw n Body) (cut pieces size octets)) ≡ None
bodies-fit zero size n cap octets room = refl
bodies-fit (suc pieces) size n cap [] room = refl
bodies-fit (suc pieces) size n cap (octet ∷ octets) room =
    let piece : List ℕ = take size (octet ∷ octets) in
    let short : length piece ≤ size = omega (arith, length-take size (octet ∷ octets)) in
    let fits : nat_lt cap (length (encoding (Raw n Body piece))) ≡ false = grind (arith, nat_tests, raw-length n Body piece, short, room) in
    ap (λ b. cond b (Some (Raw n Body piece)) (find (λ frame. nat_lt cap (length (encoding frame))) (map (Raw n Body) (cut pieces size (drop size (octet ∷ octets)))))) fits
    ∙ bodies-fit pieces size n cap (drop size (octet ∷ octets)) room
