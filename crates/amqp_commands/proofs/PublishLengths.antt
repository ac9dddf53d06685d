-- How many octets spell the frames of a publish, before its body is cut.
use Rattle.std.proofs.Common.{◌≡◌, ◌∙◌, inl, inr, ap, refl, ℕ, zero, suc, ◌+◌, ◌-◌, ◌*◌, ◌/◌, ◌%◌, ◌≤◌, ◌<◌, min, List, [], ◌∷◌, take, drop, length, length-drop, length-take, arith}
use Rattle.std.specs.Prelude.{map}
use Rattle.std.proofs.Math.Nat.{suc-mul, le_antisymm}
use Rattle.std.proofs.lemmas.Nat.{mul-le}
use Rattle.std.proofs.lemmas.Bool.{cases_lt}
use Rattle.std.proofs.lemmas.Grind.{div_ceil_times}
use Rattle.std.proofs.lemmas.List.Sums.{sum_by-cons}
use Rattle.amqp_frame.specs.declared.frame.Frame.{Frame}
use Rattle.amqp_frame.specs.declared.frame.Frame.TheVariants.{Raw}
use Rattle.amqp_frame.specs.declared.frame.RawKind.TheVariants.{Body}
use Rattle.amqp_frame.specs.Frames.{encoding}
use Rattle.amqp_frame.specs.Lengths.{capped}
use Rattle.amqp_commands.specs.Publishing.{cut, body_pieces, octets_of_frames}
use Rattle.amqp_commands.proofs.Cutting.{raw-length}

-- ---- how many pieces there are

-- there is one number of times that a size is taken to reach a number, and not a whole size beyond it
times-once : (a size k m : ℕ) → a ≤ k * size → m * size < a + size → m ≤ k
times-once a size k m reached short = elim (cases_lt k m) [
  | inl more ↦
      let times : suc k * size ≤ m * size = mul-le (suc k) size m size (omega (arith, more)) (omega arith) in
      absurd (omega (arith, times, suc-mul k size, reached, short))
  | inr no_more ↦ omega (arith, no_more)
]

-- the pieces reach the end of what is cut, and not a whole piece beyond it; of nothing there is none
pub record Reaches (count size all : ℕ) : Type 0 where
  pub reached : all ≤ count * size
  pub short : count * size < all + size
  pub none : all ≡ 0 → count ≡ 0

pieces-reach : (pieces size : ℕ) (octets : List ℕ) → 1 ≤ size → length octets ≤ pieces → Reaches (length (cut pieces size octets)) size (length octets)
pieces-reach zero size [] one within = record { reached = omega arith; short = omega (arith, one); none = λ h. refl }
pieces-reach zero size (octet ∷ octets) one within = absurd (omega (arith, within))
pieces-reach (suc pieces) size [] one within = record { reached = omega arith; short = omega (arith, one); none = λ h. refl }
pieces-reach (suc pieces) size (octet ∷ octets) one within =
    let all : List ℕ = octet ∷ octets in
    let left : length (drop size all) ≡ suc (length octets) - size = length-drop size all in
    let rest : Reaches (length (cut pieces size (drop size all))) size (length (drop size all)) =
    pieces-reach pieces size (drop size all) one (omega (arith, left, within, one)) in
    more (length (cut pieces size (drop size all))) (length (drop size all)) left rest
  where
    more : (count over : ℕ) → over ≡ suc (length octets) - size → Reaches count size over → Reaches (suc count) size (suc (length octets))
    more count over left rest =
        let times : suc count * size ≡ count * size + size = suc-mul count size in
        record {
          reached = (let k = rest.reached in omega (arith, times, left, k));
          short = elim (cases_lt (length octets) size) [
            | inl last ↦
                let none : count ≡ 0 = rest.none (omega (arith, left, last)) in
                let nothing : count * size ≡ 0 * size = ap (λ n. n * size) none in omega (arith, times, nothing)
            | inr longer ↦ (let k = rest.short in omega (arith, times, left, longer, k))
          ];
          none = λ h. absurd (omega (arith, h));
        }

-- the length of the whole by that of a piece, rounded up
pub pieces-count : (size : ℕ) (body : List ℕ) → 1 ≤ size → length (body_pieces size body) ≡ length body / size + min 1 (length body % size)
pieces-count size body one =
    let all : ℕ = length body in
    let count : ℕ = length (body_pieces size body) in
    let up : ℕ = all / size + min 1 (all % size) in
    let r : Reaches count size all = pieces-reach all size body one (omega arith) in
    let d : (all ≤ up * size) × (up * size < all + size) = div_ceil_times all size (omega (arith, one)) in
    le_antisymm (times-once all size up count d.0 r.short) (times-once all size count up r.reached d.1)

-- ---- how many octets they take

-- each piece has 8 octets around it
pub bodies-length : (n pieces size : ℕ) (octets : List ℕ) → 1 ≤ size → length octets ≤ pieces
    → octets_of_frames (map (Raw n Body) (cut pieces size octets)) ≡ length octets + 8 * length (cut pieces size octets)
bodies-length n zero size [] one within = refl
bodies-length n zero size (octet ∷ octets) one within = absurd (omega (arith, within))
bodies-length n (suc pieces) size [] one within = refl
bodies-length n (suc pieces) size (octet ∷ octets) one within =
    let all : List ℕ = octet ∷ octets in
    let piece : List ℕ = take size all in
    let left : length (drop size all) ≡ suc (length octets) - size = length-drop size all in
    let first : length piece ≡ min size (suc (length octets)) = length-take size all in
    let rest = bodies-length n pieces size (drop size all) one (omega (arith, left, within, one)) in
    sum_by-cons (λ (frame : Frame). length (encoding frame)) (Raw n Body piece) (map (Raw n Body) (cut pieces size (drop size all)))
    ∙ omega (arith, raw-length n Body piece, first, left, rest)

-- the frames of a publish: the method, the header, and the octets of the body, with 8 around each piece
pub publish-length : (n size : ℕ) (method header : Frame) (body : List ℕ) → 1 ≤ size
    → octets_of_frames (method ∷ header ∷ map (Raw n Body) (body_pieces size body))
    ≡ length (encoding method) + (length (encoding header) + (length body + 8 * (length body / size + min 1 (length body % size))))
publish-length n size method header body one =
    let bodies : List Frame = map (Raw n Body) (body_pieces size body) in
    let octets : Frame → ℕ = λ frame. length (encoding frame) in
    let whole = sum_by-cons octets method (header ∷ bodies) in
    let after = sum_by-cons octets header bodies in
    let rest = bodies-length n (length body) size body one (omega arith) in
    let count = pieces-count size body one in
    whole
    ∙ ap (λ k. length (encoding method) + k) (after ∙ ap (λ k. length (encoding header) + k) (rest ∙ ap (λ k. length body + 8 * k) count))

-- a frame alone
pub frame-alone : (frame : Frame) → octets_of_frames (frame ∷ []) ≡ length (encoding frame)
frame-alone frame = sum_by-cons (λ (frame : Frame). length (encoding frame)) frame [] ∙ omega arith

-- ---- up to the greatest number

-- the parts of a publish are added one by one, and each sum stops there
pub capped-parts : (m h l k eights body both result : ℕ) → eights ≡ capped (k * 8) → body ≡ capped (eights + l) → both ≡ capped (capped m + capped h)
    → result ≡ capped (both + body) → result ≡ capped (m + (h + (l + 8 * k)))
capped-parts m h l k eights body both result one two three four = omega (arith, one, two, three, four)

-- what waits, and more
pub capped-more : (waiting octets more sum : ℕ) → more ≡ capped octets → sum ≡ capped (waiting + more) → sum ≡ capped (waiting + octets)
capped-more waiting octets more sum one two = omega (arith, one, two)
