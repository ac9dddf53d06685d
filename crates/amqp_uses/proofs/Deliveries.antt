-- How far the frames of a message reach.
use Rattle.std.proofs.Common.{rules, arith, ◌≡◌, ◌≤◌, ◌<◌, ◌+◌, ◌-◌, ℕ, zero, suc, Bool, false, IsTrue, List, [], ◌∷◌, length, length-append, take, drop, Some, slice_index_or, refl, sym, ap, ◌∙◌}
use Rattle.std.specs.List.{AllByRecursion}
use Rattle.std.proofs.lemmas.Bool.{true≢false}
use Rattle.std.proofs.lemmas.Grind.{common_steps}
use Rattle.amqp_answers.specs.declared.handed.Handed.{Handed}
use Rattle.amqp_uses.specs.Driving.{is_body}
use Rattle.amqp_uses.specs.Messages.{payloads, announced, AreBodies, IsMessage}

abbrev pub octets : ℕ → List Handed → ℕ
octets n frames = length (payloads (take n frames))

-- where the first frames have fewer octets than some, more follow them
pub more-follow : (frames : List Handed) (count n : ℕ) → octets count frames < octets n frames → count < length frames
more-follow [] zero zero less = absurd (omega (arith, less))
more-follow [] zero (suc n) less = absurd (omega (arith, less))
more-follow [] (suc c) zero less = absurd (omega (arith, less))
more-follow [] (suc c) (suc n) less = absurd (omega (arith, less))
more-follow (f ∷ fs) zero n less = omega arith
more-follow (f ∷ fs) (suc c) zero less = absurd (omega (arith, less))
more-follow (f ∷ fs) (suc c) (suc n) less =
    let on = more-follow fs c n
    (omega (arith, less, length-append f.bytes (payloads (take c fs)), length-append f.bytes (payloads (take n fs))))
    in omega (arith, on)

-- and the first of those is a body, where those are bodies
pub next-is-body : (frames : List Handed) (count n : ℕ) (d : Handed) → octets count frames < octets n frames
    → AllByRecursion (λ (frame : Handed). IsTrue (is_body frame)) (take n frames)
    → IsTrue (is_body (slice_index_or frames count d))
next-is-body [] zero zero d less all = absurd (omega (arith, less))
next-is-body [] zero (suc n) d less all = absurd (omega (arith, less))
next-is-body [] (suc c) zero d less all = absurd (omega (arith, less))
next-is-body [] (suc c) (suc n) d less all = absurd (omega (arith, less))
next-is-body (f ∷ fs) zero zero d less all = absurd (omega (arith, less))
next-is-body (f ∷ fs) (suc c) zero d less all = absurd (omega (arith, less))
next-is-body (f ∷ fs) zero (suc n) d less all = all.0
next-is-body (f ∷ fs) (suc c) (suc n) d less all = next-is-body fs c n d
    (omega (arith, less, length-append f.bytes (payloads (take c fs)), length-append f.bytes (payloads (take n fs)))) all.1

-- and with that one they have no more
pub no-more : (frames : List Handed) (count n : ℕ) (d : Handed) → octets count frames < octets n frames
    → octets count frames + length (slice_index_or frames count d).bytes ≤ octets n frames
no-more [] zero zero d less = absurd (omega (arith, less))
no-more [] zero (suc n) d less = absurd (omega (arith, less))
no-more [] (suc c) zero d less = absurd (omega (arith, less))
no-more [] (suc c) (suc n) d less = absurd (omega (arith, less))
no-more (f ∷ fs) zero zero d less = absurd (omega (arith, less))
no-more (f ∷ fs) (suc c) zero d less = absurd (omega (arith, less))
no-more (f ∷ fs) zero (suc n) d less = omega (arith, length-append f.bytes (payloads (take n fs)))
no-more (f ∷ fs) (suc c) (suc n) d less =
    let on = no-more fs c n d
    (omega (arith, less, length-append f.bytes (payloads (take c fs)), length-append f.bytes (payloads (take n fs))))
    in omega (arith, on, length-append f.bytes (payloads (take c fs)), length-append f.bytes (payloads (take n fs)))

-- what the first frames announce, all of them do
pub announced-on : (n : ℕ) (frames : List Handed) (size : ℕ) → announced (take n frames) ≡ Some size → announced frames ≡ Some size
announced-on zero frames size is = absurd (grind rules)
announced-on (suc n) [] size is = is
announced-on (suc zero) (f ∷ fs) size is = absurd (grind rules)
announced-on (suc (suc n)) (f ∷ []) size is = is
announced-on (suc (suc n)) (f ∷ g ∷ fs) size is = is

-- the first frames without two are the first without two
pub without-two : (n : ℕ) (frames : List Handed) → (k : ℕ) × (drop 2 (take n frames) ≡ take k (drop 2 frames))
without-two zero frames = (0, refl)
without-two (suc n) [] = (0, refl)
without-two (suc zero) (f ∷ fs) = (0, refl)
without-two (suc (suc n)) (f ∷ []) = (0, refl)
without-two (suc (suc n)) (f ∷ g ∷ fs) = (n, refl)

-- what was announced, and then bodies of so many octets, is a message
pub message : (frames : List Handed) (count : ℕ) (body : List ℕ) (size : ℕ) → announced frames ≡ Some size
    → AreBodies body (take count (drop 2 frames)) → length body ≡ size → IsMessage body (take (suc (suc count)) frames)
message [] count body size is are long = absurd (grind rules)
message (f ∷ []) count body size is are long = absurd (grind rules)
message (f ∷ g ∷ fs) count body size is are long = record { begins = is ∙ ap Some (sym long); bodies = are }

-- bodies behind what was announced are among the frames
pub within : (frames : List Handed) (count size : ℕ) → announced frames ≡ Some size → count ≤ length (drop 2 frames)
    → count + 2 ≤ length frames
within [] count size is le = absurd (grind rules)
within (f ∷ []) count size is le = absurd (grind rules)
within (f ∷ g ∷ fs) count size is le = let among : count ≤ length fs = le in omega (arith, among)

-- what a slice has behind its first two
pub behind-two : (frames : List Handed) → take (length frames - 2) (drop 2 frames) ≡ drop 2 frames
behind-two frames = grind (arith, common_steps)

pub clash : (b : Bool) → b ≡ false → IsTrue b → ⊥
clash b fails holds = true≢false (sym holds ∙ fails)
