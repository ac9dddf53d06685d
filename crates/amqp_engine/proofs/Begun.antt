-- Of spelled frames, what is left once some octets have come.
use Rattle.std.proofs.Common.{◌≡◌, ◌≤◌, ℕ, ◌-◌, nat_le, if◌then◌else◌, Bool, true, false, List, [], ◌∷◌, ◌++◌, length, length-append, refl, ap, sym, ◌∙◌, arith, append-nil}
use Rattle.std.proofs.lemmas.Bool.Decides.{nat_tests}
use Rattle.amqp_frame.specs.declared.frame.Frame.{Frame}
use Rattle.amqp_frame.specs.declared.frame.Read.TheVariants.{Whole}
use Rattle.amqp_frame.specs.FrameReading.{front}
use Rattle.amqp_frame.specs.Frames.{FrameOf}
use Rattle.amqp_frame.proofs.FrontLaws.{front_again, within_all}
use Rattle.amqp_types.proofs.Small.{if-false, at-most}
use Rattle.amqp_engine.specs.Valid.{SpelledFrame, AreSpelled, whole_in, later_than, begun_in}
use Rattle.amqp_frame.proofs.FrontStays.{says-front}
use Rattle.amqp_engine.proofs.Heeding.{flat}

-- so many octets of the first have come, and not all
pub record IsPart (n : ℕ) (spelled : List SpelledFrame) : Type 0 where
  pub whole : whole_in n spelled ≡ []
  pub later : later_than n spelled ≡ spelled
  pub begun : begun_in n spelled ≡ n

-- so it is of what is left
pub part-left : (m : ℕ) (spelled : List SpelledFrame) → IsPart (begun_in m spelled) (later_than m spelled)
part-left m [] = record { whole = refl; later = refl; begun = refl }
part-left m (x ∷ xs) = by (nat_le (length x.octets) m) refl (part-left (m - length x.octets) xs) where
  by : (b : Bool) → nat_le (length x.octets) m ≡ b → IsPart (begun_in (m - length x.octets) xs) (later_than (m - length x.octets) xs)
      → IsPart (if b then begun_in (m - length x.octets) xs else m) (if b then later_than (m - length x.octets) xs else x ∷ xs)
  by true is rest = rest
  by false is rest =
      record {
        whole = if-false (nat_le (length x.octets) m) (x.frame ∷ whole_in (m - length x.octets) xs) [] is;
        later = if-false (nat_le (length x.octets) m) (later_than (m - length x.octets) xs) (x ∷ xs) is;
        begun = if-false (nat_le (length x.octets) m) (begun_in (m - length x.octets) xs) m is;
      }

-- a frame has octets
spelled-some : (f : Frame) (octets : List ℕ) → FrameOf f octets → 8 ≤ length octets
spelled-some f octets spelled =
    let whole : front (octets ++ []) (length octets) ≡ Whole f (length octets) =
    front_again f octets [] (length octets) spelled (within_all f (length octets) (length octets) (omega arith)) in
    ((says-front (length octets)).size octets f (length octets) (ap (λ x. front x (length octets)) (sym (append-nil octets)) ∙ whole)).0

-- nothing has come
pub part-none : (most agreed : ℕ) (spelled : List SpelledFrame) → AreSpelled most agreed spelled → IsPart 0 spelled
part-none most agreed [] h = record { whole = refl; later = refl; begun = refl }
part-none most agreed (x ∷ xs) h =
    let some = spelled-some x.frame x.octets h.0 in
    let is : nat_le (length x.octets) 0 ≡ false = grind (arith, nat_tests, some) in
    record {
      whole = if-false (nat_le (length x.octets) 0) (x.frame ∷ whole_in (0 - length x.octets) xs) [] is;
      later = if-false (nat_le (length x.octets) 0) (later_than (0 - length x.octets) xs) (x ∷ xs) is;
      begun = if-false (nat_le (length x.octets) 0) (begun_in (0 - length x.octets) xs) 0 is;
    }

-- where no frame is left, all octets have come
pub none-left : (m : ℕ) (spelled : List SpelledFrame) → later_than m spelled ≡ [] → length (flat spelled) ≤ m
none-left m [] h = omega arith
none-left m (x ∷ xs) h = by (nat_le (length x.octets) m) refl h (none-left (m - length x.octets) xs) where
  by : (b : Bool) → nat_le (length x.octets) m ≡ b → (if b then later_than (m - length x.octets) xs else x ∷ xs) ≡ []
      → (later_than (m - length x.octets) xs ≡ [] → length (flat xs) ≤ m - length x.octets) → length (x.octets ++ flat xs) ≤ m
  by true is none rest =
      let a = rest none in let b = at-most (length x.octets) m is in let c = length-append x.octets (flat xs) in omega (arith, a, b, c)
  by false is none rest = absurd cc
