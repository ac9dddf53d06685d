-- One piece and one frame more of a side.
use Rattle.std.proofs.Common.{◌≡◌, ◌≢◌, ◌≤◌, ◌<◌, ◌⊎◌, inl, inr, ◌∙◌, ap, subst, sym, refl, ℕ, ◌+◌, ◌-◌, List, [], ◌∷◌, ◌++◌, length, drop, arith, length-append, length-drop}
use Rattle.std.proofs.lemmas.Bool.{cases_lt}
use Rattle.std.proofs.lemmas.List.{drop-append-le, drop-drop, drop_all}
use Rattle.amqp_frame.specs.declared.frame.Frame.{Frame}
use Rattle.amqp_frame.specs.declared.frame.Read.{Read}
use Rattle.amqp_frame.specs.declared.frame.Read.TheVariants.{Whole as AFrame, More, TooLarge, BadHeartbeat, Bad as NoFrame, NoMemory}
use Rattle.amqp_frame.specs.FrameReading.{front}
use Rattle.amqp_frame.specs.Sequences.{front_at, IsNoFrame, Stand, SequenceEnd, EndsAt, IsSequence}
use Rattle.amqp_frame.specs.Sequences.SequenceEnd.{Complete, Cut as InFrame, Broken}
use Rattle.amqp_frame.proofs.FrontStays.{front-none}
use Rattle.amqp_frame.proofs.Sequences.{stand-stays, stand-push, front-stays}
use Rattle.amqp_check.specs.Verdicts.{no_limit}
use Rattle.amqp_check.specs.Hearing.{EndsHere}
use Rattle.amqp_check.specs.declared.end.End.{End}
use Rattle.amqp_check.specs.declared.end.End.TheVariants as at
use Rattle.amqp_judge.specs.declared.side.Ending.{Ending}
use Rattle.amqp_judge.specs.declared.side.Ending.TheVariants.{Bad}
use Rattle.amqp_judge.specs.declared.side.Side.{Side}
use Rattle.amqp_judge.specs.Taken.{sequence_end, ending_for, IsReadUpTo, IsTaken}

-- ---- what stands behind the place of a side

-- what is kept is what stands there
here : (octets : List ℕ) (frames : List Frame) (side : Side) (r : Read) → IsReadUpTo octets frames side → front_at side.unread.items no_limit side.at ≡ r
    → front_at octets no_limit side.place ≡ r
here octets frames side r is found = ap (λ (xs : List ℕ). front xs no_limit) is.rest ∙ found

-- ---- a piece more

pub read_more : (octets piece : List ℕ) (frames : List Frame) (old new : Side) → old.at ≤ length old.unread.items
    → new.place ≡ old.place → new.at ≡ 0 → new.unread.items ≡ drop old.at old.unread.items ++ piece → IsReadUpTo octets frames old
    → IsReadUpTo (octets ++ piece) frames new
read_more octets piece frames old new within place at unread is =
    let inside : old.place ≤ length octets = omega (arith, is.count) in
    let kept : drop old.place (octets ++ piece) ≡ new.unread.items =
    drop-append-le old.place octets piece inside ∙ ap (λ (xs : List ℕ). xs ++ piece) is.rest ∙ sym unread in
    let size : length new.unread.items ≡ (length old.unread.items - old.at) + length piece =
    ap length unread ∙ length-append (drop old.at old.unread.items) piece ∙ ap (λ (n : ℕ). n + length piece) (length-drop old.at old.unread.items) in
    record {
      stand = subst (λ (p : ℕ). Stand (octets ++ piece) no_limit 0 frames p) (sym place) (stand-stays octets piece no_limit 0 old.place frames is.stand);
      rest = ap (λ (p : ℕ). drop p (octets ++ piece)) place ∙ kept ∙ sym (ap (λ (n : ℕ). drop n new.unread.items) at);
      count = omega (arith, is.count, length-append octets piece, size, at, place);
    }

-- behind what is no frame, whatever follows, nothing changes
not-more : (r : Read) → IsNoFrame r → r ≢ More
not-more (AFrame f n) h = absurd h
not-more More h = absurd h
not-more (TooLarge size) h = λ is. absurd cc
not-more (BadHeartbeat channel) h = λ is. absurd cc
not-more NoFrame h = λ is. absurd cc
not-more NoMemory h = absurd h

bad-inside : (octets : List ℕ) (place : ℕ) → IsNoFrame (front_at octets no_limit place) → place ≤ length octets
bad-inside octets place bad = by (cases_lt (length octets) place) where
  by : (length octets < place) ⊎ (place ≤ length octets) → place ≤ length octets
  by (inl past) = absurd (not-more (front_at octets no_limit place) bad (ap (λ (xs : List ℕ). front xs no_limit) (drop_all place octets (omega (arith, past))) ∙ front-none no_limit))
  by (inr within) = within

pub broken-more : (octets piece : List ℕ) (frames : List Frame) (place : ℕ) → IsSequence octets no_limit frames place Broken
    → IsSequence (octets ++ piece) no_limit frames place Broken
broken-more octets piece frames place is = (
  stand-stays octets piece no_limit 0 place frames is.0,
  subst IsNoFrame (sym (
      ap (λ (xs : List ℕ). front xs no_limit) (drop-append-le place octets piece (bad-inside octets place is.1))
      ∙ front-stays (drop place octets) piece no_limit (not-more (front_at octets no_limit place) is.1)
      )) is.1,
)

pub taken_more : (octets piece : List ℕ) (frames : List Frame) (side : Side) → side.ending ≡ Bad → IsTaken octets frames side
    → IsTaken (octets ++ piece) frames side
taken_more octets piece frames side bad is = record {
  sequence = subst (λ (e : Ending). IsSequence (octets ++ piece) no_limit frames side.place (sequence_end e)) (sym bad)
      (broken-more octets piece frames side.place (subst (λ (e : Ending). IsSequence octets no_limit frames side.place (sequence_end e)) bad is.sequence));
  kept = λ other. absurd (other bad);
}

-- ---- a frame more

pub read_frame : (octets : List ℕ) (frames : List Frame) (f : Frame) (n : ℕ) (old new : Side) → new.unread ≡ old.unread → new.at ≡ old.at + n → new.place ≡ old.place + n
    → old.at + n ≤ length old.unread.items → front_at old.unread.items no_limit old.at ≡ AFrame f n → IsReadUpTo octets frames old
    → IsReadUpTo octets (frames ++ f ∷ []) new
read_frame octets frames f n old new same at place within found is =
    let items : new.unread.items ≡ old.unread.items = ap (λ v. v.items) same in
    record {
      stand = subst (λ (p : ℕ). Stand octets no_limit 0 (frames ++ f ∷ []) p) (sym place)
          (stand-push octets no_limit 0 old.place n frames f is.stand (here octets frames old (AFrame f n) is found));
      rest =
          ap (λ (p : ℕ). drop p octets) place ∙ sym (drop-drop n old.place octets) ∙ ap (drop n) is.rest
          ∙ drop-drop n old.at old.unread.items ∙ sym (ap (λ (a : ℕ). drop a old.unread.items) at) ∙ sym (ap (drop new.at) items);
      count = omega (arith, is.count, at, place, within, ap length items);
    }

-- ---- or none

pub ends-there : (octets : List ℕ) (frames : List Frame) (old : Side) (end : End) → old.at ≤ length old.unread.items → EndsHere old.unread.items old.at end → IsReadUpTo octets frames old
    → EndsAt octets no_limit old.place (sequence_end (ending_for end))
ends-there octets frames old at.Whole within ends is = omega (arith, ends, is.count)
ends-there octets frames old (at.Cut p) within ends is =
    (omega (arith, ends.1.0, is.count), here octets frames old More is ends.1.1)
ends-there octets frames old (at.Bad p) within ends is =
    subst IsNoFrame (sym (ap (λ (xs : List ℕ). front xs no_limit) is.rest)) ends.1

pub read_end : (octets : List ℕ) (frames : List Frame) (old new : Side) (end : End) → new ≡ record old { ending = ending_for end }
    → old.at ≤ length old.unread.items → EndsHere old.unread.items old.at end → IsReadUpTo octets frames old → IsTaken octets frames new
read_end octets frames old new end same within ends is =
    subst (λ (s : Side). IsTaken octets frames s) (sym same) (record {
      sequence = (is.stand, ends-there octets frames old end within ends is);
      kept = λ some. record { stand = is.stand; rest = is.rest; count = is.count };
    })
