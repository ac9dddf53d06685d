-- What is found of the first frame that may not be said.
use Rattle.std.proofs.Common.{subst, ◌≡◌, ◌≤◌, ◌<◌, sym, ℕ, suc, ◌+◌, List, [], ◌∷◌, ◌++◌, length, take, drop, Option, Some, None, arith, length-append, length-drop}
use Rattle.std.proofs.lemmas.List.{take-append-le, take-append-drop}
use Rattle.amqp_frame.specs.declared.frame.Frame.{Frame}
use Rattle.amqp_frame.specs.declared.frame.Read.TheVariants.{Whole}
use Rattle.amqp_frame.specs.Sequences.{front_at, Stand, SequenceEnd, IsSequence}
use Rattle.amqp_frame.specs.Sequences.SequenceEnd.{Complete, Cut, Broken}
use Rattle.amqp_frame.proofs.Sequences.{frame-size, stand-push, stand-begins}
use Rattle.amqp_legal.specs.Legal.{Legal}
use Rattle.amqp_legal.specs.declared.speech.Speech.{Speech as Spoken}
use Rattle.amqp_legal.proofs.Saying.{front-legal}
use Rattle.amqp_check.specs.Verdicts.{no_limit, OnlyFrames, IsOnlyFrames, IsFirstIllegal, IsVerdict}
use Rattle.amqp_check.specs.Hearing.{EndsHere, IsHeard, HasHeard}
use Rattle.amqp_check.specs.Findings.{IsLegallySaid, IsFinding, IsLegalSide}
use Rattle.amqp_check.specs.declared.judge.Judge.{Judge}
use Rattle.amqp_check.specs.declared.end.End.{End}
use Rattle.amqp_check.specs.declared.end.End.TheVariants as at
use Rattle.amqp_check.specs.declared.finding.Finding.{Finding}
use Rattle.amqp_check.specs.declared.capture.Verdict.TheVariants as verdict
use Rattle.amqp_check.proofs.Hearing.{all-heard, all-taken, illegal-more, illegal-now}

-- it is none of those that are legal
pub not-before : (frames : List Frame) (g : Frame) (i : ℕ) → Legal frames → IsFirstIllegal (frames ++ g ∷ []) i → i < length frames → ⊥
not-before frames g i legal is below =
    let front : Legal (take (suc i) frames) = front-legal (take (suc i) frames) (drop (suc i) frames) (subst Legal (sym (take-append-drop (suc i) frames)) legal) in
    is.illegal (subst Legal (sym (take-append-le (suc i) frames (g ∷ []) (omega arith))) front)

last-one : (m n : ℕ) → m < n + 1 → (m < n → ⊥) → m ≡ n
last-one m n h k = omega (arith, h, k)

pub finding-of : (client : List ℕ) (frames : List Frame) (place : ℕ) (f : Frame) (n : ℕ) (old new : Judge) (number : ℕ)
    → Stand client no_limit 0 frames place → front_at client no_limit place ≡ Whole f n → old.illegal ≡ None → HasHeard frames old
    → new.illegal ≡ Some number → new.said ≡ old.said → HasHeard (frames ++ f ∷ []) new
    → IsFinding client (record { number = number; place = place; frame = f; said = new.said })
finding-of client frames place f n old new number stand here none h some same k =
    let all = all-heard frames old none h in
    let first : IsFirstIllegal (frames ++ f ∷ []) number = subst (λ (o : Option ℕ). IsHeard (frames ++ f ∷ []) o new.said) some k.judged in
    let count : number ≡ length frames = last-one number (length frames) (omega (arith, first.within, length-append frames (f ∷ []))) (not-before frames f number all.legal first) in
    record {
      before = frames;
      size = n;
      stand = stand;
      here = here;
      count = count;
      so_far = subst (λ (s : Spoken). IsLegallySaid frames s) (sym same) all;
      illegal = λ legal. first.illegal (subst Legal (sym (all-taken (frames ++ f ∷ []) (suc number) (omega (arith, count, length-append frames (f ∷ []))))) legal);
    }

ended : (client : List ℕ) (frames : List Frame) (place : ℕ) (end : End) → Stand client no_limit 0 frames place → EndsHere client place end
    → (ending : SequenceEnd) × IsSequence client no_limit frames place ending
ended client frames place at.Whole s h = (Complete, (s, h))
ended client frames place (at.Bad p) s h = (Broken, (s, h.1))
ended client frames place (at.Cut p) s h = (Cut, (s, h.1))

pub legal-side : (client : List ℕ) (frames : List Frame) (place : ℕ) (end : End) (judge : Judge) → Stand client no_limit 0 frames place → EndsHere client place end
    → judge.illegal ≡ None → HasHeard frames judge → IsLegalSide client
legal-side client frames place end judge stand ends none h =
    let e = ended client frames place end stand ends in
    (frames, place, e.0, e.1, (all-heard frames judge none h).legal)

-- it is the verdict on a capture that is frames and nothing else
pub finding-is-first : (client : List ℕ) (frames : List Frame) (f : Finding) → IsFinding client f → OnlyFrames client frames → IsFirstIllegal frames f.number
finding-is-first client frames f is whole =
    let size = frame-size (drop f.place client) no_limit is.size f.frame is.here in
    let within : f.place + is.size ≤ length client = omega (arith, size.0, size.1, length-drop f.place client) in
    let stand = stand-push client no_limit 0 f.place is.size is.before f.frame is.stand is.here in
    let rest = stand-begins client no_limit 0 (f.place + is.size) (length client) (is.before ++ f.frame ∷ []) frames stand whole.0 within in
    let first = illegal-now is.before f.frame f.number is.count is.so_far.legal is.illegal in
    subst (λ (fs : List Frame). IsFirstIllegal fs f.number) (sym rest.1) (illegal-more (is.before ++ f.frame ∷ []) rest.0 f.number first)

pub found-verdict : (client server : List ℕ) (f : Finding) → IsFinding client f → IsOnlyFrames client → IsOnlyFrames server → IsVerdict client server (verdict.Illegal f.number)
found-verdict client server f is whole answered = (whole.0, whole.1, answered, finding-is-first client whole.0 f is whole.1)
