-- A double whose client said the octets of a link read exactly the frames that were sent on it, and refused nothing.
use Rattle.std.proofs.Common.{◌≡◌, ◌≢◌, ◌≤◌, ◌<◌, ◌⊎◌, inl, inr, ◌∙◌, ap, sym, refl, subst, ℕ, ◌+◌, List, [], ◌∷◌, ◌++◌, length, drop, length-drop, Option, Some, None, arith}
use Rattle.std.proofs.lemmas.Bool.{cases_lt}
use Rattle.std.proofs.lemmas.List.{drop_all}
use Rattle.amqp_frame.specs.declared.frame.Frame.{Frame}
use Rattle.amqp_frame.specs.declared.frame.Read.TheVariants.{Whole, More}
use Rattle.amqp_frame.specs.FrameReading.{front}
use Rattle.amqp_frame.specs.Sequences.{front_at, Stand, SequenceEnd, EndsAt}
use Rattle.amqp_frame.specs.Sequences.SequenceEnd.{Complete, Cut, Broken}
use Rattle.amqp_frame.proofs.FrontStays.{front-none}
use Rattle.amqp_frame.proofs.Sequences.{frame-size, stand-push, stand-begins, sequence-same}
use Rattle.amqp_legal.specs.Legal.{Legal}
use Rattle.amqp_legal.proofs.Saying.{front-legal}
use Rattle.amqp_engine.specs.Sending.{Sending, encodings, items_sent, frames_sent, link_bytes}
use Rattle.amqp_engine.specs.Saying.{IsReadBack}
use Rattle.amqp_double.specs.declared.refusal.Refusal.{Refusal}
use Rattle.amqp_double.specs.declared.refusal.Refusal.TheVariants.{BadBytes, Unexpected}
use Rattle.amqp_double.specs.Doubles.{DoubleState, greatest_limit, HasAnswered, IsUnexpected, StopsBehind, AnswersClient}

-- no whole frame stands where octets end
none-stands : (bytes : List ℕ) (limit place n : ℕ) (f : Frame) (ending : SequenceEnd) → EndsAt bytes limit place ending → ending ≢ Broken → front_at bytes limit place ≡ Whole f n → ⊥
none-stands bytes limit place n f Complete h some is =
    let none : front_at bytes limit place ≡ More = ap (λ (xs : List ℕ). front xs limit) (drop_all place bytes (omega (arith, h))) ∙ front-none limit in
    absurd (let bad : More ≡ Whole f n = sym none ∙ is in cc)
none-stands bytes limit place n f Cut h some is = absurd (let bad : More ≡ Whole f n = sym h.1 ∙ is in cc)
none-stands bytes limit place n f Broken h some is = some refl

-- where more is wanted, the octets end with the last frame or in the midst of one
ends-more : (bytes : List ℕ) (limit place : ℕ) → place ≤ length bytes → front_at bytes limit place ≡ More → (ending : SequenceEnd) × EndsAt bytes limit place ending
ends-more bytes limit place within more = by (cases_lt place (length bytes)) where
  by : (place < length bytes) ⊎ (length bytes ≤ place) → (ending : SequenceEnd) × EndsAt bytes limit place ending
  by (inl less) = (Cut, (less, more))
  by (inr most) = (Complete, omega (arith, within, most))

stand-within : (bytes : List ℕ) (limit start end : ℕ) (fs : List Frame) → start ≤ length bytes → Stand bytes limit start fs end → end ≤ length bytes
stand-within bytes limit start end [] within s = omega (arith, within, s)
stand-within bytes limit start end (f ∷ fs) within s =
    let size = frame-size (drop start bytes) limit s.0 f s.1 in
    stand-within bytes limit (start + s.0) end fs (let a = size.1 in let b = length-drop start bytes in omega (arith, within, a, b)) s.2

-- what was read, and that nothing was refused
pub record ReadAll (x : Sending) (d : DoubleState) : Type 0 where
  pub answered : HasAnswered (frames_sent x) d
  pub unrefused : d.refusal ≡ None

module _ (x : Sending) (d : DoubleState) (client : d.client ≡ link_bytes x) (back : IsReadBack greatest_limit x) (legal : Legal (frames_sent x)) where
  abbrev place : ℕ
  place = length (encodings (items_sent x))

  stand : Stand d.client greatest_limit 0 (frames_sent x) place
  stand = subst (λ (xs : List ℕ). Stand xs greatest_limit 0 (frames_sent x) place) (sym client) back.reads.0

  ends : EndsAt d.client greatest_limit place back.ending
  ends = subst (λ (xs : List ℕ). EndsAt xs greatest_limit place back.ending) (sym client) back.reads.1

  -- a frame stands behind those that were read, and is not the next that was sent
  never-unexpected : (fs : List Frame) → Stand d.client greatest_limit 0 fs d.read → IsUnexpected d.client d.read fs → ⊥
  never-unexpected fs s u = by (cases_lt place (d.read + u.size)) where
    more : Stand d.client greatest_limit 0 (fs ++ u.frame ∷ []) (d.read + u.size)
    more = stand-push d.client greatest_limit 0 d.read u.size fs u.frame s u.stands

    first : (gs : List Frame) → place < d.read + u.size → Stand d.client greatest_limit place gs (d.read + u.size) → ⊥
    first [] less t = omega (arith, less, t)
    first (g ∷ gs) less t = none-stands d.client greatest_limit place t.0 g back.ending ends back.not_broken t.1

    by : (place < d.read + u.size) ⊎ (d.read + u.size ≤ place) → ⊥
    by (inl less) =
        let rest = stand-begins d.client greatest_limit 0 place (d.read + u.size) (frames_sent x) (fs ++ u.frame ∷ []) stand more (omega (arith, less)) in
        first rest.0 less rest.2
    by (inr most) =
        let rest = stand-begins d.client greatest_limit 0 (d.read + u.size) place (fs ++ u.frame ∷ []) (frames_sent x) more stand most in
        u.illegal (front-legal (fs ++ u.frame ∷ []) rest.0 (subst Legal rest.1 legal))

  pub read-sent : AnswersClient d → ReadAll x d
  read-sent (fs, answered, stops) = by d.refusal refl stops where
    same : (ending : SequenceEnd) → EndsAt d.client greatest_limit d.read ending → fs ≡ frames_sent x
    same ending e = (sequence-same d.client greatest_limit d.read place fs (frames_sent x) ending back.ending (answered.stand, e) (stand, ends)).0

    broken : EndsAt d.client greatest_limit d.read Broken → Broken ≡ back.ending
    broken e = (sequence-same d.client greatest_limit d.read place fs (frames_sent x) Broken back.ending (answered.stand, e) (stand, ends)).2

    by : (o : Option Refusal) → d.refusal ≡ o → StopsBehind d.client d.read fs o → ReadAll x d
    by None is more =
        let e = ends-more d.client greatest_limit d.read (stand-within d.client greatest_limit 0 d.read fs (omega arith) answered.stand) more in
        record { answered = subst (λ (gs : List Frame). HasAnswered gs d) (same e.0 e.1) answered; unrefused = is }
    by (Some (BadBytes p)) is stop = absurd (back.not_broken (sym (broken stop.1)))
    by (Some (Unexpected i)) is stop = absurd (never-unexpected fs answered.stand stop.1)
