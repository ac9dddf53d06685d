-- One frame more is heard.
use Rattle.std.proofs.Common.{subst, ◌≡◌, ◌≢◌, ◌∙◌, ap, sym, refl, ℕ, suc, ◌+◌, List, [], ◌∷◌, ◌++◌, length, take, drop, Option, Some, None, is_some, arith, length-append}
use Rattle.std.proofs.lemmas.List.{take-append-le, take-append-drop}
use Rattle.std.specs.Prelude.{true, false}
use Rattle.amqp_frame.specs.declared.frame.Frame.{Frame}
use Rattle.amqp_legal.specs.Decider.{greeted, say, is_amqp_header}
use Rattle.amqp_legal.specs.Legal.{Legal}
use Rattle.amqp_legal.specs.Speeches.{speech_of, HasSaid}
use Rattle.amqp_legal.specs.declared.speech.Speech.{Speech as Spoken}
use Rattle.amqp_legal.proofs.TakenIsLegal.{sound}
use Rattle.amqp_legal.proofs.Saying.{front-legal, all-said, one-more, begun, gone-on}
use Rattle.amqp_check.specs.Findings.{IsLegallySaid}
use Rattle.amqp_check.specs.Hearing.{IsHeard, HasHeard}
use Rattle.amqp_check.specs.Verdicts.{IsFirstIllegal}
use Rattle.amqp_check.specs.declared.judge.Judge.{Judge}

-- ---- the first that may not be said

-- it stays the first, whatever is said behind it
pub illegal-more : (fs more : List Frame) (i : ℕ) → IsFirstIllegal fs i → IsFirstIllegal (fs ++ more) i
illegal-more fs more i is = record {
  within = omega (arith, length-append fs more, is.within);
  illegal = λ legal. is.illegal (subst Legal (take-append-le (suc i) fs more (omega (arith, is.within))) legal);
  least = λ j below. subst Legal (sym (take-append-le (suc j) fs more (omega (arith, is.within)))) (is.least j below);
}

pub all-taken : {A : Type 0} (xs : List A) (n : ℕ) → n ≡ length xs → take n xs ≡ xs
all-taken {A} xs n is = ap (λ (k : ℕ). take k xs) is ∙ full xs where
  full : (xs : List A) → take (length xs) xs ≡ xs
  full [] = refl
  full (x ∷ xs) = ap (λ (ys : List A). x ∷ ys) (full xs)

pub illegal-now : (fs : List Frame) (g : Frame) (i : ℕ) → i ≡ length fs → Legal fs → (Legal (fs ++ g ∷ []) → ⊥) → IsFirstIllegal (fs ++ g ∷ []) i
illegal-now fs g i is legal refused = record {
  within = omega (arith, length-append fs (g ∷ []));
  illegal = λ h. refused (subst Legal (all-taken (fs ++ g ∷ []) (suc i) (omega (arith, length-append fs (g ∷ [])))) h);
  least = λ j below.
      subst Legal (sym (take-append-le (suc j) fs (g ∷ []) (omega arith)))
      (front-legal (take (suc j) fs) (drop (suc j) fs) (subst Legal (sym (take-append-drop (suc j) fs)) legal));
}

-- ---- what was said

-- all was said
pub all-heard : (frames : List Frame) (judge : Judge) → judge.illegal ≡ None → HasHeard frames judge → IsLegallySaid frames judge.said
all-heard frames judge none h = subst (λ (o : Option ℕ). IsHeard frames o judge.said) none h.judged

-- nothing is
pub nothing-heard : (s : Spoken) → speech_of s ≡ greeted → HasHeard [] (record { said = s; frames = 0; illegal = None })
nothing-heard s is = record { count = refl; judged = record { legal = sound [] refl; said = begun s is } }

-- the header begins it
pub said-first : (frames : List Frame) (g : Frame) (judge : Judge) → judge.illegal ≡ None → judge.frames ≡ 0 → HasHeard frames judge
    → is_amqp_header g ≡ true → IsLegallySaid (frames ++ g ∷ []) judge.said
said-first [] g judge none zeroth h header = record {
  legal = (all-said g []).1 (header, refl);
  said = (all-heard [] judge none h).said;
}
said-first (f ∷ frames) g judge none zeroth h header = absurd (omega (arith, zeroth, h.count))

pub refused-first : (frames : List Frame) (g : Frame) (judge : Judge) → judge.frames ≡ 0 → HasHeard frames judge
    → is_amqp_header g ≡ false → Legal (frames ++ g ∷ []) → ⊥
refused-first [] g judge zeroth h header legal = let is = ((all-said g []).0 legal).0 in absurd cc
refused-first (f ∷ frames) g judge zeroth h header legal = absurd (omega (arith, zeroth, h.count))

-- then one frame more
said-more : (f g : Frame) (fs : List Frame) (old new : Spoken) → IsLegallySaid (f ∷ fs) old → say g (speech_of old) ≡ Some (speech_of new) → IsLegallySaid ((f ∷ fs) ++ g ∷ []) new
said-more f g fs old new is said =
    let on : HasSaid (fs ++ g ∷ []) new = gone-on fs g old new is.said said in
    record { legal = (all-said f (fs ++ g ∷ [])).1 (((all-said f fs).0 is.legal).0, ap is_some on); said = on }

refused-more : (f g : Frame) (fs : List Frame) (s : Spoken) → IsLegallySaid (f ∷ fs) s → say g (speech_of s) ≡ None → Legal ((f ∷ fs) ++ g ∷ []) → ⊥
refused-more f g fs s is refused legal =
    let said = ((all-said f (fs ++ g ∷ [])).0 legal).1 in
    let none = ap is_some (one-more fs g (speech_of s) is.said ∙ refused) in
    absurd cc

pub said-next : (frames : List Frame) (g : Frame) (judge : Judge) (new : Spoken) → judge.illegal ≡ None → judge.frames ≢ 0 → HasHeard frames judge
    → say g (speech_of judge.said) ≡ Some (speech_of new) → IsLegallySaid (frames ++ g ∷ []) new
said-next [] g judge new none some h said = absurd (some h.count)
said-next (f ∷ frames) g judge new none some h said = said-more f g frames judge.said new (all-heard (f ∷ frames) judge none h) said

pub refused-next : (frames : List Frame) (g : Frame) (judge : Judge) → judge.illegal ≡ None → judge.frames ≢ 0 → HasHeard frames judge
    → say g (speech_of judge.said) ≡ None → Legal (frames ++ g ∷ []) → ⊥
refused-next [] g judge none some h refused legal = some h.count
refused-next (f ∷ frames) g judge none some h refused legal = refused-more f g frames judge.said (all-heard (f ∷ frames) judge none h) refused legal

-- ---- a judge

count-more : (frames : List Frame) (g : Frame) (n : ℕ) → n ≡ length frames → n + 1 ≡ length (frames ++ g ∷ [])
count-more frames g n e = omega (arith, length-append frames (g ∷ []))

-- a frame behind one that was refused
pub hear-still : (frames : List Frame) (g : Frame) (judge : Judge) (i : ℕ) → judge.illegal ≡ Some i → HasHeard frames judge
    → HasHeard (frames ++ g ∷ []) (record judge { frames = judge.frames + 1 })
hear-still frames g judge i is h = record {
  count = count-more frames g judge.frames h.count;
  judged =
      subst (λ (o : Option ℕ). IsHeard (frames ++ g ∷ []) o judge.said) (sym is)
      (illegal-more frames (g ∷ []) i (subst (λ (o : Option ℕ). IsHeard frames o judge.said) is h.judged));
}

-- a frame that was said
pub hear-said : (frames : List Frame) (g : Frame) (old judge : Judge) → judge.frames ≡ old.frames → judge.illegal ≡ None → HasHeard frames old
    → IsLegallySaid (frames ++ g ∷ []) judge.said → HasHeard (frames ++ g ∷ []) (record judge { frames = judge.frames + 1 })
hear-said frames g old judge same none h said = record {
  count = count-more frames g judge.frames (same ∙ h.count);
  judged = subst (λ (o : Option ℕ). IsHeard (frames ++ g ∷ []) o judge.said) (sym none) said;
}

-- a frame that was refused
pub hear-refused : (frames : List Frame) (g : Frame) (old judge : Judge) → judge.frames ≡ old.frames → old.illegal ≡ None → HasHeard frames old
    → (Legal (frames ++ g ∷ []) → ⊥) → HasHeard (frames ++ g ∷ []) (record judge { frames = judge.frames + 1; illegal = Some judge.frames })
hear-refused frames g old judge same none h refused = record {
  count = count-more frames g judge.frames (same ∙ h.count);
  judged = illegal-now frames g judge.frames (same ∙ h.count) (all-heard frames old none h).legal refused;
}

pub none-is : (o : Option ℕ) → is_some o ≡ false → o ≡ None
none-is None h = refl
none-is (Some i) h = cc

pub some-is : (o : Option ℕ) → is_some o ≡ true → (i : ℕ) × (o ≡ Some i)
some-is None h = absurd cc
some-is (Some i) h = (i, refl)
