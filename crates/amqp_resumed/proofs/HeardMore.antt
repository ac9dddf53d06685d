-- One frame more is heard.
use Rattle.std.proofs.Common.{subst, ◌≡◌, ◌∙◌, ap, sym, refl, ℕ, suc, ◌+◌, Bool, true, false, List, [], ◌∷◌, ◌++◌, length, take, drop, Option, Some, None, is_some, arith, length-append}
use Rattle.std.proofs.lemmas.List.{take-append-le, take-append-drop}
use Rattle.amqp_frame.specs.declared.frame.Frame.{Frame}
use Rattle.amqp_check.proofs.Hearing.{all-taken}
use Rattle.amqp_resumed.specs.declared.resumed.Resumed.{Resumed}
use Rattle.amqp_resumed.specs.declared.hearing.Hearing.{Hearing}
use Rattle.amqp_resumed.specs.Rests.{IsTakenLate, IsFirstWrong}
use Rattle.amqp_resumed.specs.Resumes.{Late, heard_nothing, late_of, say_late, say_each_late, JudgedLate, HasHeardLate}
use Rattle.amqp_resumed.specs.HeardRests.{IsHeardRest, HasHeardRest}

-- ---- one after another

each-append : (o : Option Late) (xs ys : List Frame) → say_each_late o (xs ++ ys) ≡ say_each_late (say_each_late o xs) ys
each-append None xs ys = refl
each-append (Some l) [] ys = refl
each-append (Some l) (x ∷ xs) ys = each-append (say_late x l) xs ys

front-some : (o : Option Late) (ys : List Frame) → is_some (say_each_late o ys) ≡ true → is_some o ≡ true
front-some None ys h = h
front-some (Some l) ys h = refl

taken-front : (xs ys : List Frame) → IsTakenLate (xs ++ ys) → IsTakenLate xs
taken-front xs ys h = front-some (say_each_late (Some heard_nothing) xs) ys (ap is_some (sym (each-append (Some heard_nothing) xs ys)) ∙ h)

one-more : (frames : List Frame) (g : Frame) (l : Late) → say_each_late (Some heard_nothing) frames ≡ Some l → say_each_late (Some heard_nothing) (frames ++ g ∷ []) ≡ say_late g l
one-more frames g l h = each-append (Some heard_nothing) frames (g ∷ []) ∙ ap (λ o. say_each_late o (g ∷ [])) h ∙ last (say_late g l) where
  last : (o : Option Late) → say_each_late o [] ≡ o
  last None = refl
  last (Some m) = refl

-- ---- the first that may not be said

wrong-more : (fs more : List Frame) (i : ℕ) → IsFirstWrong fs i → IsFirstWrong (fs ++ more) i
wrong-more fs more i is = record {
  within = omega (arith, length-append fs more, is.within);
  wrong = λ taken. is.wrong (subst IsTakenLate (take-append-le (suc i) fs more (omega (arith, is.within))) taken);
  least = λ j below. subst IsTakenLate (sym (take-append-le (suc j) fs more (omega (arith, is.within)))) (is.least j below);
}

wrong-now : (fs : List Frame) (g : Frame) (i : ℕ) → i ≡ length fs → IsTakenLate fs → (IsTakenLate (fs ++ g ∷ []) → ⊥) → IsFirstWrong (fs ++ g ∷ []) i
wrong-now fs g i is taken refused = record {
  within = omega (arith, length-append fs (g ∷ []));
  wrong = λ h. refused (subst IsTakenLate (all-taken (fs ++ g ∷ []) (suc i) (omega (arith, length-append fs (g ∷ [])))) h);
  least = λ j below.
      subst IsTakenLate (sym (take-append-le (suc j) fs (g ∷ []) (omega arith)))
      (taken-front (take (suc j) fs) (drop (suc j) fs) (subst IsTakenLate (sym (take-append-drop (suc j) fs)) taken));
}

-- ---- what was heard

all-heard : (frames : List Frame) (h : Hearing) → h.wrong ≡ None → HasHeardRest frames h → HasHeardLate frames h.said
all-heard frames h none has = subst (λ (o : Option ℕ). IsHeardRest frames o h.said) none has.judged

pub nothing-heard : (r : Resumed) → late_of r ≡ heard_nothing → HasHeardRest [] (record { said = r; frames = 0; wrong = None })
nothing-heard r is = record { count = refl; judged = ap (λ (l : Late). Some l) (sym is) }

count-more : (frames : List Frame) (g : Frame) (n : ℕ) → n ≡ length frames → n + 1 ≡ length (frames ++ g ∷ [])
count-more frames g n e = omega (arith, length-append frames (g ∷ []))

-- a frame that was said, or was not
pub judged-more : (frames : List Frame) (g : Frame) (old : Hearing) (said : Bool) (new : Resumed) → old.wrong ≡ None → HasHeardRest frames old → JudgedLate (say_late g (late_of old.said)) said new
    → (said ≡ true → IsHeardRest (frames ++ g ∷ []) None new) × (said ≡ false → IsHeardRest (frames ++ g ∷ []) (Some old.frames) new)
judged-more frames g old true new none has next = (
  λ h. one-more frames g (late_of old.said) (all-heard frames old none has) ∙ next,
  λ h. absurd cc,
)
judged-more frames g old false new none has next = (
  λ h. absurd cc,
  λ h.
      let heard = all-heard frames old none has in
      wrong-now frames g old.frames has.count (ap is_some heard)
      (λ taken. let nothing-left = sym (ap is_some (one-more frames g (late_of old.said) heard ∙ next)) ∙ taken in cc),
)

-- a frame behind one that was refused
pub heard-still : (frames : List Frame) (g : Frame) (h : Hearing) (i : ℕ) → h.wrong ≡ Some i → HasHeardRest frames h → IsHeardRest (frames ++ g ∷ []) h.wrong h.said
heard-still frames g h i is has =
    subst (λ (o : Option ℕ). IsHeardRest (frames ++ g ∷ []) o h.said) (sym is) (wrong-more frames (g ∷ []) i (subst (λ (o : Option ℕ). IsHeardRest frames o h.said) is has.judged))

-- one more is counted
pub counted : (frames : List Frame) (g : Frame) (old h : Hearing) → h.frames ≡ old.frames → HasHeardRest frames old → IsHeardRest (frames ++ g ∷ []) h.wrong h.said
    → HasHeardRest (frames ++ g ∷ []) (record h { frames = h.frames + 1 })
counted frames g old h same has judged = record { count = count-more frames g h.frames (same ∙ has.count); judged = judged }
