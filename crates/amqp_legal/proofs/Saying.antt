-- What is said frame by frame: a front of it is legal, and one frame more is where it may be said.
use Rattle.std.proofs.Common.{◌≡◌, ◌↔◌, ◌∙◌, ap, sym, refl, subst, Bool, true, List, [], ◌∷◌, ◌++◌, Option, Some, None, is_some, IsTrue}
use Rattle.amqp_frame.specs.declared.frame.Frame.{Frame}
use Rattle.amqp_legal.specs.declared.speech.Speech.{Speech as Spoken}
use Rattle.amqp_legal.specs.Legal.{Legal, amqp_header}
use Rattle.amqp_legal.specs.Decider.{Speech, greeted, say, say_all, is_amqp_header, is_legal}
use Rattle.amqp_legal.specs.Speeches.{speech_of, after_header, HasSaid}
use Rattle.amqp_types.proofs.Small.{and-left, and-right, and-true}
use Rattle.amqp_legal.proofs.Sayable.{say-append, none-said}
use Rattle.amqp_legal.proofs.TakenIsLegal.{sound}
use Rattle.amqp_legal.proofs.LegalIsTaken.{complete}

-- ---- fronts

front-some : (o : Option Speech) (gs : List Frame) → is_some (say_all o gs) ≡ true → is_some o ≡ true
front-some None gs h = ap is_some (sym (none-said gs)) ∙ h
front-some (Some s) gs h = refl

pub is-legal-front : (fs gs : List Frame) → is_legal (fs ++ gs) ≡ true → is_legal fs ≡ true
is-legal-front [] gs h = refl
is-legal-front (f ∷ fs) gs h =
    let both = is_some (say_all (Some greeted) (fs ++ gs)) in
    let said : is_some (say_all (say_all (Some greeted) fs) gs) ≡ true = ap is_some (sym (say-append (Some greeted) fs gs)) ∙ and-right (is_amqp_header f) both h in
    and-true (is_amqp_header f) (is_some (say_all (Some greeted) fs)) (and-left (is_amqp_header f) both h) (front-some (say_all (Some greeted) fs) gs said)

pub front-legal : (fs gs : List Frame) → Legal (fs ++ gs) → Legal fs
front-legal fs gs legal = sound fs (is-legal-front fs gs (complete (fs ++ gs) legal))

-- ---- all

pub all-said : (first : Frame) (fs : List Frame) → Legal (first ∷ fs) ↔ (IsTrue (is_amqp_header first) × IsTrue (is_some (after_header fs)))
all-said first fs = (there, back) where
  there : Legal (first ∷ fs) → IsTrue (is_amqp_header first) × IsTrue (is_some (after_header fs))
  there legal =
      let taken = complete (first ∷ fs) legal in
      (and-left (is_amqp_header first) (is_some (after_header fs)) taken, and-right (is_amqp_header first) (is_some (after_header fs)) taken)

  back : IsTrue (is_amqp_header first) × IsTrue (is_some (after_header fs)) → Legal (first ∷ fs)
  back both = sound (first ∷ fs) (and-true (is_amqp_header first) (is_some (after_header fs)) both.0 both.1)

-- ---- one frame more

all-one : (o : Option Speech) → say_all o [] ≡ o
all-one None = refl
all-one (Some s) = refl

pub one-more : (fs : List Frame) (f : Frame) (s : Speech) → after_header fs ≡ Some s → after_header (fs ++ f ∷ []) ≡ say f s
one-more fs f s is = say-append (Some greeted) fs (f ∷ []) ∙ ap (λ o. say_all o (f ∷ [])) is ∙ all-one (say f s)

-- it is legal where it may be said
pub next-legal : (fs : List Frame) (f : Frame) (s : Speech) → after_header fs ≡ Some s → IsTrue (is_some (say f s)) ↔ Legal (amqp_header ∷ fs ++ f ∷ [])
next-legal fs f s is = (there, back) where
  there : IsTrue (is_some (say f s)) → Legal (amqp_header ∷ fs ++ f ∷ [])
  there said = (all-said amqp_header (fs ++ f ∷ [])).1 (refl, ap is_some (one-more fs f s is) ∙ said)

  back : Legal (amqp_header ∷ fs ++ f ∷ []) → IsTrue (is_some (say f s))
  back legal = ap is_some (sym (one-more fs f s is)) ∙ ((all-said amqp_header (fs ++ f ∷ [])).0 legal).1

-- the same of an answer that is given
pub answer-legal : (r : Bool) (fs : List Frame) (f : Frame) (s : Speech) → is_some (say f s) ≡ r → after_header fs ≡ Some s
    → IsTrue r ↔ Legal (amqp_header ∷ fs ++ f ∷ [])
answer-legal r fs f s same is = subst (λ (b : Bool). IsTrue b ↔ Legal (amqp_header ∷ fs ++ f ∷ [])) same (next-legal fs f s is)

-- ---- a speech

pub begun : (s : Spoken) → speech_of s ≡ greeted → HasSaid [] s
begun s is = ap (λ (x : Speech). Some x) (sym is)

pub gone-on : (fs : List Frame) (f : Frame) (old new : Spoken) → HasSaid fs old → say f (speech_of old) ≡ Some (speech_of new) → HasSaid (fs ++ f ∷ []) new
gone-on fs f old new has said = one-more fs f (speech_of old) has ∙ said
