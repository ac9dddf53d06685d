-- One frame more is heard from a border on.
use Rattle.std.proofs.Common.{◌≡◌, ◌≢◌, ◌∙◌, ap, sym, refl, Bool, true, false, List, [], ◌∷◌, ◌++◌, Option, Some, None, is_some}
use Rattle.amqp_frame.specs.declared.frame.Frame.{Frame}
use Rattle.amqp_legal.specs.Legal.{Legal}
use Rattle.amqp_legal.specs.Decider.{Speech, greeted, say, say_all, in_stage, is_amqp_header}
use Rattle.amqp_legal.specs.declared.progress.Stage.TheVariants.{CloseOkSaid}
use Rattle.amqp_legal.proofs.Saying.{all-said, one-more}
use Rattle.amqp_legal.proofs.Sayable.{say-append, front-said}
use Rattle.amqp_types.proofs.Small.{if-true, if-false}
use Rattle.amqp_resumed.specs.Resumes.{led_to}

-- ---- what leads where

pub led-more : (xs : List Frame) (g : Frame) (s : Speech) → led_to xs ≡ Some s → led_to (xs ++ g ∷ []) ≡ say g s
led-more [] g s h = absurd cc
led-more (x ∷ xs) g s h = by (is_amqp_header x) refl where
  by : (b : Bool) → is_amqp_header x ≡ b → led_to ((x ∷ xs) ++ g ∷ []) ≡ say g s
  by true is =
      if-true (is_amqp_header x) (say_all (Some greeted) (xs ++ g ∷ [])) None is
      ∙ one-more xs g s (sym (if-true (is_amqp_header x) (say_all (Some greeted) xs) None is) ∙ h)
  by false is = absurd (let none : led_to (x ∷ xs) ≡ None = if-false (is_amqp_header x) (say_all (Some greeted) xs) None is in cc)

pub led-back : (xs : List Frame) (g : Frame) (t : Speech) → xs ≢ [] → led_to (xs ++ g ∷ []) ≡ Some t
    → (s : Speech) × (led_to xs ≡ Some s) × (say g s ≡ Some t)
led-back [] g t some h = absurd (some refl)
led-back (x ∷ xs) g t some h = by (is_amqp_header x) refl where
  by : (b : Bool) → is_amqp_header x ≡ b → (s : Speech) × (led_to (x ∷ xs) ≡ Some s) × (say g s ≡ Some t)
  by true is =
      let all : say_all (Some greeted) (xs ++ g ∷ []) ≡ Some t = sym (if-true (is_amqp_header x) (say_all (Some greeted) (xs ++ g ∷ [])) None is) ∙ h in
      let front = front-said (say_all (Some greeted) xs) (g ∷ []) t (sym (say-append (Some greeted) xs (g ∷ [])) ∙ all) in
      (front.0, if-true (is_amqp_header x) (say_all (Some greeted) xs) None is ∙ front.1, sym (one-more xs g front.0 front.1) ∙ all)
  by false is =
      absurd (let none : led_to ((x ∷ xs) ++ g ∷ []) ≡ None = if-false (is_amqp_header x) (say_all (Some greeted) (xs ++ g ∷ [])) None is in cc)

-- what leads somewhere is legal, and the other way round
pub led-legal : (xs : List Frame) (s : Speech) → led_to xs ≡ Some s → Legal xs
led-legal [] s h = absurd cc
led-legal (x ∷ xs) s h = by (is_amqp_header x) refl where
  by : (b : Bool) → is_amqp_header x ≡ b → Legal (x ∷ xs)
  by true is = (all-said x xs).1 (is, ap is_some (sym (if-true (is_amqp_header x) (say_all (Some greeted) xs) None is) ∙ h))
  by false is = absurd (let none : led_to (x ∷ xs) ≡ None = if-false (is_amqp_header x) (say_all (Some greeted) xs) None is in cc)

some-of : (o : Option Speech) → is_some o ≡ true → (s : Speech) × (o ≡ Some s)
some-of None h = absurd cc
some-of (Some s) h = (s, refl)

pub legal-led : (xs : List Frame) → xs ≢ [] → Legal xs → (s : Speech) × (led_to xs ≡ Some s)
legal-led [] some legal = absurd (some refl)
legal-led (x ∷ xs) some legal =
    let both = (all-said x xs).0 legal in
    let led = some-of (say_all (Some greeted) xs) both.1 in
    (led.0, if-true (is_amqp_header x) (say_all (Some greeted) xs) None both.0 ∙ led.1)

-- behind our close-ok nothing is said
pub alive : (g : Frame) (s t : Speech) → say g s ≡ Some t → s.stage ≢ CloseOkSaid
alive g s t h over = let none : say g s ≡ None = ap (λ st. in_stage st g s) over in absurd cc
