-- Small facts by the laws of constructors, over plain variables.
use Rattle.std.proofs.Common.{◌≡◌, refl, List, [], ◌∷◌, ◌++◌, Some}
use Rattle.amqp_legal.specs.declared.progress.Stage.TheVariants.{OpenSaid, CloseSaid}
use Rattle.amqp_faultless.specs.Faultless.ServerStage.{BeforeStart, BeforeTune, BeforeOpenOk, Serving}

pub some-same : {A : Type 0} (x y : A) → Some x ≡ Some y → x ≡ y
some-same x y h = cc

pub tails-same : {A : Type 0} (x y : A) (xs ys : List A) → x ∷ xs ≡ y ∷ ys → xs ≡ ys
tails-same x y xs ys h = cc

-- ---- a list of one thing, and of none

pub only-one : {A : Type 0} (x s : A) (before : List A) → x ∷ [] ≡ before ++ s ∷ [] → x ≡ s
only-one x s [] h = cc
only-one x s (b ∷ []) h = absurd cc
only-one x s (b ∷ c ∷ before) h = absurd cc

pub some-none : {A : Type 0} (x : A) (xs : List A) → x ∷ xs ≡ [] → ⊥
some-none x xs h = cc

pub none-joined : {A : Type 0} (xs ys : List A) → xs ++ ys ≡ [] → xs ≡ []
none-joined [] ys h = refl
none-joined (x ∷ xs) ys h = absurd cc

pub none-behind : {A : Type 0} (xs ys : List A) → xs ++ ys ≡ [] → ys ≡ []
none-behind [] ys h = h
none-behind (x ∷ xs) ys h = absurd cc

-- ---- stages

pub start-serves : BeforeStart ≡ Serving → ⊥
start-serves h = cc

pub tune-serves : BeforeTune ≡ Serving → ⊥
tune-serves h = cc

pub open-serves : BeforeOpenOk ≡ Serving → ⊥
open-serves h = cc

pub start-opens : BeforeStart ≡ BeforeOpenOk → ⊥
start-opens h = cc

pub tune-opens : BeforeTune ≡ BeforeOpenOk → ⊥
tune-opens h = cc

pub open-closed : OpenSaid ≡ CloseSaid → ⊥
open-closed h = cc
