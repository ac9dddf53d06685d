-- Tests of equality, field by field, that tell equal values apart from others: for the derived `==` of enums and structs.
--     Test A                       a test of two values that holds of equal values alone
--     no_field, last, next         a row of fields, as a variant has it: none, one, and one before others
--     enum_test N tests            the derived `==` of the enum whose `enum` is N, from a test for each variant
--     through f g                  by a function f that g undoes, as from a struct to its fields
use Rattle.std.specs.Prelude.{◌≡◌, ℕ, ℤ, Bool, true, false, ◌&&◌, List, [], ◌∷◌, Option, Some, None, nat_eq, refl}
use Rattle.std.specs.Bool.{Decides, beq}
use Rattle.std.specs.Option.{option_eq, unwrap_or}
use Rattle.std.specs.Ordering.{int_eq}
use Rattle.std.specs.Cmp.{booleans_Decides, unsigned_Decides, signed_Decides}
use Rattle.std.specs.Cmp.Lexicographic.{pointwise, pointwise_decides, bytes_decides}
use mathlib.Core.Path.{sym, ap, ap₂, subst, ◌∙◌}
use Rattle.std.proofs.lemmas.Bool.{true≢false, and_parts}
use mathlib.Core.Logic.{◌⊎◌, inl, inr}
use denote.Struct.Field.{Field}
use denote.Struct.Values.{Values}
use denote.Enum.Declared.{Record, Declared, Choice, values_one, left_or, right_or}
use denote.Enum.Compared.{Each, by}
use denote.Enum.Bare.{Bare, sameb, same_true, true_same}

pub record Test (A : Type 0) : Type 0 where
  pub same : A → A → Bool
  pub tells : (x y : A) → Decides (same x y) (x ≡ y)

-- ---- fields
abbrev pub number : Test ℕ
number = record { same = nat_eq; tells = unsigned_Decides }

abbrev pub integer : Test ℤ
integer = record { same = int_eq; tells = signed_Decides }

abbrev pub flag : Test Bool
flag = record { same = beq; tells = booleans_Decides }

abbrev pub list : {A : Type 0} → Test A → Test (List A)
list t = record { same = pointwise t.same; tells = pointwise_decides t.tells }

abbrev pub octets : Test (List ℕ)
octets = record { same = pointwise nat_eq; tells = bytes_decides }

pub maybe_tells : {A : Type 0} (t : Test A) (x y : Option A) → Decides (option_eq t.same x y) (x ≡ y)
maybe_tells t None None = (λ h. refl, λ e. refl)
maybe_tells t None (Some y) = (λ h. absurd (true≢false (sym h)), λ e. absurd cc)
maybe_tells t (Some x) None = (λ h. absurd (true≢false (sym h)), λ e. absurd cc)
maybe_tells t (Some x) (Some y) = (λ h. ap Some ((t.tells x y).0 h), λ e. (t.tells x y).1 (ap (λ o. unwrap_or o x) e))

abbrev pub maybe : {A : Type 0} → Test A → Test (Option A)
maybe t = record { same = option_eq t.same; tells = maybe_tells t }

-- an enum with no fields
abbrev pub bare : (D : Declared) → Bare D.parts → Test D.D
bare D b = record { same = sameb D; tells = λ x y. (same_true D b x y, true_same D x y) }

-- ---- rows of fields
abbrev pub no_field : Test (Unit {0})
no_field = record { same = λ x y. true; tells = λ x y. (λ h. refl, λ e. refl) }

abbrev pub last : {A : Type 0} → Test A → Test (A × Unit {0})
last t = record { same = λ x y. t.same x.0 y.0; tells = λ x y. (λ h. ap (λ a. (a, tt)) ((t.tells x.0 y.0).0 h), λ e. (t.tells x.0 y.0).1 (ap (λ p. p.0) e)) }

pub next_tells :
    {A B : Type 0} (t : Test A) (u : Test B) (x y : A × B) → Decides (t.same x.0 y.0 && u.same x.1 y.1) (x ≡ y)
next_tells t u x y = (
  λ h. let parts = and_parts (t.same x.0 y.0) (u.same x.1 y.1) h in
      ap₂ (λ a b. (a, b)) ((t.tells x.0 y.0).0 parts.0) ((u.tells x.1 y.1).0 parts.1),
  λ e. ap₂ (λ a b. a && b) ((t.tells x.0 y.0).1 (ap (λ p. p.0) e)) ((u.tells x.1 y.1).1 (ap (λ p. p.1) e)),
)

abbrev pub next : {A B : Type 0} → Test A → Test B → Test (A × B)
next t u = record { same = λ x y. t.same x.0 y.0 && u.same x.1 y.1; tells = next_tells t u }

-- ---- variants
abbrev pub Tests : List (List Field) → Type 0
Tests [] = Unit {0}
Tests (Fs ∷ Fss) = Test (Values Fs) × Tests Fss

abbrev pub sames : (Fss : List (List Field)) → Tests Fss → Each Bool Fss
sames [] ts = tt
sames (Fs ∷ Fss) ts = (ts.0.same, sames Fss ts.1)

abbrev IsLeft : {A B : Type 0} → A ⊎ B → Type 0
IsLeft (inl x) = Unit {0}
IsLeft (inr y) = ⊥

choice_tells :
    (Fss : List (List Field)) (ts : Tests Fss) (c d : Choice Fss) →
    Decides (by false false Fss (sames Fss ts) c d) (c ≡ d)
choice_tells [] ts c d = absurd c
choice_tells (Fs ∷ Fss) ts (inl x) (inl y) =
    (λ h. ap inl ((ts.0.tells x y).0 h), λ e. (ts.0.tells x y).1 (ap (left_or x) e))
choice_tells (Fs ∷ Fss) ts (inl x) (inr y) = (λ h. absurd (true≢false (sym h)), λ e. absurd (subst IsLeft e tt))
choice_tells (Fs ∷ Fss) ts (inr x) (inl y) = (λ h. absurd (true≢false (sym h)), λ e. absurd (subst IsLeft (sym e) tt))
choice_tells (Fs ∷ Fss) ts (inr x) (inr y) =
    (λ h. ap inr ((choice_tells Fss ts.1 x y).0 h), λ e. (choice_tells Fss ts.1 x y).1 (ap (right_or x) e))

pub enum_tells :
    (N : Record) (ts : Tests N.parts) (x y : N.D) →
    Decides (by false false N.parts (sames N.parts ts) (N.as_values x) (N.as_values y)) (x ≡ y)
enum_tells N ts x y = (λ h. values_one N x y ((choice_tells N.parts ts (N.as_values x) (N.as_values y)).0 h), λ e. (choice_tells N.parts ts (N.as_values x) (N.as_values y)).1 (ap N.as_values e))

abbrev pub enum_test : (N : Record) → Tests N.parts → Test N.D
enum_test N ts = record { same = λ x y. by false false N.parts (sames N.parts ts) (N.as_values x) (N.as_values y); tells = enum_tells N ts }

-- ---- structs
abbrev pub through : {K J : Type 0} (f : K → J) (g : J → K) → ((x : K) → g (f x) ≡ x) → Test J → Test K
through f g back t = record { same = λ x y. t.same (f x) (f y); tells = λ x y. (λ h. sym (back x) ∙ ap g ((t.tells (f x) (f y)).0 h) ∙ back y, λ e. (t.tells (f x) (f y)).1 (ap f e)) }
