-- Small facts by cases.
use Rattle.std.proofs.Common.{◌≡◌, ◌≢◌, sym, refl, ℕ, ◌<◌, ◌≤◌, ◌==◌, nat_lt, arith, true, false, Option, Some, None, Result, Ok, Err, IfOk, IfNone, OnOk}
use Rattle.std.proofs.lemmas.Bool.Decides.{nat_tests}
use Rattle.std.specs.declared.cmp.Ordering.{Ordering}
use Rattle.std.specs.declared.cmp.Ordering.TheVariants.{Less, Equal, Greater}
use Rattle.std.specs.Ordering.{nat_cmp, is_eq}
use Rattle.std.specs.Cmp.{nat_cmp_is, ranked}

pub on-ok : {A E P Q : Type 0} (r : Result A E) → (P → Q) → OnOk r P → OnOk r Q
on-ok (Ok x) f p = f p
on-ok (Err e) f p = tt

pub if-ok : {A E : Type 0} {P Q : A → Type 0} (r : Result A E) → ((x : A) → P x → Q x) → IfOk r P → IfOk r Q
if-ok (Ok x) f p = f x p
if-ok (Err e) f p = tt

pub if-none : {X P Q : Type 0} (o : Option X) → (P → Q) → IfNone o P → IfNone o Q
if-none None f p = f p
if-none (Some x) f p = tt

pub on-none : {X P : Type 0} (o : Option X) → (o ≡ None → P) → IfNone o P
on-none None f = f refl
on-none (Some x) f = tt

-- ---- numbers

pub below-from : (a b : ℕ) → nat_lt a b ≡ true → a < b
below-from a b h = grind (arith, nat_tests)

pub from-not-below : (a b : ℕ) → nat_lt a b ≡ false → b ≤ a
from-not-below a b h = grind (arith, nat_tests)

pub less-from : (a b : ℕ) → nat_cmp a b ≡ Less → a < b
less-from a b h = ranked a b Less (sym h)

pub equal-from : (a b : ℕ) → nat_cmp a b ≡ Equal → a ≡ b
equal-from a b h = ranked a b Equal (sym h)

pub greater-from : (a b : ℕ) → nat_cmp a b ≡ Greater → b < a
greater-from a b h = ranked a b Greater (sym h)

pub to-greater : (a b : ℕ) → b < a → nat_cmp a b ≡ Greater
to-greater a b h = sym (nat_cmp_is a b Greater h)

-- two numbers are not compared as equal
pub not-equal : (n c : ℕ) → c ≢ n → is_eq (nat_cmp n c) ≡ false
not-equal n c apart = by (nat_cmp n c) refl where
  by : (o : Ordering) → nat_cmp n c ≡ o → is_eq o ≡ false
  by Less h = refl
  by Equal h = absurd (apart (sym (equal-from n c h)))
  by Greater h = refl
