-- Small facts by cases: on tests, options, results, numbers and lists.
use Rattle.std.proofs.Common.{◌≡◌, ◌≢◌, ◌≤◌, sym, refl, ℕ, ◌==◌, nat_lt, nat_le, ◌&&◌, ◌||◌, not, Bool, true, false, if◌then◌else◌, Option, Some, None, is_some, Result, Ok, Err, OnErr, List, [], ◌∷◌, ◌++◌, arith}
use Rattle.std.proofs.lemmas.Bool.Decides.{nat_tests}
use Rattle.std.specs.List.{AllByRecursion}
use Rattle.std.specs.declared.cmp.Ordering.TheVariants.{Equal}
use Rattle.std.specs.Ordering.{nat_cmp}
use Rattle.std.specs.Cmp.{nat_cmp_is}

-- ---- tests

pub and-left : (a b : Bool) → (a && b) ≡ true → a ≡ true
and-left true b h = refl
and-left false b h = h

pub and-right : (a b : Bool) → (a && b) ≡ true → b ≡ true
and-right true b h = h
and-right false b h = cc

pub and-true : (a b : Bool) → a ≡ true → b ≡ true → (a && b) ≡ true
and-true true b g h = h
and-true false b g h = cc

pub and-false : (a b : Bool) → b ≡ false → (a && b) ≡ false
and-false true b h = h
and-false false b h = refl

-- the first holds, so it is the second that does not
pub and-other : (a b : Bool) → a ≡ true → (a && b) ≡ false → b ≡ false
and-other true b g h = h
and-other false b g h = cc

pub or-right : (a b : Bool) → b ≡ true → (a || b) ≡ true
or-right true b h = refl
or-right false b h = h

pub from-not-true : (b : Bool) → not b ≡ true → b ≡ false
from-not-true true h = cc
from-not-true false h = refl

-- ---- choices

pub if_case : {A : Type 0} (P : A → Type 0) (b : Bool) (x y : A) → P x → P y → P (if b then x else y)
if_case P true x y px py = px
if_case P false x y px py = py

-- the same, where what each case rests on is known
pub if_by : {A : Type 0} (P : A → Type 0) (b : Bool) (x y : A) → (b ≡ true → P x) → (b ≡ false → P y) → P (if b then x else y)
if_by P true x y px py = px refl
if_by P false x y px py = py refl

pub if-true : {A : Type 0} (b : Bool) (x y : A) → b ≡ true → (if b then x else y) ≡ x
if-true true x y h = refl
if-true false x y h = cc

pub if-false : {A : Type 0} (b : Bool) (x y : A) → b ≡ false → (if b then x else y) ≡ y
if-false true x y h = cc
if-false false x y h = refl

pub if-both : {A B : Type 0} (f : A → B) (b : Bool) (x y : A) (u v : B) → f x ≡ u → f y ≡ v → f (if b then x else y) ≡ (if b then u else v)
if-both f true x y u v h k = h
if-both f false x y u v h k = k

-- ---- options and results

pub some_is : {A : Type 0} (x y : A) → Some x ≡ Some y → x ≡ y
some_is x y e = cc

pub none-from : {A : Type 0} (o : Option A) → is_some o ≡ false → o ≡ None
none-from None h = refl
none-from (Some x) h = absurd cc

pub on-err : {A E P : Type 0} (r : Result A E) → P → OnErr r P
on-err (Ok x) p = tt
on-err (Err e) p = p

-- what an Err tells leads to more
pub on-err-then : {A E P Q : Type 0} (r : Result A E) → (P → Q) → OnErr r P → OnErr r Q
on-err-then (Ok x) f p = tt
on-err-then (Err e) f p = f p

-- ---- numbers

pub same-number : (n : ℕ) → (n == n) ≡ true
same-number n = grind (arith, nat_tests)

pub equal-numbers : (m n : ℕ) → m ≡ n → (m == n) ≡ true
equal-numbers m n h = grind (arith, nat_tests)

pub other-number : (m n : ℕ) → m ≢ n → (m == n) ≡ false
other-number m n h = grind (arith, nat_tests)

pub the-number : (m n : ℕ) → (m == n) ≡ true → m ≡ n
the-number m n h = grind (arith, nat_tests)

pub not-the-number : (m n : ℕ) → not (m == n) ≡ true → m ≢ n
not-the-number m n h = grind (arith, nat_tests)

pub at-most : (m n : ℕ) → nat_le m n ≡ true → m ≤ n
at-most m n h = grind (arith, nat_tests)

pub is-at-most : (m n : ℕ) → m ≤ n → nat_le m n ≡ true
is-at-most m n h = grind (arith, nat_tests)

pub not-below : (m n : ℕ) → n ≤ m → nat_lt m n ≡ false
not-below m n h = grind (arith, nat_tests)

pub nat_cmp_self : (n : ℕ) → nat_cmp n n ≡ Equal
nat_cmp_self n = sym (nat_cmp_is n n Equal refl)

-- ---- lists

pub all-push : {A : Type 0} (P : A → Type 0) (xs : List A) (y : A) → AllByRecursion P xs → P y → AllByRecursion P (xs ++ y ∷ [])
all-push P [] y h p = (p, tt)
all-push P (x ∷ xs) y h p = (h.0, all-push P xs y h.1 p)
