-- That the test of equality holds of equal field values alone: the laws that `==` of the types rests on.
use Rattle.std.specs.Prelude.{◌≡◌, true, ◌&&◌, List, [], ◌∷◌, nat_eq, refl}
use Rattle.std.specs.Bool.{Decides}
use Rattle.std.specs.Cmp.{IsEquivalence, decided, booleans_Decides, unsigned_Decides, signed_Decides}
use Rattle.std.specs.Cmp.Lexicographic.{pointwise, bytes_decides}
use mathlib.Core.Path.{sym, ap, ap₂, subst, ◌∙◌}
use Rattle.std.proofs.lemmas.Bool.{true≢false, and_parts, and_from}
use Rattle.amqp_types.specs.Value.{Scalar, boolean, short_short_int, short_short_uint, short_int, short_uint, long_int, long_uint, long_long_int, float, double, decimal, long_string, byte_array, timestamp, void, FieldValue, scalar, array, table, FieldValues, no_values, value, FieldPairs, no_pairs, pair, Pair, list_of, values_from, pairs_of, pairs_from}
use Rattle.amqp_types.specs.Equality.{same_scalar, same_value, same_values, same_pairs, same_list, same_table}

-- values that hold no other and pass the test are equal
scalar_equal : (s t : Scalar) → same_scalar s t ≡ true → s ≡ t
scalar_equal (boolean a) (boolean b) h = ap boolean ((booleans_Decides a b).0 h)
scalar_equal (short_short_int a) (short_short_int b) h = ap short_short_int ((signed_Decides a b).0 h)
scalar_equal (short_short_uint a) (short_short_uint b) h = ap short_short_uint ((unsigned_Decides a b).0 h)
scalar_equal (short_int a) (short_int b) h = ap short_int ((signed_Decides a b).0 h)
scalar_equal (short_uint a) (short_uint b) h = ap short_uint ((unsigned_Decides a b).0 h)
scalar_equal (long_int a) (long_int b) h = ap long_int ((signed_Decides a b).0 h)
scalar_equal (long_uint a) (long_uint b) h = ap long_uint ((unsigned_Decides a b).0 h)
scalar_equal (long_long_int a) (long_long_int b) h = ap long_long_int ((signed_Decides a b).0 h)
scalar_equal (float a) (float b) h = ap float ((bytes_decides a b).0 h)
scalar_equal (double a) (double b) h = ap double ((bytes_decides a b).0 h)
scalar_equal (decimal s a) (decimal t b) h =
    let parts = and_parts (nat_eq s t) (nat_eq a b) h in
    ap₂ decimal ((unsigned_Decides s t).0 parts.0) ((unsigned_Decides a b).0 parts.1)
scalar_equal (long_string a) (long_string b) h = ap long_string ((bytes_decides a b).0 h)
scalar_equal (byte_array a) (byte_array b) h = ap byte_array ((bytes_decides a b).0 h)
scalar_equal (timestamp a) (timestamp b) h = ap timestamp ((unsigned_Decides a b).0 h)
scalar_equal void void h = refl
scalar_equal s t h = absurd (true≢false (sym h))

-- each of them passes the test with itself
scalar_itself : (s : Scalar) → same_scalar s s ≡ true
scalar_itself (boolean a) = (booleans_Decides a a).1 refl
scalar_itself (short_short_int a) = (signed_Decides a a).1 refl
scalar_itself (short_short_uint a) = (unsigned_Decides a a).1 refl
scalar_itself (short_int a) = (signed_Decides a a).1 refl
scalar_itself (short_uint a) = (unsigned_Decides a a).1 refl
scalar_itself (long_int a) = (signed_Decides a a).1 refl
scalar_itself (long_uint a) = (unsigned_Decides a a).1 refl
scalar_itself (long_long_int a) = (signed_Decides a a).1 refl
scalar_itself (float a) = (bytes_decides a a).1 refl
scalar_itself (double a) = (bytes_decides a a).1 refl
scalar_itself (decimal s a) =
    and_from (nat_eq s s) (nat_eq a a) ((unsigned_Decides s s).1 refl) ((unsigned_Decides a a).1 refl)
scalar_itself (long_string a) = (bytes_decides a a).1 refl
scalar_itself (byte_array a) = (bytes_decides a a).1 refl
scalar_itself (timestamp a) = (unsigned_Decides a a).1 refl
scalar_itself void = refl

mutual
  -- the same of values
  value_equal : (x y : FieldValue) → same_value x y ≡ true → x ≡ y
  value_equal (scalar s) (scalar t) h = ap scalar (scalar_equal s t h)
  value_equal (array us) (array vs) h = ap array (values_equal us vs h)
  value_equal (table ps) (table qs) h = ap table (pairs_equal ps qs h)
  value_equal x y h = absurd (true≢false (sym h))

  -- the same of arrays
  values_equal : (x y : FieldValues) → same_values x y ≡ true → x ≡ y
  values_equal no_values no_values h = refl
  values_equal (value u us) (value v vs) h =
      let parts = and_parts (same_value u v) (same_values us vs) h in
      ap₂ value (value_equal u v parts.0) (values_equal us vs parts.1)
  values_equal x y h = absurd (true≢false (sym h))

  -- the same of tables
  pairs_equal : (x y : FieldPairs) → same_pairs x y ≡ true → x ≡ y
  pairs_equal no_pairs no_pairs h = refl
  pairs_equal (pair m u ps) (pair n v qs) h =
      let parts = and_parts (pointwise nat_eq m n) (same_value u v && same_pairs ps qs) h in
      let names : m ≡ n = (bytes_decides m n).0 parts.0 in
      let rest = and_parts (same_value u v) (same_pairs ps qs) parts.1 in
      let values : u ≡ v = value_equal u v rest.0 in
      let pairs : ps ≡ qs = pairs_equal ps qs rest.1 in
      cc
  pairs_equal x y h = absurd (true≢false (sym h))

mutual
  -- each value, array or table passes the test with itself
  value_itself : (x : FieldValue) → same_value x x ≡ true
  value_itself (scalar s) = scalar_itself s
  value_itself (array us) = values_itself us
  value_itself (table ps) = pairs_itself ps

  -- its values one by one
  values_itself : (x : FieldValues) → same_values x x ≡ true
  values_itself no_values = refl
  values_itself (value u us) = and_from (same_value u u) (same_values us us) (value_itself u) (values_itself us)

  -- its pairs one by one
  pairs_itself : (x : FieldPairs) → same_pairs x x ≡ true
  pairs_itself no_pairs = refl
  pairs_itself (pair m u ps) =
      let inner = and_from (same_value u u) (same_pairs ps ps) (value_itself u) (pairs_itself ps) in
      and_from (pointwise nat_eq m m) (same_value u u && same_pairs ps ps) ((bytes_decides m m).1 refl) inner

-- the test of two values holds exactly of equal ones
pub value_decides : (x y : FieldValue) → Decides (same_value x y) (x ≡ y)
value_decides x y = (value_equal x y, λ e. subst (λ z. same_value x z ≡ true) e (value_itself x))

-- the list that an array was made from is its list again
pub list_back : (xs : List FieldValue) → list_of (values_from xs) ≡ xs
list_back [] = refl
list_back (x ∷ xs) = ap (λ l. x ∷ l) (list_back xs)

-- the list that a table was made from is its list again
pub pairs_back : (xs : List Pair) → pairs_of (pairs_from xs) ≡ xs
pairs_back [] = refl
pairs_back (x ∷ xs) = ap (λ l. x ∷ l) (pairs_back xs)

-- the test of two arrays holds exactly of equal ones
pub list_decides : (xs ys : List FieldValue) → Decides (same_list xs ys) (xs ≡ ys)
list_decides xs ys = (
  λ h. sym (list_back xs) ∙ ap list_of (values_equal (values_from xs) (values_from ys) h) ∙ list_back ys,
  λ e. subst (λ z. same_list xs z ≡ true) e (values_itself (values_from xs)),
)

-- the test of two tables holds exactly of equal ones
pub table_decides : (xs ys : List Pair) → Decides (same_table xs ys) (xs ≡ ys)
table_decides xs ys = (
  λ h. sym (pairs_back xs) ∙ ap pairs_of (pairs_equal (pairs_from xs) (pairs_from ys) h) ∙ pairs_back ys,
  λ e. subst (λ z. same_table xs z ≡ true) e (pairs_itself (pairs_from xs)),
)

-- so the test of values is an equivalence, as `Eq` wants
pub value_equiv : IsEquivalence same_value
value_equiv = decided same_value value_decides

-- and that of arrays
pub list_equiv : IsEquivalence same_list
list_equiv = decided same_list list_decides

-- and that of tables
pub table_equiv : IsEquivalence same_table
table_equiv = decided same_table table_decides
