-- The readers of field values, arrays and tables.
use Rattle.std.proofs.Common.{◌≡◌, ℕ, zero, suc, ℤ, Bool, true, false, not, cond, eqb, List, [], ◌∷◌, ◌++◌, length, Option, Some, None, option_map, refl, sym, ap, subst, ◌∙◌, arith}
use Rattle.std.proofs.lemmas.Bool.{eqb-true}
use Rattle.std.specs.Int.{w8, w16, w32, w64, cast_signed}
use Rattle.amqp_types.specs.Value.{Scalar, boolean, short_short_int, short_short_uint, short_int, short_uint, long_int, long_uint, long_long_int, float, double, decimal, long_string, byte_array, timestamp, void, FieldValue, scalar, array, table, FieldValues, no_values, value, FieldPairs, no_pairs, pair, Pair, list_of, values_from, pairs_of, pairs_from}
use Rattle.amqp_types.specs.Table.{map_of}
use Rattle.amqp_types.specs.Forms.{Form, IsOctets, Nothing, ◌▸◌, OctetOf, NumberOf, SignedOf, OctetsOf, ShortStringOf, Row}
use Rattle.amqp_types.specs.Forms as form
use Rattle.amqp_types.specs.Spelling.{tag_of, ScalarOf, ArrayOf, PairOf, TableOf, Tagged, Spells}
use Rattle.amqp_types.specs.Reading.{Reader, ◌>>=◌, octet_at, short_string_at, long_string_at, read_map, scalar_at, row_at, array_with, pair_with, table_with, tagged_with, value_with, value_at, array_at, table_at}
use Rattle.amqp_types.proofs.Readers.{IsReader, bind_some, octet_reader, octets_reader, number16_reader, number32_reader, number64_reader, then_again, then_takes, joined, inner_fits, both_reader, map_again, map_takes, short_string_reader, long_string_reader, row_again, row_takes}
use Rattle.amqp_types.proofs.Small.{some_is}

-- ---- values that hold no other
pub scalar_again :
    (s : Scalar) (text rest : List ℕ) → ScalarOf s text → scalar_at (tag_of s) (text ++ rest) ≡ Some (s, rest)
unfolding scalar_at
scalar_again (boolean b) text rest f =
    map_again octet_reader (λ n. boolean (not (eqb n 0))) f.0 text rest f.2
    ∙ ap (λ (c : Bool). Some (boolean c, rest)) (sym f.1)
scalar_again (short_short_int z) text rest f =
    map_again octet_reader (λ n. short_short_int (cast_signed w8 n)) f.0 text rest f.2
    ∙ ap (λ (c : ℤ). Some (short_short_int c, rest)) (sym f.1)
scalar_again (short_short_uint n) text rest f = map_again octet_reader short_short_uint n text rest f
scalar_again (short_int z) text rest f =
    map_again number16_reader (λ n. short_int (cast_signed w16 n)) f.0 text rest f.2
    ∙ ap (λ (c : ℤ). Some (short_int c, rest)) (sym f.1)
scalar_again (short_uint n) text rest f = map_again number16_reader short_uint n text rest f
scalar_again (long_int z) text rest f =
    map_again number32_reader (λ n. long_int (cast_signed w32 n)) f.0 text rest f.2
    ∙ ap (λ (c : ℤ). Some (long_int c, rest)) (sym f.1)
scalar_again (long_uint n) text rest f = map_again number32_reader long_uint n text rest f
scalar_again (long_long_int z) text rest f =
    map_again number64_reader (λ n. long_long_int (cast_signed w64 n)) f.0 text rest f.2
    ∙ ap (λ (c : ℤ). Some (long_long_int c, rest)) (sym f.1)
scalar_again (float bytes) text rest f = map_again (octets_reader 4) float bytes text rest f
scalar_again (double bytes) text rest f = map_again (octets_reader 8) double bytes text rest f
scalar_again (decimal scale n) text rest f =
    map_again (both_reader octet_reader number32_reader) (λ p. decimal p.0 p.1) (scale, n) text rest f
scalar_again (long_string bytes) text rest f = map_again long_string_reader long_string bytes text rest f
scalar_again (byte_array bytes) text rest f = map_again long_string_reader byte_array bytes text rest f
scalar_again (timestamp n) text rest f = map_again number64_reader timestamp n text rest f
scalar_again void text rest f = ap (λ (t : List ℕ). Some (void, t ++ rest)) f

-- the scalar that was taken, and its tag
abbrev pub TakesScalar : ℕ → List ℕ → Scalar → List ℕ → Type 0
TakesScalar tag bytes s rest = (tag ≡ tag_of s) × (text : List ℕ) × (bytes ≡ text ++ rest) × ScalarOf s text

-- one test of a chain
pub pick :
    {A X : Type 0} (tag k : ℕ) (this next : Option A) (y : A) → cond (eqb tag k) this next ≡ Some y →
    (tag ≡ k → this ≡ Some y → X) → (next ≡ Some y → X) → X
pick {A} {X} tag k this next y e here there = by (eqb tag k) refl e
  where
    by : (b : Bool) → eqb tag k ≡ b → cond b this next ≡ Some y → X
    by true is e = here (eqb-true tag k is) e
    by false is e = there e

module _ (tag : ℕ) (bytes : List ℕ) (s : Scalar) (rest : List ℕ) (fits : IsOctets bytes) where
  by_map :
      {A : Type 0} {F : A → Form} {read : Reader A} → IsReader F read → (f : A → Scalar) (k : ℕ) →
      ((x : A) → k ≡ tag_of (f x)) → ((x : A) (text : List ℕ) → F x text → ScalarOf (f x) text) → tag ≡ k →
      read_map f read bytes ≡ Some (s, rest) → TakesScalar tag bytes s rest
  by_map r f k tags content is e =
      let t = map_takes r f bytes s rest fits e in
      subst (λ (z : Scalar). TakesScalar tag bytes z rest) t.2 (is ∙ tags t.0, t.1, t.3, content t.0 t.1 t.4)

  pub scalar_takes : scalar_at tag bytes ≡ Some (s, rest) → TakesScalar tag bytes s rest
  unfolding scalar_at
  scalar_takes e =
      pick tag 116 _ _ _ e (by_map octet_reader (λ n. boolean (not (eqb n 0))) 116 (λ n. refl) (λ n text f. (n, refl, f))) (λ e.
      pick tag 98 _ _ _ e (by_map octet_reader (λ n. short_short_int (cast_signed w8 n)) 98 (λ n. refl) (λ n text f. (n, refl, f))) (λ e.
      pick tag 66 _ _ _ e (by_map octet_reader short_short_uint 66 (λ n. refl) (λ n text f. f)) (λ e.
      pick tag 115 _ _ _ e (by_map number16_reader (λ n. short_int (cast_signed w16 n)) 115 (λ n. refl) (λ n text f. (n, refl, f))) (λ e.
      pick tag 117 _ _ _ e (by_map number16_reader short_uint 117 (λ n. refl) (λ n text f. f)) (λ e.
      pick tag 73 _ _ _ e (by_map number32_reader (λ n. long_int (cast_signed w32 n)) 73 (λ n. refl) (λ n text f. (n, refl, f))) (λ e.
      pick tag 105 _ _ _ e (by_map number32_reader long_uint 105 (λ n. refl) (λ n text f. f)) (λ e.
      pick tag 108 _ _ _ e (by_map number64_reader (λ n. long_long_int (cast_signed w64 n)) 108 (λ n. refl) (λ n text f. (n, refl, f))) (λ e.
      pick tag 102 _ _ _ e (by_map (octets_reader 4) float 102 (λ n. refl) (λ n text f. f)) (λ e.
      pick tag 100 _ _ _ e (by_map (octets_reader 8) double 100 (λ n. refl) (λ n text f. f)) (λ e.
      pick tag 68 _ _ _ e (by_map (both_reader octet_reader number32_reader) (λ p. decimal p.0 p.1) 68 (λ n. refl) (λ n text f. f)) (λ e.
      pick tag 83 _ _ _ e (by_map long_string_reader long_string 83 (λ n. refl) (λ n text f. f)) (λ e.
      pick tag 120 _ _ _ e (by_map long_string_reader byte_array 120 (λ n. refl) (λ n text f. f)) (λ e.
      pick tag 84 _ _ _ e (by_map number64_reader timestamp 84 (λ n. refl) (λ n text f. f)) (λ e.
      pick tag 86 _ _ _ e (λ is e.
      let same : ◌≡◌ {A = Scalar × List ℕ} (void, bytes) (s, rest) = some_is (void, bytes) (s, rest) e in
      subst (λ (p : Scalar × List ℕ). TakesScalar tag bytes p.0 p.1) same (is, [], refl, refl)) (λ e. absurd (cc))))))))))))))))

-- ---- arrays and tables over any values
module _ {F : FieldValue → Form} {read : Reader FieldValue} (each : IsReader F read) (something : read [] ≡ None) where
  pub array_reader : IsReader (ArrayOf F) (array_with read)
  unfolding array_with
  array_reader = record {
    again = λ values text rest f.
        ap (λ (o : Option (List ℕ × List ℕ)). o >>= λ body. row_at read (length body.0) body.0 >>= λ values. Some (values, body.1)) (long_string_reader.again f.0 text rest f.2)
        ∙ ap (λ (o : Option (List FieldValue)). o >>= λ values. Some (values, rest)) (row_again each something values (length f.0) f.0 (omega arith) f.1);
    takes = λ bytes values rest fits e.
        let t = then_takes form.LongStringOf long_string_at long_string_reader (λ body bytes. row_at read (length body) body >>= λ values. Some (values, bytes)) bytes values rest fits e in
        let b = bind_some (row_at read (length t.x) t.x) (λ values. Some (values, t.middle)) (values, rest) t.second in
        let body_fits : IsOctets t.x = inner_fits t.x t.text t.middle bytes t.parts t.form fits in
        let row = row_takes each something (length t.x) t.x b.0 body_fits b.1 in
        let same : ◌≡◌ {A = List FieldValue × List ℕ} (b.0, t.middle) (values, rest) = some_is (b.0, t.middle) (values, rest) b.2 in
        subst (λ (p : List FieldValue × List ℕ). (text : List ℕ) × (bytes ≡ text ++ p.1) × ArrayOf F p.0 text) same (t.text, t.parts, (t.x, row, t.form));
  }

  pair_reader : IsReader (PairOf F) (pair_with read)
  unfolding pair_with
  pair_reader = both_reader short_string_reader each

  no_pair : pair_with read [] ≡ None
  unfolding pair_with short_string_at
  no_pair = refl

  pub table_reader : IsReader (TableOf F) (table_with read)
  unfolding table_with
  table_reader = record {
    again = λ entries text rest f.
        ap (λ (o : Option (List ℕ × List ℕ)). o >>= λ body. row_at (pair_with read) (length body.0) body.0 >>= λ pairs. Some (map_of pairs, body.1)) (long_string_reader.again f.0 text rest f.4)
        ∙ ap (λ (o : Option (List Pair)). o >>= λ pairs. Some (map_of pairs, rest)) (row_again pair_reader no_pair f.1 (length f.0) f.0 (omega arith) f.3)
        ∙ ap (λ (ps : List Pair). Some (ps, rest)) (sym f.2);
    takes = λ bytes entries rest fits e.
        let t = then_takes form.LongStringOf long_string_at long_string_reader (λ body bytes. row_at (pair_with read) (length body) body >>= λ pairs. Some (map_of pairs, bytes)) bytes entries rest fits e in
        let b = bind_some (row_at (pair_with read) (length t.x) t.x) (λ pairs. Some (map_of pairs, t.middle)) (entries, rest) t.second in
        let body_fits : IsOctets t.x = inner_fits t.x t.text t.middle bytes t.parts t.form fits in
        let row = row_takes pair_reader no_pair (length t.x) t.x b.0 body_fits b.1 in
        let same : ◌≡◌ {A = List Pair × List ℕ} (map_of b.0, t.middle) (entries, rest) = some_is (map_of b.0, t.middle) (entries, rest) b.2 in
        subst (λ (p : List Pair × List ℕ). (text : List ℕ) × (bytes ≡ text ++ p.1) × TableOf F p.0 text) same (t.text, t.parts, (t.x, b.0, refl, row, t.form));
  }

-- ---- tagged values
values_from-list_of : (vs : FieldValues) → values_from (list_of vs) ≡ vs
values_from-list_of no_values = refl
values_from-list_of (value v vs) = ap (value v) (values_from-list_of vs)

pairs_from-pairs_of : (ps : FieldPairs) → pairs_from (pairs_of ps) ≡ ps
pairs_from-pairs_of no_pairs = refl
pairs_from-pairs_of (pair name v ps) = ap (pair name v) (pairs_from-pairs_of ps)

pub list_of-values_from : (vs : List FieldValue) → list_of (values_from vs) ≡ vs
list_of-values_from [] = refl
list_of-values_from (v ∷ vs) = ap (λ (us : List FieldValue). v ∷ us) (list_of-values_from vs)

pub pairs_of-pairs_from : (ps : List Pair) → pairs_of (pairs_from ps) ≡ ps
pairs_of-pairs_from [] = refl
pairs_of-pairs_from (p ∷ ps) = ap (λ (qs : List Pair). p ∷ qs) (pairs_of-pairs_from ps)

not_array : (s : Scalar) → eqb (tag_of s) 65 ≡ false
not_array (boolean b) = refl
not_array (short_short_int z) = refl
not_array (short_short_uint n) = refl
not_array (short_int z) = refl
not_array (short_uint n) = refl
not_array (long_int z) = refl
not_array (long_uint n) = refl
not_array (long_long_int z) = refl
not_array (float bytes) = refl
not_array (double bytes) = refl
not_array (decimal scale n) = refl
not_array (long_string bytes) = refl
not_array (byte_array bytes) = refl
not_array (timestamp n) = refl
not_array void = refl

not_table : (s : Scalar) → eqb (tag_of s) 70 ≡ false
not_table (boolean b) = refl
not_table (short_short_int z) = refl
not_table (short_short_uint n) = refl
not_table (short_int z) = refl
not_table (short_uint n) = refl
not_table (long_int z) = refl
not_table (long_uint n) = refl
not_table (long_long_int z) = refl
not_table (float bytes) = refl
not_table (double bytes) = refl
not_table (decimal scale n) = refl
not_table (long_string bytes) = refl
not_table (byte_array bytes) = refl
not_table (timestamp n) = refl
not_table void = refl

module _ {Array : List FieldValue → Form} {Table : List Pair → Form} {array_read : Reader (List FieldValue)} {table_read : Reader (List Pair)} (arrays : IsReader Array array_read) (tables : IsReader Table table_read) where
  tagged_again :
      (v : FieldValue) (text rest : List ℕ) → Tagged Array Table v text →
      value_with array_read table_read (text ++ rest) ≡ Some (v, rest)
  tagged_again (scalar s) text rest f =
      then_again OctetOf octet_at octet_reader (tagged_with array_read table_read) (tag_of s) (scalar s) (ScalarOf s) (λ text' rest' g. rw (not_array s, not_table s) (ap (option_map (λ (y : Scalar × List ℕ). (scalar y.0, y.1))) (scalar_again s text' rest' g))) text rest f
  tagged_again (array vs) text rest f =
      then_again OctetOf octet_at octet_reader (tagged_with array_read table_read) 65 (array vs) (Array (list_of vs)) (λ text' rest' g. map_again arrays (λ us. array (values_from us)) (list_of vs) text' rest' g ∙ ap (λ (us : FieldValues). Some (array us, rest')) (values_from-list_of vs)) text rest f
  tagged_again (table ps) text rest f =
      then_again OctetOf octet_at octet_reader (tagged_with array_read table_read) 70 (table ps) (Table (pairs_of ps)) (λ text' rest' g. map_again tables (λ qs. table (pairs_from qs)) (pairs_of ps) text' rest' g ∙ ap (λ (qs : FieldPairs). Some (table qs, rest')) (pairs_from-pairs_of ps)) text rest f

  tagged_takes :
      (bytes : List ℕ) (v : FieldValue) (rest : List ℕ) → IsOctets bytes →
      value_with array_read table_read bytes ≡ Some (v, rest) →
      (text : List ℕ) × (bytes ≡ text ++ rest) × Tagged Array Table v text
  tagged_takes bytes v rest fits e =
      let t = then_takes OctetOf octet_at octet_reader (tagged_with array_read table_read) bytes v rest fits e in
      pick t.x 65 _ _ _ t.second (λ is e.
      let u = map_takes arrays (λ us. array (values_from us)) t.middle v rest t.fits e in
      let form : Tagged Array Table (array (values_from u.0)) (t.text ++ u.1) = (t.text, u.1, refl, subst (λ (n : ℕ). OctetOf n t.text) is t.form, subst (λ (us : List FieldValue). Array us u.1) (sym (list_of-values_from u.0)) u.4) in
      (t.text ++ u.1, joined bytes t.text t.middle u.1 rest t.parts u.3, subst (λ (w : FieldValue). Tagged Array Table w (t.text ++ u.1)) u.2 form)) (λ e.
      pick t.x 70 _ _ _ e (λ is e.
      let u = map_takes tables (λ qs. table (pairs_from qs)) t.middle v rest t.fits e in
      let form : Tagged Array Table (table (pairs_from u.0)) (t.text ++ u.1) = (t.text, u.1, refl, subst (λ (n : ℕ). OctetOf n t.text) is t.form, subst (λ (qs : List Pair). Table qs u.1) (sym (pairs_of-pairs_from u.0)) u.4) in
      (t.text ++ u.1, joined bytes t.text t.middle u.1 rest t.parts u.3, subst (λ (w : FieldValue). Tagged Array Table w (t.text ++ u.1)) u.2 form)) (λ e.
      let m = scalars t.x t.middle v rest e in
      let u = scalar_takes t.x t.middle m.0 rest t.fits m.1 in
      let form : Tagged Array Table (scalar m.0) (t.text ++ u.1) = (t.text, u.1, refl, subst (λ (n : ℕ). OctetOf n t.text) u.0 t.form, u.3) in
      (t.text ++ u.1, joined bytes t.text t.middle u.1 rest t.parts u.2, subst (λ (w : FieldValue). Tagged Array Table w (t.text ++ u.1)) m.2 form)))
    where
      scalars :
          (tag : ℕ) (bytes : List ℕ) (v : FieldValue) (rest : List ℕ) →
          read_map scalar (scalar_at tag) bytes ≡ Some (v, rest) →
          (s : Scalar) × (scalar_at tag bytes ≡ Some (s, rest)) × (scalar s ≡ v)
      scalars tag bytes v rest e = mapped (scalar_at tag bytes) v rest e
        where
          mapped :
              (o : Option (Scalar × List ℕ)) (v : FieldValue) (rest : List ℕ) →
              option_map {U = FieldValue × List ℕ} (λ (z : Scalar × List ℕ). (scalar z.0, z.1)) o ≡ Some (v, rest) →
              (s : Scalar) × (o ≡ Some (s, rest)) × (scalar s ≡ v)
          mapped None v rest e = absurd cc
          mapped (Some z) v rest e =
              let is : ◌≡◌ {A = FieldValue × List ℕ} (scalar z.0, z.1) (v, rest) = some_is (scalar z.0, z.1) (v, rest) e in
              (z.0, ap (λ (r : List ℕ). Some (z.0, r)) (ap (λ (p : FieldValue × List ℕ). p.1) is), ap (λ (p : FieldValue × List ℕ). p.0) is)

  tagged_reader : IsReader (Tagged Array Table) (value_with array_read table_read)
  tagged_reader = record { again = tagged_again; takes = tagged_takes }

none_reader : {A : Type 0} → IsReader (λ (x : A) (bytes : List ℕ). ⊥) (λ bytes. None)
none_reader {A} = record { again = λ x text rest f. absurd f; takes = λ bytes x rest fits e. absurd cc }

value_something : (depth : ℕ) → value_at depth [] ≡ None
unfolding value_at
value_something zero = refl
value_something (suc depth) = refl

-- a tagged value is read at any depth that holds it
pub value_reader : (depth : ℕ) → IsReader (Spells depth) (value_at depth)
unfolding value_at
value_reader zero = tagged_reader none_reader none_reader
value_reader (suc depth) = tagged_reader (array_reader (value_reader depth) (value_something depth)) (table_reader (value_reader depth) (value_something depth))

-- a table that stands alone
pub table_at_reader : (depth : ℕ) → IsReader (TableOf (Spells depth)) (table_at (suc depth))
unfolding table_at
table_at_reader depth = table_reader (value_reader depth) (value_something depth)

-- ---- one level of the readers
pub value_at_is :
    (depth : ℕ) (bytes : List ℕ) → value_at depth bytes ≡ value_with (array_at depth) (table_at depth) bytes
unfolding value_at array_at table_at
value_at_is zero bytes = refl
value_at_is (suc depth) bytes = refl

pub array_at_zero : (depth : ℕ) (bytes : List ℕ) → depth ≡ 0 → array_at depth bytes ≡ None
unfolding array_at
array_at_zero zero bytes e = refl
array_at_zero (suc depth) bytes e = absurd (omega arith)

pub table_at_zero : (depth : ℕ) (bytes : List ℕ) → depth ≡ 0 → table_at depth bytes ≡ None
unfolding table_at
table_at_zero zero bytes e = refl
table_at_zero (suc depth) bytes e = absurd (omega arith)

-- the body that a length announces, and what is made of it
pub array_at_is :
    (depth below : ℕ) (bytes : List ℕ) → depth ≡ suc below →
    array_at depth bytes ≡ (long_string_at bytes >>= λ body. row_at (value_at below) (length body.0) body.0 >>= λ values. Some (values, body.1))
unfolding array_at array_with
array_at_is zero below bytes e = absurd (omega arith)
array_at_is (suc depth) below bytes e =
    let same : depth ≡ below = omega arith in ap (λ (d : ℕ). array_with (value_at d) bytes) same

pub table_at_is :
    (depth below : ℕ) (bytes : List ℕ) → depth ≡ suc below →
    table_at depth bytes ≡ (long_string_at bytes >>= λ body. row_at (pair_with (value_at below)) (length body.0) body.0 >>= λ pairs. Some (map_of pairs, body.1))
unfolding table_at table_with
table_at_is zero below bytes e = absurd (omega arith)
table_at_is (suc depth) below bytes e =
    let same : depth ≡ below = omega arith in ap (λ (d : ℕ). table_with (value_at d) bytes) same
