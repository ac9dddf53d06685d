-- Tables as maps: what a name has after another was put, and what it has in a table made of pairs.
use Rattle.std.proofs.Common.{◌≡◌, ℕ, ◌-◌, Bool, true, false, cond, List, [], ◌∷◌, ◌++◌, map, fold, Some, nat_eq, refl, sym, ap, ◌∙◌, subst, inl, inr, append_assoc, append-nil}
use Rattle.std.specs.Ordering.{is_eq, match_ordering}
use Rattle.std.specs.Cmp.{Equal-is}
use Rattle.std.specs.Cmp.Lexicographic.{pointwise, texts_ties}
use Rattle.std.specs.BTreeMap.{insert_entry}
use Rattle.std.specs.declared.cmp.Ordering.TheVariants.{Less, Equal, Greater}
use Rattle.std.proofs.lemmas.Map.Lookups.{exact_bytes}
use Rattle.std.proofs.lemmas.Grind.{fold-append}
use Rattle.amqp_types.specs.declared.value.AMQPValue.{AMQPValue}
use Rattle.amqp_types.specs.Value.{FieldValue, Pair}
use Rattle.amqp_types.specs.View.{value_of, named_value}
use Rattle.amqp_types.specs.Table.{name_cmp, IsInOrder, get, put, map_of}
use Rattle.amqp_types.specs.Spelling.{max_depth}
use Rattle.amqp_types.specs.Laws.{LastOfEqualNamesCounts, LastPairCounts, NamesStandOnce, PutSetsOneName}
use Rattle.amqp_types.proofs.FieldReaders.{table_at_reader}
use Rattle.amqp_types.proofs.Tables.{names_total, turned_back, put_less, put_equal, put_greater, split_order, put_in_order}

-- ---- what a name has
same_twice : {A : Type 0} (b : Bool) (x y z : A) → cond b x (cond b y z) ≡ cond b x z
same_twice true x y z = refl
same_twice false x y z = refl

swapped :
    {A : Type 0} (b c : Bool) (x y z : A) → (b ≡ true → c ≡ true → ⊥) → cond b x (cond c y z) ≡ cond c y (cond b x z)
swapped true true x y z apart = absurd (apart refl refl)
swapped true false x y z apart = refl
swapped false true x y z apart = refl
swapped false false x y z apart = refl

-- two tests that pass name the same
same_name : (a b : List ℕ) → is_eq (name_cmp a b) ≡ true → a ≡ b
same_name a b e = exact_bytes a b ((Equal-is (name_cmp a b)).0 e)

apart :
    (name first other : List ℕ) → name_cmp name first ≡ Greater → is_eq (name_cmp other first) ≡ true →
    is_eq (name_cmp other name) ≡ true → ⊥
apart name first other above this that =
    let same : name ≡ first = sym (same_name other name that) ∙ same_name other first this in
    let equal : name_cmp name first ≡ Equal = subst (λ n. name_cmp n first ≡ Equal) (same_name other first this ∙ sym same) ((Equal-is (name_cmp other first)).0 this) in
    absurd cc

get_put :
    (ps : List Pair) (name : List ℕ) (v : FieldValue) (other : List ℕ) →
    get (put ps name v) other ≡ cond (is_eq (name_cmp other name)) (Some v) (get ps other)
get_put [] name v other = refl
get_put (p ∷ ps) name v other = elim (split_order (name_cmp name p.0)) [
  | inl e ↦ ap (λ t. get t other) (put_less p ps name v e)
  | inr (inl e) ↦ ap (λ t. get t other) (put_equal p ps name v e)
      ∙ sym (same_twice (is_eq (name_cmp other p.0)) (Some v) (Some p.1) (get ps other))
      ∙ ap (λ n. cond (is_eq (name_cmp other n)) (Some v) (get (p ∷ ps) other)) (sym (exact_bytes name p.0 e))
  | inr (inr e) ↦ ap (λ t. get t other) (put_greater p ps name v e)
      ∙ ap (λ o. cond (is_eq (name_cmp other p.0)) (Some p.1) o) (get_put ps name v other)
      ∙ swapped (is_eq (name_cmp other p.0)) (is_eq (name_cmp other name)) (Some p.1) (Some v) (get ps other) (apart name p.0 other e)
]

pub put_sets_one_name : PutSetsOneName
put_sets_one_name table name v other =
    get_put table name v other ∙ ap (λ b. cond b (Some v) (get table other)) (sym (texts_ties other name))

-- ---- a table that is made of pairs
get_after :
    (table : List Pair) (pairs : List Pair) (name : List ℕ) →
    get (fold (λ t p. put t p.0 p.1) table pairs) name ≡ fold (λ found p. cond (pointwise nat_eq name p.0) (Some p.1) found) (get table name) pairs
get_after table [] name = refl
get_after table (p ∷ ps) name =
    get_after (put table p.0 p.1) ps name
    ∙ ap (λ o. fold (λ found p. cond (pointwise nat_eq name p.0) (Some p.1) found) o ps) (put_sets_one_name table p.0 p.1 name)

pub last_of_equal_names_counts : LastOfEqualNamesCounts
last_of_equal_names_counts pairs name = get_after [] pairs name

in_order_after :
    (table : List Pair) (pairs : List Pair) → IsInOrder table → IsInOrder (fold (λ t p. put t p.0 p.1) table pairs)
in_order_after table [] h = h
in_order_after table (p ∷ ps) h = in_order_after (put table p.0 p.1) ps (put_in_order table p.0 p.1 h)

pub names_stand_once : NamesStandOnce
names_stand_once pairs = in_order_after [] pairs tt

pub last_pair_counts : LastPairCounts
last_pair_counts pairs body text rest row string =
    let read = (table_at_reader (max_depth - 1)).again (map_of pairs) text rest (body, pairs, refl, row, string) in
    (map_of pairs, read, last_of_equal_names_counts pairs)

pub map_of_push : (pairs : List Pair) (p : Pair) → map_of (pairs ++ p ∷ []) ≡ put (map_of pairs) p.0 p.1
map_of_push pairs p = fold-append (λ t p. put t p.0 p.1) [] pairs (p ∷ [])

-- ---- pairs that are in order are the table
first_before :
    (q : Pair) (front : List Pair) (p : Pair) (rest : List Pair) → IsInOrder (q ∷ (front ++ p ∷ rest)) →
    name_cmp q.0 p.0 ≡ Less
first_before q [] p rest h = h.0
first_before q (r ∷ front) p rest h = names_total.trans q.0 r.0 p.0 h.0 (first_before r front p rest h.1)

put_last :
    (front : List Pair) (p : Pair) (rest : List Pair) → IsInOrder (front ++ p ∷ rest) →
    put front p.0 p.1 ≡ front ++ p ∷ []
put_last [] p rest h = refl
put_last (q ∷ front) p rest h =
    put_greater q front p.0 p.1 (turned_back q.0 p.0 (first_before q front p rest h)) ∙ ap (λ t. q ∷ t) (put_last front p rest h.1)

kept_after :
    (front : List Pair) (rest : List Pair) → IsInOrder (front ++ rest) →
    fold (λ t p. put t p.0 p.1) front rest ≡ front ++ rest
kept_after front [] h = sym (append-nil front)
kept_after front (p ∷ rest) h =
    let whole : (front ++ p ∷ []) ++ rest ≡ front ++ p ∷ rest = append_assoc front (p ∷ []) rest in
    ap (λ t. fold (λ t p. put t p.0 p.1) t rest) (put_last front p rest h)
    ∙ kept_after (front ++ p ∷ []) rest (subst IsInOrder (sym whole) h)
    ∙ whole

pub map_of_ordered : (pairs : List Pair) → IsInOrder pairs → map_of pairs ≡ pairs
map_of_ordered pairs h = kept_after [] pairs h

-- ---- an ordered map of values
pub named_insert :
    (es : List (List ℕ × AMQPValue)) (name : List ℕ) (v : AMQPValue) →
    map named_value (insert_entry name_cmp es name v) ≡ put (map named_value es) name (value_of v)
named_insert [] name v = refl
named_insert (e ∷ es) name v = elim (split_order (name_cmp name e.0)) [
  | inl o ↦ ap (λ x. map named_value (match_ordering x ((name, v) ∷ e ∷ es) ((e.0, v) ∷ es) (e ∷ insert_entry name_cmp es name v))) o ∙ sym (put_less (named_value e) (map named_value es) name (value_of v) o)
  | inr (inl o) ↦ ap (λ x. map named_value (match_ordering x ((name, v) ∷ e ∷ es) ((e.0, v) ∷ es) (e ∷ insert_entry name_cmp es name v))) o ∙ sym (put_equal (named_value e) (map named_value es) name (value_of v) o)
  | inr (inr o) ↦ ap (λ x. map named_value (match_ordering x ((name, v) ∷ e ∷ es) ((e.0, v) ∷ es) (e ∷ insert_entry name_cmp es name v))) o ∙ ap (λ t. named_value e ∷ t) (named_insert es name v) ∙ sym (put_greater (named_value e) (map named_value es) name (value_of v) o)
]
