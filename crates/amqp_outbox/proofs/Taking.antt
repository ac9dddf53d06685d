-- The first thing of a key, which is taken out of a lane.
use Rattle.std.proofs.Common.{◌≡◌, ◌∙◌, ap, sym, refl, subst, ℕ, ◌<◌, ◌==◌, Bool, true, false, cond, if◌then◌else◌, List, [], ◌∷◌, Option, Some, None}
use Rattle.std.specs.Prelude.{drop, find}
use Rattle.std.specs.List.{AllByRecursion}
use Rattle.std.specs.declared.cmp.Ordering.TheVariants.{Less, Equal, Greater}
use Rattle.std.specs.Ordering.{nat_cmp, is_eq}
use Rattle.std.specs.Map.{keys_of, values_of}
use Rattle.std.proofs.lemmas.Map.Keys.{sorted_head, sorted_tail}
use Rattle.amqp_outbox.specs.Lists.{head, without_first, is_the_number}
use Rattle.amqp_outbox.specs.Listed.{at, without}
use Rattle.amqp_outbox.specs.Order.{held, has_key, numbers_under}
use Rattle.amqp_outbox.proofs.Cases.{less-from, to-greater}
use Rattle.amqp_types.proofs.Small.{the-number, nat_cmp_self}
use Rattle.amqp_outbox.proofs.Seen.{Sorted, sorted-seen}

-- ---- what waits is in order

pub sorted-held : {X : Type 0} (es : List (ℕ × Option X)) → Sorted (keys_of es) → Sorted (keys_of (held es))
sorted-held es sorted = sorted-seen (λ o. o) es sorted

-- ---- a key's first

module _ {X : Type 0} (key_of : X → Option ℕ) where
  -- what holds of all numbers holds of those of a key
  pub all-numbers : (P : ℕ → Type 0) (k : ℕ) (xs : List (ℕ × X)) → AllByRecursion P (keys_of xs) → AllByRecursion P (numbers_under key_of k xs)
  all-numbers P k [] all = tt
  all-numbers P k (e ∷ es) all = by (has_key key_of k e.1) (all-numbers P k es all.1) where
    by : (b : Bool) → AllByRecursion P (numbers_under key_of k es) → AllByRecursion P (if b then e.0 ∷ numbers_under key_of k es else numbers_under key_of k es)
    by true rest = (all.0, rest)
    by false rest = rest

  pub all-head : (P : ℕ → Type 0) (n : ℕ) (list : List ℕ) → AllByRecursion P list → head list ≡ Some n → P n
  all-head P n [] all h = absurd cc
  all-head P n (m ∷ list) all h = let is : m ≡ n = cc in subst P is all.0

  -- a thing of one key has no other
  same-key : (j k : ℕ) (o : Option ℕ) → is_the_number k o ≡ true → is_the_number j o ≡ (k == j)
  same-key j k None h = absurd cc
  same-key j k (Some m) h = ap (λ i. i == j) (the-number m k h)

  module _ (k n : ℕ) where
    -- what is taken out of what waits: the value, what is left of it, and the numbers by key
    pub record Takes (xs : List (ℕ × X)) : Type 0 where
      pub there : at n xs ≡ find (has_key key_of k) (values_of xs)
      pub rest : values_of (without n xs) ≡ without_first (has_key key_of k) (values_of xs)
      pub numbers : (j : ℕ) → numbers_under key_of j (without n xs) ≡ (if k == j then drop 1 (numbers_under key_of j xs) else numbers_under key_of j xs)

    dropped-one : (m : ℕ) (list : List ℕ) (b : Bool) → list ≡ (if b then drop 1 (if b then m ∷ list else list) else (if b then m ∷ list else list))
    dropped-one m list true = refl
    dropped-one m list false = refl

    kept-one : (m : ℕ) (list list' : List ℕ) (b c : Bool) → (c ≡ true → b ≡ false) → list' ≡ (if c then drop 1 list else list)
        → (if b then m ∷ list' else list') ≡ (if c then drop 1 (if b then m ∷ list else list) else (if b then m ∷ list else list))
    kept-one m list list' true true apart is = let no : true ≡ false = apart refl in absurd cc
    kept-one m list list' false true apart is = is
    kept-one m list list' true false apart is = ap (λ l. m ∷ l) is
    kept-one m list list' false false apart is = is

    other : (j : ℕ) (o : Option ℕ) → is_the_number k o ≡ false → (k == j) ≡ true → is_the_number j o ≡ false
    other j o h is = ap (λ i. is_the_number i o) (sym (the-number k j is)) ∙ h

    -- the first entry has the key
    takes-first : (e : ℕ × X) (xs : List (ℕ × X)) → has_key key_of k e.1 ≡ true → e.0 ≡ n → Takes (e ∷ xs)
    takes-first e xs has is =
        let same : nat_cmp n e.0 ≡ Equal = ap (nat_cmp n) is ∙ nat_cmp_self n in
        let out : without n (e ∷ xs) ≡ xs = ap (λ r. cond (is_eq r) xs (e ∷ without n xs)) same in
        record {
          there = ap (λ r. cond (is_eq r) (Some e.1) (at n xs)) same ∙ sym (ap (λ b. cond b (Some e.1) (find (has_key key_of k) (values_of xs))) has);
          rest = ap values_of out ∙ sym (ap (λ b. if b then values_of xs else e.1 ∷ without_first (has_key key_of k) (values_of xs)) has);
          numbers =
              λ j. ap (numbers_under key_of j) out
              ∙ dropped-one e.0 (numbers_under key_of j xs) (k == j)
              ∙ sym (ap (λ b. if k == j then drop 1 (if b then e.0 ∷ numbers_under key_of j xs else numbers_under key_of j xs) else (if b then e.0 ∷ numbers_under key_of j xs else numbers_under key_of j xs)) (same-key j k (key_of e.1) has));
        }

    -- the first entry has it not
    takes-later : (e : ℕ × X) (xs : List (ℕ × X)) → has_key key_of k e.1 ≡ false → e.0 < n → Takes xs → Takes (e ∷ xs)
    takes-later e xs has before later =
        let past : nat_cmp n e.0 ≡ Greater = to-greater n e.0 before in
        let out : without n (e ∷ xs) ≡ e ∷ without n xs = ap (λ r. cond (is_eq r) xs (e ∷ without n xs)) past in
        record {
          there = ap (λ r. cond (is_eq r) (Some e.1) (at n xs)) past ∙ later.there ∙ sym (ap (λ b. cond b (Some e.1) (find (has_key key_of k) (values_of xs))) has);
          rest =
              ap values_of out ∙ ap (λ l. e.1 ∷ l) later.rest
              ∙ sym (ap (λ b. if b then values_of xs else e.1 ∷ without_first (has_key key_of k) (values_of xs)) has);
          numbers =
              λ j. ap (numbers_under key_of j) out
              ∙ kept-one e.0 (numbers_under key_of j xs) (numbers_under key_of j (without n xs)) (has_key key_of j e.1) (k == j) (other j (key_of e.1) has) (later.numbers j);
        }

    -- the first number of a key is that of the first thing of the key
    pub takes : (xs : List (ℕ × X)) → Sorted (keys_of xs) → head (numbers_under key_of k xs) ≡ Some n → Takes xs
    takes [] sorted h = absurd cc
    takes (e ∷ es) sorted h = by (has_key key_of k e.1) refl h (takes es (sorted_tail nat_cmp e.0 (keys_of es) sorted)) where
      by : (b : Bool) → has_key key_of k e.1 ≡ b → head (if b then e.0 ∷ numbers_under key_of k es else numbers_under key_of k es) ≡ Some n
          → (head (numbers_under key_of k es) ≡ Some n → Takes es) → Takes (e ∷ es)
      by true has h rest = let is : e.0 ≡ n = cc in takes-first e es has is
      by false has h rest =
          let above : nat_cmp e.0 n ≡ Less =
          all-head (λ m. nat_cmp e.0 m ≡ Less) n (numbers_under key_of k es) (all-numbers (λ m. nat_cmp e.0 m ≡ Less) k es (sorted_head nat_cmp e.0 (keys_of es) sorted)) h in
          takes-later e es has (less-from e.0 n above) (rest h)

  -- where a key has no number, no thing has the key
  pub none-taken : (k : ℕ) (xs : List (ℕ × X)) → head (numbers_under key_of k xs) ≡ None → find (has_key key_of k) (values_of xs) ≡ None
  none-taken k [] h = refl
  none-taken k (e ∷ es) h = by (has_key key_of k e.1) h (none-taken k es) where
    by : (b : Bool) → head (if b then e.0 ∷ numbers_under key_of k es else numbers_under key_of k es) ≡ None
        → (head (numbers_under key_of k es) ≡ None → find (has_key key_of k) (values_of es) ≡ None)
        → cond b (Some e.1) (find (has_key key_of k) (values_of es)) ≡ None
    by true h rest = absurd cc
    by false h rest = rest h

-- what passes no test is not taken out
pub none-left_out : {X : Type 0} (test : X → Bool) (xs : List X) → find test xs ≡ None → without_first test xs ≡ xs
none-left_out test [] h = refl
none-left_out test (x ∷ xs) h = by (test x) h (none-left_out test xs) where
  by : (b : Bool) → cond b (Some x) (find test xs) ≡ None → (find test xs ≡ None → without_first test xs ≡ xs)
      → (if b then xs else x ∷ without_first test xs) ≡ x ∷ xs
  by true h rest = absurd cc
  by false h rest = ap (λ l. x ∷ l) (rest h)
