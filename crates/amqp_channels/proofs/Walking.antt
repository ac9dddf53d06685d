-- The listed channels, as the code goes over them by ascending number.
use Rattle.std.proofs.Common.{◌≡◌, ◌∙◌, ◌<◌, ◌≤◌, ap, sym, refl, subst, ℕ, nat_lt, nat_le, ◌&&◌, Bool, true, false, cond, List, [], ◌∷◌, ◌++◌, length, Option, Some, None, arith, append-nil}
use Rattle.std.specs.Prelude.{filter}
use Rattle.std.specs.List.{AllByRecursion}
use Rattle.std.specs.declared.cmp.Ordering.{Ordering}
use Rattle.std.specs.declared.cmp.Ordering.TheVariants.{Less, Equal, Greater}
use Rattle.std.specs.declared.ops.Bound.{Bound}
use Rattle.std.specs.declared.ops.Bound.TheVariants.{Excluded, Unbounded}
use Rattle.std.specs.Ordering.{nat_cmp, is_eq, is_lt, match_ordering}
use Rattle.std.specs.BTreeMap.{is_at}
use Rattle.std.specs.BTreeMap.Range.{entries_between}
use Rattle.std.specs.Map.{keys_of}
use Rattle.std.proofs.lemmas.Bool.Decides.{nat_tests}
use Rattle.std.proofs.lemmas.List.{map-append, append_assoc}
use Rattle.std.proofs.lemmas.List.Elements.{filter-append}
use Rattle.std.proofs.lemmas.Map.Keys.{sorted_head, sorted_tail}
use Rattle.amqp_outbox.specs.Listed.{Ascends}
use Rattle.amqp_outbox.proofs.Cases.{less-from, equal-from, greater-from, to-greater, below-from, from-not-below}
use Rattle.amqp_channels.specs.declared.channels.Channel.{Channel}
use Rattle.amqp_maps.specs.Listed.{at, put, without, map_values}
use Rattle.amqp_channels.specs.Kept.{is_kept_in, reconnecting, kept}
use Rattle.amqp_channels.specs.InOrder.{is_after, listed_after, agreed}
use Rattle.amqp_maps.proofs.Numbered.{is_itself}
use Rattle.amqp_types.proofs.Small.{is-at-most, not-below, nat_cmp_self}

-- ---- what holds of each of a list

all-then : {X : Type 0} {P Q : X → Type 0} → ((x : X) → P x → Q x) → (xs : List X) → AllByRecursion P xs → AllByRecursion Q xs
all-then f [] all = tt
all-then f (x ∷ xs) all = (f x all.0, all-then f xs all.1)

filter-all : {X : Type 0} (p : X → Bool) (xs : List X) → AllByRecursion (λ x. p x ≡ true) xs → filter p xs ≡ xs
filter-all p [] all = refl
filter-all p (x ∷ xs) all = ap (λ b. cond b (x ∷ filter p xs) (filter p xs)) all.0 ∙ ap (λ ys. x ∷ ys) (filter-all p xs all.1)

-- what holds of each holds of the first that passes
first-passes : {X : Type 0} (P : X → Type 0) (p : X → Bool) (x : X) (xs ys : List X) → AllByRecursion P xs → filter p xs ≡ x ∷ ys → P x
first-passes P p x [] ys all is = absurd cc
first-passes P p x (z ∷ zs) ys all is = by (p z) (λ h. first-passes P p x zs ys all.1 h) is where
  by : (b : Bool) → (filter p zs ≡ x ∷ ys → P x) → cond b (z ∷ filter p zs) (filter p zs) ≡ x ∷ ys → P x
  by true rest h = let same : z ≡ x = cc in subst P same all.0
  by false rest h = rest h

-- ---- numbers that ascend

-- all entries are before a number
abbrev Before : ℕ → List (ℕ × Channel) → Type 0
Before n es = AllByRecursion (λ e. e.0 < n) es

-- all entries are past a number
abbrev Past : ℕ → List (ℕ × Channel) → Type 0
Past n es = AllByRecursion (λ e. n < e.0) es

past-keys : (n : ℕ) (es : List (ℕ × Channel)) → AllByRecursion (λ k. nat_cmp n k ≡ Less) (keys_of es) → Past n es
past-keys n [] all = tt
past-keys n (e ∷ es) all = (less-from n e.0 all.0, past-keys n es all.1)

past-first : (e : ℕ × Channel) (es : List (ℕ × Channel)) → Ascends (e ∷ es) → Past e.0 es
past-first e es sorted = past-keys e.0 es (sorted_head nat_cmp e.0 (keys_of es) sorted)

later : (e : ℕ × Channel) (es : List (ℕ × Channel)) → Ascends (e ∷ es) → Ascends es
later e es sorted = sorted_tail nat_cmp e.0 (keys_of es) sorted

past-last : (n : ℕ) (xs ys : List (ℕ × Channel)) (e : ℕ × Channel) → Past n (xs ++ e ∷ ys) → n < e.0
past-last n [] ys e all = all.0
past-last n (x ∷ xs) ys e all = past-last n xs ys e all.1

module _ (e : ℕ × Channel) (ys : List (ℕ × Channel)) where
  before-it : (xs : List (ℕ × Channel)) → Ascends (xs ++ e ∷ ys) → Before e.0 xs
  before-it [] sorted = tt
  before-it (x ∷ xs) sorted =
      (past-last x.0 xs ys e (past-first x (xs ++ e ∷ ys) sorted), before-it xs (later x (xs ++ e ∷ ys) sorted))

  past-it : (xs : List (ℕ × Channel)) → Ascends (xs ++ e ∷ ys) → Past e.0 ys
  past-it [] sorted = past-first e ys sorted
  past-it (x ∷ xs) sorted = past-it xs (later x (xs ++ e ∷ ys) sorted)

-- ---- what comes after a number

is-past : (m n : ℕ) → m < n → nat_lt m n ≡ true
is-past m n h = grind (arith, nat_tests)

not-most : (m n : ℕ) → n < m → nat_le m n ≡ false
not-most m n h = grind (arith, nat_tests)

after-later : (last : Option ℕ) (m n : ℕ) → is_after last m ≡ true → m < n → is_after last n ≡ true
after-later None m n h less = refl
after-later (Some k) m n h less = let first = below-from k m h in is-past k n (omega (arith, first, less))

-- at the beginning all are left
pub all-left : (es : List (ℕ × Channel)) → listed_after None es ≡ es
all-left [] = refl
all-left (e ∷ es) = ap (λ xs. e ∷ xs) (all-left es)

all-past : (last : Option ℕ) (n : ℕ) (es : List (ℕ × Channel)) → is_after last n ≡ true → Past n es → listed_after last es ≡ es
all-past last n es after past =
    filter-all (λ (e : ℕ × Channel). is_after last e.0) es (all-then (λ e less. after-later last n e.0 after less) es past)

past-itself : (n : ℕ) (es : List (ℕ × Channel)) → Past n es → listed_after (Some n) es ≡ es
past-itself n es past = filter-all (λ (e : ℕ × Channel). nat_lt n e.0) es (all-then (λ e less. is-past n e.0 less) es past)

-- those after the first one that is left are the others that are left
pub after-first : (last : Option ℕ) (e : ℕ × Channel) (rest es : List (ℕ × Channel)) → Ascends es → listed_after last es ≡ e ∷ rest
    → listed_after (Some e.0) es ≡ rest
after-first last e rest [] sorted is = absurd cc
after-first last e rest (f ∷ fs) sorted is =
    by (is_after last f.0) refl is (after-first last e rest fs (later f fs sorted)) where
      past : Past f.0 fs
      past = past-first f fs sorted

      others : listed_after (Some e.0) fs ≡ rest → nat_lt e.0 f.0 ≡ false → listed_after (Some e.0) (f ∷ fs) ≡ rest
      others h first = ap (λ b. cond b (f ∷ listed_after (Some e.0) fs) (listed_after (Some e.0) fs)) first ∙ h

      by : (b : Bool) → is_after last f.0 ≡ b → cond b (f ∷ listed_after last fs) (listed_after last fs) ≡ e ∷ rest
          → (listed_after last fs ≡ e ∷ rest → listed_after (Some e.0) fs ≡ rest) → listed_after (Some e.0) (f ∷ fs) ≡ rest
      by true after h before =
          let same : f ≡ e = cc in
          let tail : listed_after last fs ≡ rest = cc in
          let number : f.0 ≡ e.0 = ap (λ (x : ℕ × Channel). x.0) same in
          others
          (ap (λ n. listed_after (Some n) fs) (sym number) ∙ past-itself f.0 fs past ∙ sym (all-past last f.0 fs after past) ∙ tail)
          (not-below e.0 f.0 (omega (arith, number)))
      by false after h before =
          let less : f.0 < e.0 = first-passes (λ (x : ℕ × Channel). f.0 < x.0) (λ (x : ℕ × Channel). is_after last x.0) e fs rest past h in
          others (before h) (not-below e.0 f.0 (omega (arith, less)))

-- ---- as a range of a map

-- a range from the last on, without it
abbrev pub from_bound : Option ℕ → Bound ℕ
from_bound None = Unbounded
from_bound (Some last) = Excluded last

past-same : (last n : ℕ) → (is_lt (nat_cmp last n) && true) ≡ nat_lt last n
past-same last n = by (nat_cmp last n) refl where
  by : (o : Ordering) → nat_cmp last n ≡ o → (is_lt o && true) ≡ nat_lt last n
  by Less h = sym (is-past last n (less-from last n h))
  by Equal h = sym (not-below last n (omega (arith, equal-from last n h)))
  by Greater h = let less = greater-from last n h in sym (not-below last n (omega (arith, less)))

pub range-after : (last : Option ℕ) (es : List (ℕ × Channel)) → entries_between nat_cmp (from_bound last) Unbounded es ≡ listed_after last es
range-after None es = refl
range-after (Some last) es = λ i. filter (λ (e : ℕ × Channel). past-same last e.0 i) es

-- ---- an entry in its place

module _ (n : ℕ) (ys : List (ℕ × Channel)) where
  at-within : (xs : List (ℕ × Channel)) (x : Channel) → Before n xs → at n (xs ++ (n, x) ∷ ys) ≡ Some x
  at-within [] x before = ap (λ o. cond (is_eq o) (Some x) (at n ys)) (nat_cmp_self n)
  at-within (e ∷ xs) x before =
      ap (λ o. cond (is_eq o) (Some e.1) (at n (xs ++ (n, x) ∷ ys))) (to-greater n e.0 before.0) ∙ at-within xs x before.1

  put-within : (xs : List (ℕ × Channel)) (x y : Channel) → Before n xs → put n y (xs ++ (n, x) ∷ ys) ≡ xs ++ (n, y) ∷ ys
  put-within [] x y before = ap (λ o. match_ordering o ((n, y) ∷ (n, x) ∷ ys) ((n, y) ∷ ys) ((n, x) ∷ put n y ys)) (nat_cmp_self n)
  put-within (e ∷ xs) x y before =
      let more = xs ++ (n, x) ∷ ys in
      ap (λ o. match_ordering o ((n, y) ∷ e ∷ more) ((e.0, y) ∷ more) (e ∷ put n y more)) (to-greater n e.0 before.0)
      ∙ ap (λ zs. e ∷ zs) (put-within xs x y before.1)

  without-within : (xs : List (ℕ × Channel)) (x : Channel) → Before n xs → without n (xs ++ (n, x) ∷ ys) ≡ xs ++ ys
  without-within [] x before = ap (λ o. cond (is_eq o) ys ((n, x) ∷ without n ys)) (nat_cmp_self n)
  without-within (e ∷ xs) x before =
      let more = xs ++ (n, x) ∷ ys in
      ap (λ o. cond (is_eq o) more (e ∷ without n more)) (to-greater n e.0 before.0)
      ∙ ap (λ zs. e ∷ zs) (without-within xs x before.1)

  skip : (e : ℕ × Channel) (es : List (ℕ × Channel)) → e.0 ≤ n → listed_after (Some n) (e ∷ es) ≡ listed_after (Some n) es
  skip e es h = ap (λ b. cond b (e ∷ listed_after (Some n) es) (listed_after (Some n) es)) (not-below n e.0 h)

  after-within : (xs : List (ℕ × Channel)) → Before n xs → Past n ys → listed_after (Some n) (xs ++ ys) ≡ ys
  after-within [] before past = past-itself n ys past
  after-within (e ∷ xs) before past =
      let first = before.0 in skip e (xs ++ ys) (omega (arith, first)) ∙ after-within xs before.1 past

  after-it : (xs : List (ℕ × Channel)) (y : Channel) → Before n xs → Past n ys → listed_after (Some n) (xs ++ (n, y) ∷ ys) ≡ ys
  after-it [] y before past = skip (n, y) ys (omega arith) ∙ past-itself n ys past
  after-it (e ∷ xs) y before past =
      let first = before.0 in skip e (xs ++ (n, y) ∷ ys) (omega (arith, first)) ∙ after-it xs y before.1 past

-- ---- the greatest number

-- past the greatest number none is agreed
pub none-agreed : (n top : ℕ) (es : List (ℕ × Channel)) → top < n → filter (λ m. nat_le m top) (keys_of (listed_after (Some n) es)) ≡ []
none-agreed n top [] above = refl
none-agreed n top (e ∷ es) above = by (nat_lt n e.0) refl (none-agreed n top es above) where
  by : (b : Bool) → nat_lt n e.0 ≡ b → filter (λ m. nat_le m top) (keys_of (listed_after (Some n) es)) ≡ []
      → filter (λ m. nat_le m top) (keys_of (cond b (e ∷ listed_after (Some n) es) (listed_after (Some n) es))) ≡ []
  by true h rest =
      let first = below-from n e.0 h in
      ap (λ b. cond b (e.0 ∷ filter (λ m. nat_le m top) (keys_of (listed_after (Some n) es))) (filter (λ m. nat_le m top) (keys_of (listed_after (Some n) es))))
      (not-most e.0 top (omega (arith, first, above)))
      ∙ rest
  by false h rest = rest

pub not-agreed : (n top : ℕ) (ns : List ℕ) → top < n → filter (λ m. nat_le m top) ns ≡ [] → filter (λ m. nat_le m top) (n ∷ ns) ≡ []
not-agreed n top ns above none =
    ap (λ b. cond b (n ∷ filter (λ m. nat_le m top) ns) (filter (λ m. nat_le m top) ns)) (not-most n top above) ∙ none

-- the first that is left comes after the last
passes : {X : Type 0} (p : X → Bool) (x : X) (xs ys : List X) → filter p xs ≡ x ∷ ys → p x ≡ true
passes p x [] ys is = absurd cc
passes p x (z ∷ zs) ys is = by (p z) refl (passes p x zs ys) is where
  by : (b : Bool) → p z ≡ b → (filter p zs ≡ x ∷ ys → p x ≡ true) → cond b (z ∷ filter p zs) (filter p zs) ≡ x ∷ ys → p x ≡ true
  by true h rest k = let same : z ≡ x = cc in ap p (sym same) ∙ h
  by false h rest k = rest k

pub first-past : (n : ℕ) (e : ℕ × Channel) (es rest : List (ℕ × Channel)) → listed_after (Some n) es ≡ e ∷ rest → n < e.0
first-past n e es rest h = below-from n e.0 (passes (λ (x : ℕ × Channel). nat_lt n x.0) e es rest h)

module _ (n top : ℕ) (above : top < n) where
  -- what goes above the greatest number was not agreed
  pub agreed-without : (es : List (ℕ × Channel)) → agreed top (without n es) ≡ agreed top es
  agreed-without [] = refl
  agreed-without (e ∷ es) = by (nat_cmp n e.0) refl (agreed-without es) where
    others : agreed top (without n es) ≡ agreed top es → agreed top (e ∷ without n es) ≡ agreed top (e ∷ es)
    others rest = ap (λ xs. cond (nat_le e.0 top) (e ∷ xs) xs) rest

    by : (o : Ordering) → nat_cmp n e.0 ≡ o → agreed top (without n es) ≡ agreed top es → agreed top (cond (is_eq o) es (e ∷ without n es)) ≡ agreed top (e ∷ es)
    by Less h rest = others rest
    by Greater h rest = others rest
    by Equal h rest =
        let same = equal-from n e.0 h in
        sym (ap (λ b. cond b (e ∷ agreed top es) (agreed top es)) (not-most e.0 top (omega (arith, same, above))))

-- where one goes, fewer are listed
pub fewer-without : (p : ℕ × Channel → Bool) (e : ℕ × Channel) (es rest : List (ℕ × Channel)) → filter p es ≡ e ∷ rest → length (without e.0 es) < length es
fewer-without p e [] rest is = absurd cc
fewer-without p e (f ∷ fs) rest is = by (p f) is (fewer-without p e fs rest) where
  shorter : (b : Bool) → length (without e.0 fs) < length fs → length (cond b fs (f ∷ without e.0 fs)) < length (f ∷ fs)
  shorter true less = omega arith
  shorter false less = omega (arith, less)

  by : (b : Bool) → cond b (f ∷ filter p fs) (filter p fs) ≡ e ∷ rest → (filter p fs ≡ e ∷ rest → length (without e.0 fs) < length fs)
      → length (without e.0 (f ∷ fs)) < length (f ∷ fs)
  by true h later =
      let same : f ≡ e = cc in
      let number : f.0 ≡ e.0 = ap (λ (x : ℕ × Channel). x.0) same in
      let gone : without e.0 (f ∷ fs) ≡ fs = ap (λ b. cond b fs (f ∷ without e.0 fs)) (is_itself e.0 f.0 number) in
      let less = ap length gone in
      omega (arith, less)
  by false h later = shorter (is_at (nat_cmp e.0) f.0) (later h)

-- where none is above the greatest number, all are agreed
pub agreed-all : (top : ℕ) (es : List (ℕ × Channel)) → listed_after (Some top) es ≡ [] → agreed top es ≡ es
agreed-all top [] none = refl
agreed-all top (e ∷ es) none = by (nat_lt top e.0) refl none (agreed-all top es) where
  by : (b : Bool) → nat_lt top e.0 ≡ b → cond b (e ∷ listed_after (Some top) es) (listed_after (Some top) es) ≡ [] → (listed_after (Some top) es ≡ [] → agreed top es ≡ es)
      → agreed top (e ∷ es) ≡ e ∷ es
  by true h k rest = absurd cc
  by false h k rest =
      ap (λ b. cond b (e ∷ agreed top es) (agreed top es)) (is-at-most e.0 top (from-not-below top e.0 h)) ∙ ap (λ xs. e ∷ xs) (rest k)

-- what holds of the elements of two lists holds of those of both
pub all-append : {X : Type 0} (P : X → Type 0) (xs ys : List X) → AllByRecursion P xs → AllByRecursion P ys → AllByRecursion P (xs ++ ys)
all-append P [] ys all more = more
all-append P (x ∷ xs) ys all more = (all.0, all-append P xs ys all.1 more)

pub all-filtered : {X : Type 0} (P : X → Type 0) (p : X → Bool) (xs : List X) → AllByRecursion P xs → AllByRecursion P (filter p xs)
all-filtered P p [] all = tt
all-filtered P p (x ∷ xs) all = by (p x) (all-filtered P p xs all.1) where
  by : (b : Bool) → AllByRecursion P (filter p xs) → AllByRecursion P (cond b (x ∷ filter p xs) (filter p xs))
  by true rest = (all.0, rest)
  by false rest = rest

-- a channel goes that comes after those that are agreed
pub without-before : (top : ℕ) (c : ℕ × Channel) (ds cs : List (ℕ × Channel)) → Ascends (ds ++ c ∷ cs)
    → without c.0 (agreed top ds ++ c ∷ cs) ≡ agreed top ds ++ cs
without-before top c ds cs sorted =
    without-within c.0 cs (agreed top ds) c.1
    (all-filtered (λ (e : ℕ × Channel). e.0 < c.0) (λ (e : ℕ × Channel). nat_le e.0 top) ds (before-it c cs ds sorted))

-- ---- the channels that are kept

-- the channels up to the last were kept or went, and the others are as they were
pub record Walked (last : Option ℕ) (begun now : List (ℕ × Channel)) : Type 0 where
  pub done : List (ℕ × Channel)
  pub rest : List (ℕ × Channel)
  pub was : begun ≡ done ++ rest
  pub is : now ≡ kept done ++ rest
  pub left : listed_after last now ≡ rest

pub walked-begin : (es : List (ℕ × Channel)) → Walked None es es
walked-begin es = record { done = []; rest = es; was = refl; is = refl; left = all-left es }

pub walked-end : (last : Option ℕ) (begun now : List (ℕ × Channel)) → Walked last begun now → listed_after last now ≡ [] → now ≡ kept begun
walked-end last begun now w none =
    let empty : w.rest ≡ [] = sym w.left ∙ none in
    let all : begun ≡ w.done = w.was ∙ ap (λ xs. w.done ++ xs) empty ∙ append-nil w.done in
    w.is ∙ ap (λ xs. kept w.done ++ xs) empty ∙ append-nil (kept w.done) ∙ ap kept (sym all)

kept-append : (xs ys : List (ℕ × Channel)) → kept (xs ++ ys) ≡ kept xs ++ kept ys
kept-append xs ys =
    ap (map_values reconnecting) (filter-append (λ (e : ℕ × Channel). is_kept_in (e.1).state) xs ys)
    ∙ map-append (λ (e : ℕ × Channel). (e.0, reconnecting e.1)) _ _

module _ (e : ℕ × Channel) where
  kept-here : is_kept_in (e.1).state ≡ true → kept (e ∷ []) ≡ (e.0, reconnecting e.1) ∷ []
  kept-here h = ap (λ b. map_values reconnecting (cond b (e ∷ []) [])) h

  kept-nowhere : is_kept_in (e.1).state ≡ false → kept (e ∷ []) ≡ []
  kept-nowhere h = ap (λ b. map_values reconnecting (cond b (e ∷ []) [])) h

module _ (last : Option ℕ) (begun now : List (ℕ × Channel)) (e : ℕ × Channel) (w : Walked last begun now) (sorted : Ascends now)
    (next : listed_after last now ≡ e ∷ listed_after (Some e.0) now) where
  abbrev others : List (ℕ × Channel)
  others = listed_after (Some e.0) now

  rest-is : w.rest ≡ e ∷ others
  rest-is = sym w.left ∙ next

  now-is : now ≡ kept w.done ++ e ∷ others
  now-is = w.is ∙ ap (λ xs. kept w.done ++ xs) rest-is

  was-more : begun ≡ (w.done ++ e ∷ []) ++ others
  was-more = w.was ∙ ap (λ xs. w.done ++ xs) rest-is ∙ sym (append_assoc w.done (e ∷ []) others)

  ascends : Ascends (kept w.done ++ e ∷ others)
  ascends = let P : List (ℕ × Channel) → Type 0 = λ es. Ascends es in subst P now-is sorted

  before : Before e.0 (kept w.done)
  before = before-it e others (kept w.done) ascends

  past : Past e.0 others
  past = past-it e others (kept w.done) ascends

  -- it is listed
  pub walked-at : at e.0 now ≡ Some e.1
  walked-at = ap (at e.0) now-is ∙ at-within e.0 others (kept w.done) e.1 before

  put-now : put e.0 (reconnecting e.1) now ≡ kept w.done ++ (e.0, reconnecting e.1) ∷ others
  put-now = ap (put e.0 (reconnecting e.1)) now-is ∙ put-within e.0 others (kept w.done) e.1 (reconnecting e.1) before

  -- the others are left, where it stays
  pub left-put : listed_after (Some e.0) (put e.0 (reconnecting e.1) now) ≡ others
  left-put = ap (listed_after (Some e.0)) put-now ∙ after-it e.0 others (kept w.done) (reconnecting e.1) before past

  -- it stays
  pub walked-put : is_kept_in (e.1).state ≡ true → Walked (Some e.0) begun (put e.0 (reconnecting e.1) now)
  walked-put h =
      record {
        done = w.done ++ e ∷ [];
        rest = others;
        was = was-more;
        is =
            put-now ∙ sym (append_assoc (kept w.done) ((e.0, reconnecting e.1) ∷ []) others)
            ∙ ap (λ xs. (kept w.done ++ xs) ++ others) (sym (kept-here e h))
            ∙ ap (λ xs. xs ++ others) (sym (kept-append w.done (e ∷ [])));
        left = left-put;
      }

  without-now : without e.0 now ≡ kept w.done ++ others
  without-now = ap (without e.0) now-is ∙ without-within e.0 others (kept w.done) e.1 before

  -- the others are left, where it goes
  pub left-without : listed_after (Some e.0) (without e.0 now) ≡ others
  left-without = ap (listed_after (Some e.0)) without-now ∙ after-within e.0 others (kept w.done) before past

  -- it goes
  pub walked-without : is_kept_in (e.1).state ≡ false → Walked (Some e.0) begun (without e.0 now)
  walked-without h =
      record {
        done = w.done ++ e ∷ [];
        rest = others;
        was = was-more;
        is =
            without-now
            ∙ ap (λ xs. xs ++ others) (sym (kept-append w.done (e ∷ []) ∙ ap (λ xs. kept w.done ++ xs) (kept-nowhere e h) ∙ append-nil (kept w.done)));
        left = left-without;
      }
