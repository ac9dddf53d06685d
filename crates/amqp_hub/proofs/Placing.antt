-- The places of the entries of passes: what an entry more, a count more and new passes leave of them.
use Rattle.std.proofs.Common.{◌≡◌, ◌⊎◌, inl, inr, ◌≤◌, ◌<◌, ℕ, zero, suc, ◌+◌, ◌-◌, ◌==◌, nat_lt, Bool, true, false, if◌then◌else◌, List, [], ◌∷◌, ◌++◌, get_or, set, length, replicate, Option, Some, None, Result, Err, slice_get, refl, ap, sym, ◌∙◌, subst, arith}
use Rattle.std.specs.Prelude.{All}
use Rattle.std.proofs.lemmas.List.{get_or-set_same, get_or-set_other}
use Rattle.std.proofs.lemmas.List.Elements.{All-weaker}
use Rattle.std.proofs.lemmas.Option.{slice_get_within, get_or_from_slice_get}
use Rattle.std.proofs.lemmas.Bool.Decides.{nat_tests}
use Rattle.amqp_types.proofs.Small.{if-true, if-false}
use Rattle.std.specs.Option.{option_or}
use Rattle.amqp_promise.specs.declared.error.ErrorKind.{ErrorKind}
use Rattle.amqp_promise.specs.declared.error.ErrorKind.TheVariants.{ForeignPass}
use Rattle.amqp_commands.specs.declared.command.Cmd.{Cmd}
use Rattle.amqp_journal.specs.declared.entry.Entry.{Entry}
use Rattle.amqp_journal.specs.declared.entry.Entry.TheVariants.{Turn, Called, Own}
use Rattle.amqp_hub.specs.declared.hub.Pass.{Pass}
use Rattle.amqp_hub.specs.Passes.{own_place, places, gapless, count_of, made_of, set_made, AreNew, foreign, foreign_by, first_foreign, IsForeign}

-- ---- numbers without a gap

-- after a number, up to itself, there is none
pub none-after : (n : ℕ) → gapless n n ≡ []
none-after zero = refl
none-after (suc n) = if-false (nat_lt (suc n) (suc n)) (gapless (suc n) n ++ suc n ∷ []) [] (grind (arith, nat_tests))

-- one more
pub one-more : (low high k : ℕ) → k ≡ suc high → low ≤ high → gapless low k ≡ gapless low high ++ k ∷ []
one-more low high zero same below = cc
one-more low high (suc n) same below =
    let is : n ≡ high = omega (arith, same) in
    let P : ℕ → Type 0 = λ m. gapless low (suc n) ≡ gapless low m ++ suc n ∷ [] in
    subst P is (if-true (nat_lt low (suc n)) (gapless low n ++ suc n ∷ []) [] (grind (arith, nat_tests, below, is)))

-- ---- the places of an entry more

append-none : (xs : List ℕ) → xs ++ [] ≡ xs
append-none [] = refl
append-none (x ∷ xs) = ap (λ ys. x ∷ ys) (append-none xs)

append-three : (xs ys zs : List ℕ) → xs ++ (ys ++ zs) ≡ (xs ++ ys) ++ zs
append-three [] ys zs = refl
append-three (x ∷ xs) ys zs = ap (λ us. x ∷ us) (append-three xs ys zs)

places-append : (p : ℕ) (es : List Entry) (e : Entry) → places p (es ++ e ∷ []) ≡ places p es ++ own_place p e
places-append p [] e = append-none (own_place p e)
places-append p (x ∷ xs) e = ap (λ ys. own_place p x ++ ys) (places-append p xs e) ∙ append-three (own_place p x) (places p xs) (own_place p e)

-- of an entry that is no caller's
pub places-quiet : (p : ℕ) (e : Entry) (j : List Entry) → own_place p e ≡ [] → places p (j ++ e ∷ []) ≡ places p j
places-quiet p e j none = places-append p j e ∙ ap (λ ys. places p j ++ ys) none ∙ append-none (places p j)

-- of an entry of the pass
pub places-own : (p k : ℕ) (c : Cmd) (o : Option ℕ) (j : List Entry) → places p (j ++ Called p k c o ∷ []) ≡ places p j ++ k ∷ []
places-own p k c o j =
    places-append p j (Called p k c o) ∙ ap (λ ys. places p j ++ ys) (if-true (p == p) (k ∷ []) [] (grind (arith, nat_tests)))

-- of an entry of another
pub places-other : (p q k : ℕ) (c : Cmd) (o : Option ℕ) (j : List Entry) → (q == p) ≡ false → places p (j ++ Called q k c o ∷ []) ≡ places p j
places-other p q k c o j apart = places-quiet p (Called q k c o) j (if-false (q == p) (k ∷ []) [] apart)

-- ---- counts

-- the count that was set is the pass's
pub made-same : (q n k : ℕ) (counts : List ℕ) → count_of q counts ≡ Some n → (made_of q counts ≡ n) × (made_of q (set_made q k counts) ≡ k)
made-same zero n k counts h = cc
made-same (suc q) n k counts h = (get_or_from_slice_get counts q n 0 h, get_or-set_same counts q k 0 (slice_get_within counts q n h))

-- and no other's
pub made-other : (q p k : ℕ) (counts : List ℕ) → (p ≡ q → ⊥) → made_of p (set_made q k counts) ≡ made_of p counts
made-other zero p k counts apart = refl
made-other (suc q) zero k counts apart = refl
made-other (suc q) (suc p) k counts apart = get_or-set_other counts q p k 0 (λ same. apart (ap suc same))

-- new passes change no count
pub made-zeros : (p n : ℕ) (counts : List ℕ) → made_of p (counts ++ replicate n 0) ≡ made_of p counts
made-zeros zero n counts = refl
made-zeros (suc p) n counts = by p counts where
  none : (p n : ℕ) → ◌≡◌ {A = ℕ} (get_or (replicate n 0) p 0) 0
  none p zero = refl
  none zero (suc n) = refl
  none (suc p) (suc n) = none p n

  by : (p : ℕ) (counts : List ℕ) → get_or (counts ++ replicate n 0) p 0 ≡ get_or counts p 0
  by p [] = none p n
  by zero (c ∷ cs) = refl
  by (suc p) (c ∷ cs) = by p cs

pub length-more : {A : Type 0} (xs : List A) (x : A) → length (xs ++ x ∷ []) ≡ length xs + 1
length-more [] x = refl
length-more (y ∷ ys) x = omega (arith, length-more ys x)

-- a pass more is new
pub new-more : (before : ℕ) (ps : List Pass) (p : Pass) → AreNew before ps → p.number ≡ before + length ps + 1 → p.made ≡ 0 → AreNew before (ps ++ p ∷ [])
new-more before [] p new number made = (omega (arith, number), made, tt)
new-more before (q ∷ qs) p new number made = (new.0, new.1, new-more (before + 1) qs p new.2 (omega (arith, number)) made)

-- no pass has made anything where there is none
pub made-none : (p : ℕ) → made_of p [] ≡ 0
made-none zero = refl
made-none (suc p) = refl

-- ---- a command of a pass

-- the places have no gap then either
pub placed-called : (low : List ℕ) (q n k : ℕ) (c : Cmd) (o : Option ℕ) (j : List Entry) (counts : List ℕ) → count_of q counts ≡ Some n → k ≡ suc n
    → ((p : ℕ) → places p j ≡ gapless (made_of p low) (made_of p counts)) → ((p : ℕ) → made_of p low ≤ made_of p counts)
    → (p : ℕ) → places p (j ++ Called q k c o ∷ []) ≡ gapless (made_of p low) (made_of p (set_made q k counts))
placed-called low q n k c o j counts home next placed counted p = by (q == p) refl where
  by : (b : Bool) → (q == p) ≡ b → places p (j ++ Called q k c o ∷ []) ≡ gapless (made_of p low) (made_of p (set_made q k counts))
  by true e =
      let s : q ≡ p = grind (arith, nat_tests) in
      let P : ℕ → Type 0 = λ i. places i (j ++ Called q k c o ∷ []) ≡ gapless (made_of i low) (made_of i (set_made q k counts)) in
      let both = made-same q n k counts home in
      let L : ℕ = made_of q low in
      let below : L ≤ n = let Q : ℕ → Type 0 = λ m. L ≤ m in subst Q both.0 (counted q) in
      subst P s (places-own q k c o j ∙ ap (λ ys. ys ++ k ∷ []) (placed q ∙ ap (gapless L) both.0)
      ∙ sym (ap (gapless L) both.1 ∙ one-more L n k next below))
  by false e =
      let apart : p ≡ q → ⊥ = λ t. grind (arith, nat_tests) in
      places-other p q k c o j e ∙ placed p ∙ ap (gapless (made_of p low)) (sym (made-other q p k counts apart))

pub counted-called : (low : List ℕ) (q n k : ℕ) (counts : List ℕ) → count_of q counts ≡ Some n → k ≡ suc n → ((p : ℕ) → made_of p low ≤ made_of p counts)
    → (p : ℕ) → made_of p low ≤ made_of p (set_made q k counts)
counted-called low q n k counts home next counted p = by (q == p) refl where
  by : (b : Bool) → (q == p) ≡ b → made_of p low ≤ made_of p (set_made q k counts)
  by true e =
      let s : q ≡ p = grind (arith, nat_tests) in
      let P : ℕ → Type 0 = λ i. made_of i low ≤ made_of i (set_made q k counts) in
      let both = made-same q n k counts home in
      subst P s (omega (arith, counted q, both.0, both.1, next))
  by false e =
      let apart : p ≡ q → ⊥ = λ t. grind (arith, nat_tests) in
      omega (arith, counted p, made-other q p k counts apart)

-- ---- passes of a hub have their places

pub all-placed : (low : List ℕ) (j : List Entry) (counts : List ℕ) (ps : List Pass) → ((p : ℕ) → places p j ≡ gapless (made_of p low) (made_of p counts))
    → All (λ (p : Pass). count_of p.number counts ≡ Some p.made) ps → All (λ (p : Pass). places p.number j ≡ gapless (made_of p.number low) p.made) ps
all-placed low j counts ps placed all =
    All-weaker (λ (p : Pass). count_of p.number counts ≡ Some p.made) (λ (p : Pass). places p.number j ≡ gapless (made_of p.number low) p.made)
    (λ p home. placed p.number ∙ ap (gapless (made_of p.number low)) (made-same p.number p.made p.made counts home).0) ps all

-- ---- what makes a receipt

last : (j : List Entry) (x : Entry) → slice_get (j ++ x ∷ []) (length j) ≡ Some x
last [] x = refl
last (y ∷ j) x = last j x

-- the entry that went last stands at the index after all others
pub stands-last : (entries entry : ℕ) (j j' : List Entry) (x : Entry) → j' ≡ j ++ x ∷ [] → entry ≡ entries + length j → slice_get j' (entry - entries) ≡ Some x
stands-last entries entry j j' x hj is =
    let P : List Entry → ℕ → Type 0 = λ ys i. slice_get ys i ≡ Some x in
    let at : entry - entries ≡ length j = omega (arith, is) in
    subst (λ ys. P ys (entry - entries)) (sym hj) (subst (λ i. P (j ++ x ∷ []) i) (sym at) (last j x))

-- and its pass has all places up to its own
pub placed-last : (q n k low : ℕ) (c : Cmd) (o : Option ℕ) (j j' : List Entry) → j' ≡ j ++ Called q k c o ∷ [] → k ≡ n + 1 → places q j ≡ gapless low n → low ≤ n
    → places q j' ≡ gapless low k
placed-last q n k low c o j j' hj next placed below =
    ap (places q) hj ∙ places-own q k c o j ∙ ap (λ ys. ys ++ k ∷ []) placed ∙ sym (one-more low n k (omega (arith, next)) below)

-- ---- why a pass is not of a hub

-- it is ForeignPass
by-kind : (number made : ℕ) (o : Option ℕ) (e : ErrorKind) → foreign_by number made o ≡ Some e → e ≡ ForeignPass number made o
by-kind number made None e h = cc
by-kind number made (Some n) e h = by (n == made) h where
  by : (b : Bool) → (if b then None else Some (ForeignPass number made (Some n))) ≡ Some e → e ≡ ForeignPass number made (Some n)
  by true g = absurd cc
  by false g = cc

first-kind : (ps : List Pass) (counts : List ℕ) (e : ErrorKind) → first_foreign ps counts ≡ Some e → (n : ℕ) × (m : ℕ) × (o : Option ℕ) × (e ≡ ForeignPass n m o)
first-kind [] counts e h = absurd cc
first-kind (p ∷ ps) counts e h = by (foreign p counts) refl h (first-kind ps counts e) where
  by : (why : Option ErrorKind) → foreign p counts ≡ why → option_or why (first_foreign ps counts) ≡ Some e
      → (first_foreign ps counts ≡ Some e → (n : ℕ) × (m : ℕ) × (o : Option ℕ) × (e ≡ ForeignPass n m o)) → (n : ℕ) × (m : ℕ) × (o : Option ℕ) × (e ≡ ForeignPass n m o)
  by None is g later = later g
  by (Some k) is g later = (p.number, p.made, count_of p.number counts, by-kind p.number p.made (count_of p.number counts) e (is ∙ g))

pub is-foreign : (A : Type 0) (ps : List Pass) (counts : List ℕ) (e : ErrorKind) → first_foreign ps counts ≡ Some e
    → IsForeign {A = A} (first_foreign ps counts) (Err e)
is-foreign A ps counts e h =
    let kind = first-kind ps counts e h in
    let P : ErrorKind → Type 0 = λ k. first_foreign ps counts ≡ Some k → IsForeign {A = A} (first_foreign ps counts) (Err k) in
    subst P (sym kind.3) (λ g. g) h

-- the passes of which none was foreign so far
pub foreign-rest : (p : Pass) (ps : List Pass) (counts : List ℕ) → foreign p counts ≡ None → first_foreign (p ∷ ps) counts ≡ first_foreign ps counts
foreign-rest p ps counts none = ap (λ (o : Option ErrorKind). option_or o (first_foreign ps counts)) none
