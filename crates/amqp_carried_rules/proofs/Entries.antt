-- What holds of each entry of a map.
use Rattle.std.proofs.Common.{◌≢◌, ◌∙◌, ◌≡◌, ap, sym, subst, refl, ℕ, Bool, true, false, cond, List, [], ◌∷◌, map, Option, Some, None}
use Rattle.std.specs.Prelude.{filter, unwrap_or}
use Rattle.std.specs.List.{AllByRecursion}
use Rattle.std.specs.declared.cmp.Ordering.{Ordering}
use Rattle.std.specs.declared.cmp.Ordering.TheVariants.{Less, Equal, Greater}
use Rattle.std.specs.Ordering.{nat_cmp, is_eq, match_ordering}
use Rattle.std.specs.BTreeMap.{is_at}
use Rattle.std.specs.Map.{keys_of}
use Rattle.amqp_outbox.proofs.Cases.{equal-from}
use Rattle.amqp_maps.specs.Listed.{at, put, without}
use Rattle.amqp_rules.specs.Sound.{Ascend}
use Rattle.amqp_rules.proofs.Ascending.{at-gone}
use Rattle.amqp_maps.proofs.Numbered.{at-first}

-- this holds of each entry
abbrev pub Each : {X : Type 0} → (ℕ → X → Type 0) → List (ℕ × X) → Type 0
Each P es = AllByRecursion (λ e. P e.0 e.1) es

module _ {X : Type 0} (P : ℕ → X → Type 0) where
  -- one more is put
  pub each-put : (n : ℕ) (x : X) (es : List (ℕ × X)) → P n x → Each P es → Each P (put n x es)
  each-put n x [] one all = (one, tt)
  each-put n x (e ∷ es) one all = by (nat_cmp n e.0) refl (each-put n x es one all.1) where
    by : (o : Ordering) → nat_cmp n e.0 ≡ o → Each P (put n x es) → Each P (match_ordering o ((n, x) ∷ e ∷ es) ((e.0, x) ∷ es) (e ∷ put n x es))
    by Less is rest = (one, all)
    by Equal is rest = (subst (λ m. P m x) (equal-from n e.0 is) one, all.1)
    by Greater is rest = (all.0, rest)

  -- one goes
  pub each-without : (n : ℕ) (es : List (ℕ × X)) → Each P es → Each P (without n es)
  each-without n [] all = tt
  each-without n (e ∷ es) all = by (is_at (nat_cmp n) e.0) (each-without n es all.1) where
    by : (b : Bool) → Each P (without n es) → Each P (cond b es (e ∷ without n es))
    by true rest = all.1
    by false rest = (all.0, rest)

  -- so it holds of what is at a number
  pub each-at : (n : ℕ) (es : List (ℕ × X)) (x : X) → Each P es → at n es ≡ Some x → P n x
  each-at n [] x all is = absurd cc
  each-at n (e ∷ es) x all is = by (nat_cmp n e.0) refl is (each-at n es x all.1) where
    by : (o : Ordering) → nat_cmp n e.0 ≡ o → cond (is_eq o) (Some e.1) (at n es) ≡ Some x → (at n es ≡ Some x → P n x) → P n x
    by Equal here h rest =
        let same : e.1 ≡ x = cc in
        subst (λ y. P n y) same (subst (λ m. P m e.1) (sym (equal-from n e.0 here)) all.0)
    by Less here h rest = rest h
    by Greater here h rest = rest h

  -- each changes
  pub each-map : (f : ℕ → X → X) → ((n : ℕ) (x : X) → P n x → P n (f n x)) → (es : List (ℕ × X)) → Each P es → Each P (map (λ e. (e.0, f e.0 e.1)) es)
  each-map f keeps [] all = tt
  each-map f keeps (e ∷ es) all = (keeps e.0 e.1 all.0, each-map f keeps es all.1)

  -- some go
  pub each-filter : (p : ℕ × X → Bool) (es : List (ℕ × X)) → Each P es → Each P (filter p es)
  each-filter p [] all = tt
  each-filter p (e ∷ es) all = by (p e) (each-filter p es all.1) where
    by : (b : Bool) → Each P (filter p es) → Each P (cond b (e ∷ filter p es) (filter p es))
    by true rest = (all.0, rest)
    by false rest = rest

  module _ (Q : ℕ → X → Type 0) where
    -- and what follows from it
    pub each-then : ((n : ℕ) (x : X) → P n x → Q n x) → (es : List (ℕ × X)) → Each P es → Each Q es
    each-then f [] all = tt
    each-then f (e ∷ es) all = (f e.0 e.1 all.0, each-then f es all.1)

-- what holds of each of a list, what follows from it does too
pub all-then : {X : Type 0} (P Q : X → Type 0) → ((x : X) → P x → Q x) → (xs : List X) → AllByRecursion P xs → AllByRecursion Q xs
all-then P Q f [] all = tt
all-then P Q f (x ∷ xs) all = (f x all.0, all-then P Q f xs all.1)

-- what holds of each of the lists of a map holds of each of that at a number, where there is none of no element
pub each-list : {Y : Type 0} (Q : ℕ → Y → Type 0) (n : ℕ) (es : List (ℕ × List Y)) → Each (λ m list. AllByRecursion (Q m) list) es → AllByRecursion (Q n) (unwrap_or (at n es) [])
each-list {Y} Q n es all = by (at n es) refl where
  by : (o : Option (List Y)) → at n es ≡ o → AllByRecursion (Q n) (unwrap_or o [])
  by None is = tt
  by (Some list) is = each-at (λ m list. AllByRecursion (Q m) list) n es list all is

-- ---- an entry that goes, where the numbers ascend

-- each number that a map has is there
pub keys-there : {X : Type 0} (es : List (ℕ × X)) → Each (λ m (x : X). at m es ≡ None → ⊥) es
keys-there [] = tt
keys-there {X} (e ∷ es) =
    (here, each-then (λ m (x : X). at m es ≡ None → ⊥) (λ m (x : X). at m (e ∷ es) ≡ None → ⊥) (λ m x there. later (is_at (nat_cmp m) e.0) m there) es (keys-there es))
  where
    here : at e.0 (e ∷ es) ≡ None → ⊥
    here none = (let first : at e.0 (e ∷ es) ≡ Some e.1 = at-first e.0 e.1 es in let clash : Some e.1 ≡ None = sym first ∙ none in cc)

    later : (b : Bool) (m : ℕ) → (at m es ≡ None → ⊥) → cond b (Some e.1) (at m es) ≡ None → ⊥
    later true m there none = cc
    later false m there none = there none

-- what is left has other numbers
pub each-gone : {X : Type 0} (n : ℕ) (es : List (ℕ × X)) → Ascend (keys_of es) → Each (λ m (x : X). m ≢ n) (without n es)
each-gone {X} n es sorted =
    each-then (λ m (x : X). at m (without n es) ≡ None → ⊥) (λ m (x : X). m ≢ n)
    (λ m x there same. there (ap (λ k. at k (without n es)) same ∙ at-gone n es sorted)) (without n es) (keys-there (without n es))

-- two things hold of each
pub each-both : {X : Type 0} (P Q R : ℕ → X → Type 0) → ((n : ℕ) (x : X) → P n x → Q n x → R n x) → (es : List (ℕ × X)) → Each P es → Each Q es → Each R es
each-both P Q R f [] all more = tt
each-both P Q R f (e ∷ es) all more = (f e.0 e.1 all.0 more.0, each-both P Q R f es all.1 more.1)
