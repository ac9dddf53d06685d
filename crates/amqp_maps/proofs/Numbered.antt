-- Maps from numbers: what they have at one, once another was put or taken away.
use Rattle.std.proofs.Common.{◌≡◌, ◌≢◌, ◌<◌, ◌∙◌, ap, sym, refl, subst, ℕ, true, false, cond, List, [], ◌∷◌, Some, None}
use Rattle.std.specs.declared.cmp.Ordering.{Ordering}
use Rattle.std.specs.declared.cmp.Ordering.TheVariants.{Less, Equal, Greater}
use Rattle.std.specs.Ordering.{nat_cmp, is_eq, match_ordering, MatchOrdering}
use Rattle.std.specs.Cmp.{ranks, nat_cmp_total}
use Rattle.std.specs.BTreeMap.{is_at}
use Rattle.std.specs.List.{AllByRecursion}
use Rattle.std.specs.Map.{keys_of}
use Rattle.std.proofs.lemmas.Map.{lookup-none}
use Rattle.std.proofs.lemmas.Map.Entries.{none_below_head}
use Rattle.std.proofs.lemmas.Map.Keys.{sorted_head, sorted_tail}
use Rattle.amqp_outbox.specs.Listed.{Ascends}
use Rattle.amqp_outbox.proofs.Maps.{without-absent}
use Rattle.amqp_maps.specs.Listed.{at, put, without}
use Rattle.amqp_types.proofs.Small.{nat_cmp_self}

means : (x y : ℕ) (o : Ordering) → nat_cmp x y ≡ o → MatchOrdering o (x < y) (x ≡ y) (y < x)
means x y o h =
    let Q : Ordering → Type 0 = λ r. MatchOrdering r (x < y) (x ≡ y) (y < x) in subst Q h (ranks x y)

other : (o : Ordering) (m n : ℕ) → nat_cmp m n ≡ o → m ≢ n → is_eq o ≡ false
other Less m n h ne = refl
other Equal m n h ne = absurd (ne (means m n Equal h))
other Greater m n h ne = refl

-- whether a number is the one that is asked for
pub is_itself : (k n : ℕ) → n ≡ k → is_at (nat_cmp k) n ≡ true
is_itself k n e = ap (λ m. is_eq (nat_cmp k m)) e ∙ ap is_eq (nat_cmp_self k)

pub is_other : (k n : ℕ) → n ≢ k → is_at (nat_cmp k) n ≡ false
is_other k n ne = other (nat_cmp k n) k n refl (λ e. ne (sym e))

module _ {X : Type 0} where
  -- what stands first is there, and no other number
  pub at-first : (n : ℕ) (x : X) (es : List (ℕ × X)) → at n ((n, x) ∷ es) ≡ Some x
  at-first n x es = ap (λ o. cond (is_eq o) (Some x) (at n es)) (nat_cmp_self n)

  pub at-later : (m n : ℕ) (x : X) (es : List (ℕ × X)) → m ≢ n → at m ((n, x) ∷ es) ≡ at m es
  at-later m n x es ne = ap (λ b. cond b (Some x) (at m es)) (other (nat_cmp m n) m n refl ne)

  pub put-same-by : (o : Ordering) (n : ℕ) (x : X) (e : ℕ × X) (es : List (ℕ × X)) → nat_cmp n e.0 ≡ o → at n (put n x es) ≡ Some x
      → at n (match_ordering o ((n, x) ∷ e ∷ es) ((e.0, x) ∷ es) (e ∷ put n x es)) ≡ Some x
  put-same-by Less n x e es h rest = ap (λ o. cond (is_eq o) (Some x) (at n (e ∷ es))) (nat_cmp_self n)
  put-same-by Equal n x e es h rest = ap (λ o. cond (is_eq o) (Some x) (at n es)) h
  put-same-by Greater n x e es h rest = ap (λ o. cond (is_eq o) (Some e.1) (at n (put n x es))) h ∙ rest

  pub put-same : (n : ℕ) (x : X) (es : List (ℕ × X)) → at n (put n x es) ≡ Some x
  put-same n x [] = ap (λ o. cond (is_eq o) (Some x) (at n [])) (nat_cmp_self n)
  put-same n x (e ∷ es) = put-same-by (nat_cmp n e.0) n x e es refl (put-same n x es)

  pub put-other-by : (o : Ordering) (m n : ℕ) (x : X) (e : ℕ × X) (es : List (ℕ × X)) → m ≢ n → nat_cmp n e.0 ≡ o → at m (put n x es) ≡ at m es
      → at m (match_ordering o ((n, x) ∷ e ∷ es) ((e.0, x) ∷ es) (e ∷ put n x es)) ≡ at m (e ∷ es)
  put-other-by Less m n x e es ne h rest = ap (λ b. cond b (Some x) (at m (e ∷ es))) (other (nat_cmp m n) m n refl ne)
  put-other-by Equal m n x e es ne h rest =
      let is : n ≡ e.0 = means n e.0 Equal h in
      let differs : m ≢ e.0 = λ k. ne (k ∙ sym is) in
      let no : is_eq (nat_cmp m e.0) ≡ false = other (nat_cmp m e.0) m e.0 refl differs in
      ap (λ b. cond b (Some x) (at m es)) no ∙ sym (ap (λ b. cond b (Some e.1) (at m es)) no)
  put-other-by Greater m n x e es ne h rest = ap (λ o. cond (is_eq (nat_cmp m e.0)) (Some e.1) o) rest

  pub put-other : (m n : ℕ) (x : X) (es : List (ℕ × X)) → m ≢ n → at m (put n x es) ≡ at m es
  put-other m n x [] ne = ap (λ b. cond b (Some x) (at m [])) (other (nat_cmp m n) m n refl ne)
  put-other m n x (e ∷ es) ne = put-other-by (nat_cmp n e.0) m n x e es ne refl (put-other m n x es ne)

  without-other-by : (o : Ordering) (m n : ℕ) (e : ℕ × X) (es : List (ℕ × X)) → m ≢ n → nat_cmp n e.0 ≡ o → at m (without n es) ≡ at m es
      → at m (cond (is_eq o) es (e ∷ without n es)) ≡ at m (e ∷ es)
  without-other-by Less m n e es ne h rest = ap (λ o. cond (is_eq (nat_cmp m e.0)) (Some e.1) o) rest
  without-other-by Equal m n e es ne h rest =
      let differs : m ≢ e.0 = λ k. ne (k ∙ sym (means n e.0 Equal h)) in
      sym (ap (λ b. cond b (Some e.1) (at m es)) (other (nat_cmp m e.0) m e.0 refl differs))
  without-other-by Greater m n e es ne h rest = ap (λ o. cond (is_eq (nat_cmp m e.0)) (Some e.1) o) rest

  pub without-other : (m n : ℕ) (es : List (ℕ × X)) → m ≢ n → at m (without n es) ≡ at m es
  without-other m n [] ne = refl
  without-other m n (e ∷ es) ne = without-other-by (nat_cmp n e.0) m n e es ne refl (without-other m n es ne)

-- ---- a number that goes, where the numbers ascend

module _ {X : Type 0} (n : ℕ) where
  below-all : (es : List (ℕ × X)) → AllByRecursion (λ k. nat_cmp n k ≡ Less) (keys_of es) → at n es ≡ None
  below-all [] above = refl
  below-all (e ∷ es) above = ap (λ o. cond (is_eq o) (Some e.1) (at n es)) above.0 ∙ below-all es above.1

  -- it is gone
  pub without-gone : (es : List (ℕ × X)) → Ascends es → at n (without n es) ≡ None
  without-gone [] sorted = refl
  without-gone (e ∷ es) sorted = by (nat_cmp n e.0) refl (without-gone es (sorted_tail nat_cmp e.0 (keys_of es) sorted)) where
    by : (o : Ordering) → nat_cmp n e.0 ≡ o → at n (without n es) ≡ None → at n (cond (is_eq o) es (e ∷ without n es)) ≡ None
    by Less is rest = ap (λ o. cond (is_eq o) (Some e.1) (at n (without n es))) is ∙ rest
    by Greater is rest = ap (λ o. cond (is_eq o) (Some e.1) (at n (without n es))) is ∙ rest
    by Equal is rest =
        let Q : ℕ → Type 0 = λ m. AllByRecursion (λ k. nat_cmp m k ≡ Less) (keys_of es) in
        below-all es (subst Q (sym (means n e.0 Equal is)) (sorted_head nat_cmp e.0 (keys_of es) sorted))

  -- what was put there before is gone with it
  pub without-put : (x : X) (es : List (ℕ × X)) → Ascends es → without n (put n x es) ≡ without n es
  without-put x [] sorted = ap (λ o. cond (is_eq o) [] ((n, x) ∷ [])) (nat_cmp_self n)
  without-put x (e ∷ es) sorted = by (nat_cmp n e.0) refl (without-put x es (sorted_tail nat_cmp e.0 (keys_of es) sorted)) where
    by : (o : Ordering) → nat_cmp n e.0 ≡ o → without n (put n x es) ≡ without n es
        → without n (match_ordering o ((n, x) ∷ e ∷ es) ((e.0, x) ∷ es) (e ∷ put n x es)) ≡ cond (is_eq o) es (e ∷ without n es)
    by Less is rest =
        let none : at n (e ∷ es) ≡ None = lookup-none (is_at (nat_cmp n)) (e ∷ es) (none_below_head nat_cmp_total n e es sorted is) in
        ap (λ o. cond (is_eq o) (e ∷ es) ((n, x) ∷ without n (e ∷ es))) (nat_cmp_self n)
        ∙ sym (without-absent n (e ∷ es) none) ∙ ap (λ o. cond (is_eq o) es (e ∷ without n es)) is
    by Equal is rest = ap (λ o. cond (is_eq o) es ((e.0, x) ∷ without n es)) is
    by Greater is rest = ap (λ o. cond (is_eq o) (put n x es) (e ∷ without n (put n x es))) is ∙ ap (λ ys. e ∷ ys) rest
