-- What a map has at a number, once another was taken out.
use Rattle.std.proofs.Common.{◌≡◌, ◌≢◌, ◌<◌, ◌==◌, ℕ, Bool, true, false, List, [], ◌∷◌, Some, refl, ap, sym, ◌∙◌, cond, arith}
use Rattle.std.proofs.lemmas.Bool.Decides.{nat_tests}
use Rattle.std.specs.Ordering.{nat_cmp}
use Rattle.std.specs.BTreeMap.{is_at}
use Rattle.std.specs.Cmp.{unsigned_tied}
use Rattle.amqp_maps.specs.Listed.{at, without}

is_other : (k m : ℕ) → k ≢ m → is_at (nat_cmp k) m ≡ false
is_other k m apart =
    let test : (k == m) ≡ false = grind (arith, nat_tests) in
    unsigned_tied k m ∙ test

is_same : (k m : ℕ) → is_at (nat_cmp k) m ≡ true → k ≡ m
is_same k m h =
    let test : (k == m) ≡ true = sym (unsigned_tied k m) ∙ h in
    grind (arith, nat_tests)

module _ {X : Type 0} (n k : ℕ) where
  at-without_first : (b : Bool) (e : ℕ × X) (es : List (ℕ × X)) → n < k → is_at (nat_cmp n) e.0 ≡ b
      → at k (without n es) ≡ at k es
      → at k (cond b es (e ∷ without n es)) ≡ at k (e ∷ es)
  at-without_first true e es above first rest =
      let same : n ≡ e.0 = is_same n e.0 first in
      let other : is_at (nat_cmp k) e.0 ≡ false = is_other k e.0 (λ h. omega (arith, h, same, above)) in
      sym (ap (λ (b : Bool). cond b (Some e.1) (at k es)) other)
  at-without_first false e es above first rest =
      ap (cond (is_at (nat_cmp k) e.0) (Some e.1)) rest

  -- a number above the one that was taken out
  pub at-without : (es : List (ℕ × X)) → n < k → at k (without n es) ≡ at k es
  at-without [] above = refl
  at-without (e ∷ es) above = at-without_first (is_at (nat_cmp n) e.0) e es above refl (at-without es above)
