-- The place of the first octet of a kind, where it is known that it is none of the first.
use Rattle.std.proofs.Common.{◌≡◌, ℕ, zero, suc, ◌+◌, ◌≤◌, nat_lt, Bool, true, false, not, cond, List, [], ◌∷◌, take, drop, length, Some, None, option_map, refl, ap, arith, ◌∙◌}
use Rattle.std.proofs.lemmas.Bool.Decides.{nat_tests}
use Rattle.std.specs.List.{position, position_or_len}

behind_by :
    (b : Bool) (n seen all rest : ℕ) → (n ≤ seen → all ≡ n + rest) → suc n ≤ cond b (1 + seen) 0 →
    cond b (1 + all) 0 ≡ suc n + rest
behind_by true n seen all rest later e = let less : n ≤ seen = omega (arith, e) in let is = later less in omega (arith, is)
behind_by false n seen all rest later e = absurd (omega (arith, e))

behind :
    (p : ℕ → Bool) (n : ℕ) (xs : List ℕ) → n ≤ position_or_len p (take n xs) →
    position_or_len p xs ≡ n + position_or_len p (drop n xs)
behind p zero xs h = omega arith
behind p (suc n) [] h = absurd (omega (arith, h))
behind p (suc n) (x ∷ xs) h =
    behind_by (not (p x)) n (position_or_len p (take n xs)) (position_or_len p xs) (position_or_len p (drop n xs))
    (λ e. behind p n xs e) h

-- how many there are, of which these are the first
cut : (n : ℕ) (xs : List ℕ) → n ≤ length xs → (length (take n xs) ≡ n) × (length xs ≡ n + length (drop n xs))
cut zero xs h = (refl, omega arith)
cut (suc n) [] h = absurd (omega (arith, h))
cut (suc n) (x ∷ xs) h = let rest = cut n xs (omega (arith, h)) in (omega (arith, rest.0), omega (arith, rest.1))

none_of : (place size : ℕ) → cond (nat_lt place size) (Some place) None ≡ None → size ≤ place
none_of place size h = by (nat_lt place size) refl h
  where
    by : (b : Bool) → nat_lt place size ≡ b → cond b (Some place) None ≡ None → size ≤ place
    by true is e = absurd cc
    by false is e = grind (arith, nat_tests, is)

same_test : (n a b : ℕ) → nat_lt (n + a) (n + b) ≡ nat_lt a b
same_test n a b = grind (arith, nat_tests)

moved : (b : Bool) (n a m : ℕ) → m ≡ n + a → cond b (Some m) None ≡ option_map (λ j. n + j) (cond b (Some a) None)
moved true n a m e = ap (λ (x : ℕ). Some x) e
moved false n a m e = refl

-- the first that passes stands so far behind those that do not
pub first_behind :
    (p : ℕ → Bool) (n : ℕ) (xs : List ℕ) → n ≤ length xs → position p (take n xs) ≡ None →
    position p xs ≡ option_map (λ j. n + j) (position p (drop n xs))
first_behind p n xs within h =
    let parts = cut n xs within in
    let none = none_of (position_or_len p (take n xs)) (length (take n xs)) h in
    let place = behind p n xs (omega (arith, parts.0, none)) in
    let a = position_or_len p (drop n xs) in
    let test : nat_lt (position_or_len p xs) (length xs) ≡ nat_lt a (length (drop n xs)) =
    ap (λ (m : ℕ). nat_lt m (length xs)) place ∙ ap (λ (m : ℕ). nat_lt (n + a) m) parts.1 ∙ same_test n a (length (drop n xs)) in
    ap (λ (b : Bool). cond b (Some (position_or_len p xs)) None) test
    ∙ moved (nat_lt a (length (drop n xs))) n a (position_or_len p xs) place
