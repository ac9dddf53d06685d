-- Two slices that are taken one after the other.
use Rattle.std.proofs.Common.{◌≡◌, ℕ, zero, suc, ◌-◌, min, List, [], ◌∷◌, ◌++◌, length, take, refl, ap, ◌∙◌, arith}
use Rattle.std.proofs.lemmas.Grind.{common_steps}

pub take-both : (n : ℕ) (xs ys : List ℕ) → take (min n (length xs)) xs ++ take (n - min n (length xs)) ys ≡ take n (xs ++ ys)
take-both n [] ys = grind (arith, common_steps)
take-both zero (x ∷ xs) ys = grind (arith, common_steps)
take-both (suc n) (x ∷ xs) ys =
    let later = take-both n xs ys in
    let one : min (suc n) (suc (length xs)) ≡ suc (min n (length xs)) = omega arith in
    let rest : suc n - min (suc n) (suc (length xs)) ≡ n - min n (length xs) = omega arith in
    ap (λ k. take k (x ∷ xs) ++ take (suc n - min (suc n) (suc (length xs))) ys) one
    ∙ ap (λ k. take (suc (min n (length xs))) (x ∷ xs) ++ take k ys) rest ∙ ap (λ zs. x ∷ zs) later

pub append_nil : (xs : List ℕ) → xs ++ [] ≡ xs
append_nil [] = refl
append_nil (x ∷ xs) = ap (λ ys. x ∷ ys) (append_nil xs)
