-- Of no channel is anything known at first.
use Rattle.std.proofs.Common.{◌≡◌, ◌≤◌, ◌∙◌, ap, refl, ℕ, nat_lt, Bool, true, false, List, slice_index_or, replicate}
use Rattle.std.proofs.lemmas.List.{get_or-replicate, get_or_past, length-replicate}
use Rattle.std.proofs.lemmas.Bool.{ltb-true, ltb-false}

unset-at : (n k : ℕ) → slice_index_or (replicate n false) k false ≡ false
unset-at n k = by (nat_lt k n) refl where
  by : (b : Bool) → nat_lt k n ≡ b → slice_index_or (replicate n false) k false ≡ false
  by true e = get_or-replicate n k false false (ltb-true _ _ e)
  by false e = get_or_past (replicate n false) k false (let h : n ≤ k = ltb-false _ _ e in rw length-replicate h)

abbrev pub known_in : List Bool → ℕ → Bool
known_in xs k = slice_index_or xs k false

pub none-known : (n : ℕ) (xs : List Bool) → xs ≡ replicate n false → known_in xs ≡ (λ k. false)
none-known n xs is = ap known_in is ∙ (λ i k. unset-at n k i)
