-- What is left of octets that stand in a row once the first of them were given.
use Rattle.std.proofs.Common.{◌≡◌, ◌≤◌, ◌-◌, ◌+◌, ℕ, List, take, drop, sym, ◌∙◌, ap, arith}
use Rattle.std.proofs.lemmas.List.{drop-take, drop-drop}

pub left-over : (xs : List ℕ) (from kept n : ℕ) → n ≤ kept
    → take (kept - n) (drop (from + n) xs) ≡ drop n (take kept (drop from xs))
left-over xs from kept n h =
    let whole : n + (kept - n) ≡ kept = omega arith in
    sym (ap (take (kept - n)) (drop-drop n from xs))
    ∙ sym (drop-take n (kept - n) (drop from xs))
    ∙ ap (λ (k : ℕ). drop n (take k (drop from xs))) whole
