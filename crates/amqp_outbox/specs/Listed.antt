-- Finite maps from numbers, as lists of their entries in ascending order.
use Rattle.std.specs.Prelude.{ℕ, List, Option}
use Rattle.std.specs.Ordering.{nat_cmp}
use Rattle.std.specs.List.Sorted.{IsStrictlySortedBy}
use Rattle.std.specs.Map.{keys_of, lookup, remove_entry}
use Rattle.std.specs.BTreeMap.{insert_entry, is_at}

-- what a map has at a number
abbrev pub at : {X : Type 0} → ℕ → List (ℕ × X) → Option X
at n entries = lookup (is_at (nat_cmp n)) entries

-- a map with a value at a number, in place of what it had there
abbrev pub put : {X : Type 0} → ℕ → X → List (ℕ × X) → List (ℕ × X)
put n x entries = insert_entry nat_cmp entries n x

-- a map without a number
abbrev pub without : {X : Type 0} → ℕ → List (ℕ × X) → List (ℕ × X)
without n entries = remove_entry (is_at (nat_cmp n)) entries

-- the numbers of a map ascend
abbrev pub Ascends : {X : Type 0} → List (ℕ × X) → Type 0
Ascends entries = IsStrictlySortedBy nat_cmp (keys_of entries)
