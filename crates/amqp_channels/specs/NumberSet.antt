-- A set of numbers as the code keeps it: a bit for each, in words of 64 bits.
use Rattle.std.specs.Prelude.{◌≡◌, ℕ, ◌/◌, ◌%◌, ◌==◌, ◌≤◌, Bool, true, List, slice_index_or}
use Rattle.std.specs.Int.{bit_at}

-- a number is in the set: its word is there, and its bit is 1
abbrev pub is_member : List ℕ → ℕ → Bool
is_member words n = bit_at (slice_index_or words (n / 64) 0) (n % 64) == 1

-- every number from 1 up to this one is in the set
abbrev pub HasUpTo : ℕ → List ℕ → Type 0
HasUpTo m words = (n : ℕ) → 1 ≤ n → n ≤ m → is_member words n ≡ true
