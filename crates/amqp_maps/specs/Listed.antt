-- Finite maps from numbers, as lists of their entries in ascending order.
use Rattle.std.specs.Prelude.{ℕ, Bool, List, is_some, map}
pub use Rattle.amqp_outbox.specs.Listed.{at, put, without}

-- a map whose values are all changed
abbrev pub map_values : {X : Type 0} → (X → X) → List (ℕ × X) → List (ℕ × X)
map_values f entries = map (λ e. (e.0, f e.1)) entries

-- a map has a number
abbrev pub has : {X : Type 0} → ℕ → List (ℕ × X) → Bool
has n entries = is_some (at n entries)
