-- What contracts see of a `Payload64`.
use Rattle.std.specs.Prelude.{ℕ, List}

-- a list of numbers with places to which more can be pushed with no memory taken
pub record Numbers : Type 0 where
  -- the numbers
  pub numbers : List ℕ
  -- how many more can be pushed
  pub spare : ℕ
