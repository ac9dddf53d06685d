-- What is seen of a room of a fixed size.
use Rattle.std.specs.Prelude.{ℕ, List}

-- the octets that were put, and how many more can be
pub record Filled : Type 0 where
  pub put : List ℕ
  pub free : ℕ
