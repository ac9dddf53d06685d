-- What contracts see of an `AuthList`.
use Rattle.std.specs.Prelude.{ℕ, List}
use Rattle.amqp_auth.specs.declared.asked.Asked.{Asked}

-- a list of answers with places to which more can be pushed with no memory taken
pub record Answers : Type 0 where
  -- the answers
  pub list : List Asked
  -- how many more can be pushed
  pub spare : ℕ
