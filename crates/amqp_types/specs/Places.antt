-- Where a name stands in a table, or would go: what a search in its entries finds.
use Rattle.std.specs.Prelude.{◌≡◌, ℕ, ◌<◌, ◌≤◌, List, Some, None, length, slice_set, slice_get, option_map}
use Rattle.std.specs.List.{insert}
use Rattle.amqp_types.specs.Value.{FieldValue, Pair}
use Rattle.amqp_types.specs.Table.{get, put}

-- the name stands at that place
pub record HasNameAt (table : List Pair) (name : List ℕ) (at : ℕ) : Type 0 where
  -- it is a place of the table
  pub in_range : at < length table
  -- whose pair has the name
  pub named : option_map (λ p. p.0) (slice_get table at) ≡ Some name
  -- so its value is the name's
  pub gets : get table name ≡ option_map (λ p. p.1) (slice_get table at)
  -- and a new value of the name goes there
  pub puts : (v : FieldValue) → put table name v ≡ slice_set table at (name, v)

-- the name is not there, and would go to that place
pub record HasGapAt (table : List Pair) (name : List ℕ) (at : ℕ) : Type 0 where
  -- it is a place of the table, or the one after its last
  pub in_range : at ≤ length table
  -- the name has no value
  pub gets : get table name ≡ None
  -- and a value of the name goes between what stands before and behind
  pub puts : (v : FieldValue) → put table name v ≡ insert table at (name, v)
