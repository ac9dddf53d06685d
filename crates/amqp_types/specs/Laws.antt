-- What is promised of tables as maps, beyond the contracts of single calls.
use Rattle.std.specs.Prelude.{◌≡◌, ℕ, ◌-◌, List, ◌++◌, Some, nat_eq, if◌then◌else◌}
use Rattle.std.specs.Cmp.Lexicographic.{pointwise}
use Rattle.amqp_types.specs.Forms.{LongStringOf, Row}
use Rattle.amqp_types.specs.Value.{FieldValue, Pair}
use Rattle.amqp_types.specs.Table.{IsInOrder, get, put, map_of, last_value}
use Rattle.amqp_types.specs.Spelling.{max_depth, PairOf, Spells}
use Rattle.amqp_types.specs.Reading.{table_at}

-- in the map of any pairs each name has the value of its last pair
abbrev pub LastOfEqualNamesCounts : Type 0
LastOfEqualNamesCounts = (pairs : List Pair) (name : List ℕ) → get (map_of pairs) name ≡ last_value pairs name

-- a table that is read from any of its spellings has the value of each name's last pair
abbrev pub LastPairCounts : Type 0
LastPairCounts =
    (pairs : List Pair) (body text rest : List ℕ) →
    Row (PairOf (Spells (max_depth - 1))) pairs body → LongStringOf body text →
    (found : List Pair) × (table_at max_depth (text ++ rest) ≡ Some (found, rest)) ×
    ((name : List ℕ) → get found name ≡ last_value pairs name)

-- the map of any pairs holds each name once, in byte order
abbrev pub NamesStandOnce : Type 0
NamesStandOnce = (pairs : List Pair) → IsInOrder (map_of pairs)

-- setting the value of a name changes what that name has, and what no other has
abbrev pub PutSetsOneName : Type 0
PutSetsOneName =
    (table : List Pair) (name : List ℕ) (v : FieldValue) (other : List ℕ) →
    get (put table name v) other ≡ (if pointwise nat_eq other name then Some v else get table other)
