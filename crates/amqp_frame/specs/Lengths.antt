-- Lengths that stand still at the greatest number of 64 bits, and the texts of arrays and tables of which they are.
use Rattle.std.specs.Prelude.{ℕ, min, List, ◌++◌}
use Rattle.amqp_types.specs.Value.{FieldValue, Pair, values_from, pairs_from}
use Rattle.amqp_types.specs.Forms.{spell_short_string}
use Rattle.amqp_types.specs.Spelling.{spell, spell_values, spell_pairs}

-- the number, or the greatest number of 64 bits where that is less
abbrev pub capped : ℕ → ℕ
capped n = min n 18446744073709551615

-- the written text of the values of an array as a list
abbrev pub spell_list : List FieldValue → List ℕ
spell_list vs = spell_values (values_from vs)

-- a name as a short string, and its value
abbrev pub spell_pair : Pair → List ℕ
spell_pair p = spell_short_string p.0 ++ spell p.1

-- the written text of the pairs of a table as a list
abbrev pub spell_pair_list : List Pair → List ℕ
spell_pair_list ps = spell_pairs (pairs_from ps)
