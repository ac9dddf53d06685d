-- What a table has under a name that was set.
use Rattle.std.proofs.Common.{◌≡◌, ℕ, List, Some, cond, ap, ◌∙◌}
use Rattle.std.proofs.lemmas.Cmp.{nat_list_eq_equiv}
use Rattle.amqp_types.specs.Value.{FieldValue, Pair}
use Rattle.amqp_types.specs.Table.{get, put}
use Rattle.amqp_types.proofs.TableLaws.{put_sets_one_name}

pub get_put : (table : List Pair) (name : List ℕ) (v : FieldValue) → get (put table name v) name ≡ Some v
get_put table name v =
    put_sets_one_name table name v name ∙ ap (λ b. cond b (Some v) (get table name)) (nat_list_eq_equiv.refl name)
