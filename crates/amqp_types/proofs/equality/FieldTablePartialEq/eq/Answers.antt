use Rattle.amqp_types.specs.EqualityLaws.{table_decides}
use Rattle.amqp_types.proofs.equality.FieldTablePartialEq.eq.Goals as goal

pub returns-clause-equal : goal.returns-clause-equal
returns-clause-equal c = rw c.same_entries.ensures (table_decides c.args.self.now c.args.other.now)
