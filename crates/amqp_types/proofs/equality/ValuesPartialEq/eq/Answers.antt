use Rattle.amqp_types.specs.EqualityLaws.{list_decides}
use Rattle.amqp_types.proofs.equality.ValuesPartialEq.eq.Goals as goal

pub returns-clause-equal : goal.returns-clause-equal
returns-clause-equal c = rw c.same_values_of.ensures (list_decides c.args.self.now c.args.other.now)
