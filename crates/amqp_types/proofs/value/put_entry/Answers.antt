use Rattle.std.proofs.Common.{map, ap, ◌∙◌}
use Rattle.amqp_types.specs.View.{named_value}
use Rattle.amqp_types.proofs.TableLaws.{named_insert}
use Rattle.amqp_types.proofs.value.put_entry.Goals as goal

pub returns : goal.returns
returns c = ap (map named_value) c.in_ok-had.ensures.entries ∙ named_insert c.args.last.now.entries c.args.entry.name c.args.entry.value
