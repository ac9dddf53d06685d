use Rattle.amqp_tools.specs.Acknowledged.{beginning, nothing_seen}
use Rattle.amqp_tools.proofs.Acknowledging.{begins, kept}
use Rattle.amqp_tools.proofs.laws.what_is_acknowledged_was_printed.Goals as goal

pub returns : goal.returns
returns c = λ steps ok. kept steps beginning nothing_seen begins ok
