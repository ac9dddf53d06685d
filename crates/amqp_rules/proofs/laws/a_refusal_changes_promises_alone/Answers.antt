use Rattle.amqp_rules.proofs.Refusals.{refused-alone, refused-out, idle-out}
use Rattle.amqp_rules.proofs.laws.a_refusal_changes_promises_alone.Goals as goal

pub returns : goal.returns
returns c = record { state = refused-out; alone = refused-alone; dropped = idle-out }
