use Rattle.std.proofs.Common.{◌∙◌, sym}
use Rattle.amqp_double.proofs.Taking.{never-memory}
use Rattle.amqp_double.proofs.double.Double.feed_with.Goals as goal

pub returns-clause-unchanged : goal.returns-clause-unchanged
returns-clause-unchanged g c is = absurd (never-memory c.hear_with.new.self.refusal (sym c.told-2.ensures ∙ is))
