use Rattle.std.proofs.Common.{◌∙◌, sym}
use Rattle.amqp_double.proofs.Taking.{never-memory}
use Rattle.amqp_double.proofs.double.Double.feed.Goals as goal

pub returns-clause-unchanged : goal.returns-clause-unchanged
returns-clause-unchanged c is = absurd (never-memory c.hear.new.self.refusal (sym c.told-2.ensures ∙ is))
