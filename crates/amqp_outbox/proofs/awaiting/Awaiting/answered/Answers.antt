use Rattle.std.proofs.Common.{◌∙◌}
use Rattle.amqp_outbox.proofs.Cases.{if-none}
use Rattle.amqp_outbox.proofs.awaiting.Awaiting.answered.Goals as goal

pub returns-clause-none : goal.returns-clause-none
returns-clause-none c = if-none c.take-found.result (λ h. c.tidy.ensures ∙ h) c.take-found.ensures.none
