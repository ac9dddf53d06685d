use Rattle.std.proofs.Common.{◌∙◌, ap, sym}
use Rattle.amqp_outbox.specs.Order.{numbers_in}
use Rattle.amqp_outbox.proofs.Listing.{empty-list}
use Rattle.amqp_outbox.proofs.numbers.Numbers.is_idle.Goals as goal

pub returns-in-Some : goal.returns-in-Some
returns-in-Some c h = ap numbers_in (sym c.in-Some.ensures.value) ∙ empty-list _ (sym c.is_empty.ensures ∙ h)
