use Rattle.std.proofs.Common.{sym, subst}
use Rattle.amqp_outbox.specs.declared.awaiting.Awaiting.{Awaiting}
use Rattle.amqp_outbox.specs.Parts.{HasReplyPlaces}
use Rattle.amqp_outbox.proofs.outbox.Outbox.drop_channel.Goals as goal

pub returns-in-Unbegun-clause-reply : goal.returns-in-Unbegun-clause-reply
returns-in-Unbegun-clause-reply c other channel reply place =
    subst (λ (a : Awaiting). HasReplyPlaces channel reply a.lists.entries) (sym c.drop_group.ensures.awaiting) place

pub returns-in-Control-clause-reply : goal.returns-in-Control-clause-reply
returns-in-Control-clause-reply c other channel reply place =
    subst (λ (a : Awaiting). HasReplyPlaces channel reply a.lists.entries) (sym c.drop_frame.ensures.awaiting) place
