use Rattle.std.proofs.Common.{subst, ℕ, OnOk}
use Rattle.amqp_outbox.proofs.Cases.{on-ok}
use Rattle.amqp_outgoing.specs.Outgoings.{HasAwaitedPlace}
use Rattle.amqp_outgoing.proofs.outgoing.Outgoing.reserve_question.Goals as goal

pub returns-clause-place : goal.returns-clause-place
returns-clause-place c =
    subst (λ (n : ℕ). OnOk c.reserve_item.result (HasAwaitedPlace n c.args.reply c.reserve_item.new.self)) c.channel.ensures
    (on-ok c.reserve_item.result (λ h. c.reserve_item.ensures.reply c.channel.result c.args.reply c.in_ok-reserve_reply.ensures.place) c.reserve_item.ensures.places)
