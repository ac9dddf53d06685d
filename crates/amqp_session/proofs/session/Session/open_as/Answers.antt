use Rattle.std.proofs.Common.{◌≡◌, ap, sym, subst, ℕ}
use Rattle.amqp_outbox.specs.declared.item.Item.{Item}
use Rattle.amqp_outbox.specs.declared.reply.Awaited.{Awaited}
use Rattle.amqp_outbox.specs.declared.reply.Reply.{Reply}
use Rattle.amqp_outbox.specs.declared.reply.Reply.TheVariants.{ChannelOpened}
use Rattle.amqp_outgoing.specs.Outgoings.{HasAwaitedPlace}
use Rattle.amqp_session.proofs.session.Session.open_as.Goals as goal

pub expect_reserved-requires : goal.expect_reserved-requires
expect_reserved-requires c =
    let on : c.plain-item.result.channel ≡ c.args.id = ap (λ (i : Item). i.channel) c.plain-item.ensures in
    let by : c.by.result.reply ≡ ChannelOpened = ap (λ (a : Awaited). a.reply) c.by.ensures in
    let place : HasAwaitedPlace c.args.id ChannelOpened c.reserve_question.new.self =
    subst (λ (n : ℕ). HasAwaitedPlace n ChannelOpened c.reserve_question.new.self) on c.in_default-reserve_question.ensures.place in
    subst (λ (r : Reply). HasAwaitedPlace c.args.id r c.say_reserved.new.self) (sym by)
    (c.say_reserved.ensures.reply c.args.id ChannelOpened place)
