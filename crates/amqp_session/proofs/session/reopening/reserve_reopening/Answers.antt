use Rattle.amqp_outbox.specs.declared.reply.Reply.TheVariants.{ChannelOpened}
use Rattle.amqp_outbox.proofs.Cases.{on-ok}
use Rattle.amqp_session.proofs.session.reopening.reserve_reopening.Goals as goal

pub returns-clause-replies : goal.returns-clause-replies
returns-clause-replies c =
    on-ok c.reserve_frames.result
    (λ lane n among. c.reserve_frames.ensures.reply n ChannelOpened (c.in_ok-frames.ensures.replies n among))
    c.reserve_frames.ensures.places
