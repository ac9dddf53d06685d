-- Each channel that is no longer left has its place, and is counted.
use Rattle.std.proofs.Common.{◌≡◌, ◌+◌, ℕ, true, false, length, None}
use Rattle.amqp_outbox.specs.declared.reply.Reply.TheVariants.{ChannelOpened}
use Rattle.amqp_outgoing.specs.Outgoings.{queue_of, marks, HasAwaitedPlace}
use Rattle.amqp_channels.specs.InOrder.{numbers_after}
use Rattle.amqp_session.specs.Reopening.{is_among}
use Rattle.amqp_session.proofs.session.reopening.reserve_replies.Given as goal

abbrev pub invariant-channels : goal.invariant-channels
invariant-channels l =
    record {
      same : queue_of l.outgoing ≡ queue_of l.initial.outgoing;
      marks : marks l.outgoing ≡ marks l.initial.outgoing;
      count : l.frames + length (numbers_after l.last l.channel_max l.channels.listed) ≡ length (numbers_after None l.channel_max l.channels.listed);
      replies : (n : ℕ) → is_among (numbers_after None l.channel_max l.channels.listed) n ≡ true
          → is_among (numbers_after l.last l.channel_max l.channels.listed) n ≡ false → HasAwaitedPlace n ChannelOpened l.outgoing;
    }

abbrev pub decreases-channels : goal.decreases-channels
decreases-channels l = length (numbers_after l.last l.channel_max l.channels.listed)
