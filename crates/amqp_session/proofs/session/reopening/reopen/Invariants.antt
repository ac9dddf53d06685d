-- What is then left to do leads where the whole does, and has its places.
use Rattle.std.proofs.Common.{◌≡◌, length, None}
use Rattle.amqp_outgoing.specs.Outgoings.{queue_of, marks}
use Rattle.amqp_channels.specs.InOrder.{numbers_after}
use Rattle.amqp_session.specs.Reopening.{reopened_each, HasOpenPlaces, HasOpenedPlaces}
use Rattle.amqp_session.proofs.session.reopening.reopen.Given as goal

abbrev pub invariant-channels : goal.invariant-channels
invariant-channels l =
    record {
      said : reopened_each (numbers_after l.last l.channel_max l.channels.listed) (queue_of l.outgoing)
          ≡ reopened_each (numbers_after None l.channel_max l.channels.listed) (queue_of l.initial.outgoing);
      marks : marks l.outgoing ≡ marks l.initial.outgoing;
      frames : HasOpenPlaces (numbers_after l.last l.channel_max l.channels.listed) l.outgoing;
      replies : HasOpenedPlaces (numbers_after l.last l.channel_max l.channels.listed) l.outgoing;
    }

abbrev pub decreases-channels : goal.decreases-channels
decreases-channels l = length (numbers_after l.last l.channel_max l.channels.listed)
