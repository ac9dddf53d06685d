use Rattle.std.proofs.Common.{◌≡◌, ◌≤◌, length}
use Rattle.amqp_channels.specs.Channels.{opened_until}
use Rattle.amqp_channels.specs.InOrder.{agreed}
use Rattle.amqp_channels.proofs.channels.Channels.remove_above.Given as goal

abbrev pub invariant-channels : goal.invariant-channels
invariant-channels l =
    record {
      agreed : agreed l.channel_max l.self.listed ≡ agreed l.channel_max l.initial.self.listed;
      cursor : l.self.cursor ≡ l.initial.self.cursor;
      until : opened_until l.self.listed ≤ opened_until l.initial.self.listed;
    }

abbrev pub decreases-channels : goal.decreases-channels
decreases-channels l = length l.self.listed
