use Rattle.std.proofs.Common.{◌≡◌, ◌≤◌, length}
use Rattle.amqp_channels.specs.Channels.{opened_until}
use Rattle.amqp_channels.specs.InOrder.{listed_after}
use Rattle.amqp_channels.proofs.Walking.{Walked}
use Rattle.amqp_channels.proofs.channels.Channels.keep_open.Given as goal

abbrev pub invariant-channels : goal.invariant-channels
invariant-channels l =
    record {
      walked : Walked l.last l.initial.self.listed l.self.listed;
      cursor : l.self.cursor ≡ l.initial.self.cursor;
      until : opened_until l.self.listed ≤ opened_until l.initial.self.listed;
    }

abbrev pub decreases-channels : goal.decreases-channels
decreases-channels l = length (listed_after l.last l.self.listed)
