-- The frames of the opening stand behind the places that were looked at.
use Rattle.std.proofs.Common.{◌≡◌, drop}
use Rattle.amqp_locked.specs.Backlog.{frames_kept}
use Rattle.amqp_locked.proofs.backlog.Backlog.place.Given as goal

abbrev pub invariant-lanes : goal.invariant-lanes
invariant-lanes l =
    frames_kept l.fn.opened l.fn.self.lanes.items ≡ frames_kept l.fn.opened (drop l.at l.fn.self.lanes.items)
