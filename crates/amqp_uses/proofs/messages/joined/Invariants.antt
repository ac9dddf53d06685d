-- The frames so far are bodies, no longer than the message.
use Rattle.std.proofs.Common.{◌≤◌, ◌-◌, length, take}
use Rattle.amqp_uses.specs.Messages.{AreBodies}
use Rattle.amqp_uses.proofs.messages.joined.Given as goal

abbrev pub invariant-bodies : goal.invariant-bodies
invariant-bodies l = (l.count ≤ length l.frames) × AreBodies l.body.items (take l.count l.frames)
    × (length l.body.items ≤ l.size)

abbrev pub decreases-bodies : goal.decreases-bodies
decreases-bodies l = length l.frames - l.count
