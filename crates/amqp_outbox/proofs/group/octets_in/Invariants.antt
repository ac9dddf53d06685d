use Rattle.std.proofs.Common.{◌≡◌, length, sum_by, take}
use Rattle.amqp_frame.specs.Frames.{encoding}
use Rattle.amqp_outbox.proofs.group.octets_in.Given as goal

abbrev pub invariant-loop-frame : goal.invariant-loop-frame
invariant-loop-frame l = l.octets ≡ sum_by (λ frame. length (encoding frame)) (take l.frame-index l.frames)
