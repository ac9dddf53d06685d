-- The lines so far, before those of the frames that are left, are those of all frames.
use Rattle.std.proofs.Common.{◌≡◌, ◌++◌}
use Rattle.std.specs.List.{flat_map}
use Rattle.std.specs.String.{string_bytes}
use Rattle.amqp_replay.specs.Report.{frame_line}
use Rattle.amqp_replay.proofs.FrameLines.{frames_after}
use Rattle.amqp_replay.proofs.report.put_each.Given as goal

abbrev pub invariant-frames : goal.invariant-frames
invariant-frames l =
    string_bytes l.out ++ frames_after l.frame-index l.frames ≡ string_bytes l.fn.out ++ flat_map frame_line l.frames
