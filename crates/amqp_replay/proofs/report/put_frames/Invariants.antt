-- The lines so far, before those of the openings that are left, are those of all openings.
use Rattle.std.proofs.Common.{◌≡◌, ◌++◌, ◌-◌}
use Rattle.std.specs.String.{string_bytes}
use Rattle.amqp_replay.specs.Report.{frame_lines}
use Rattle.amqp_replay.proofs.FrameLines.{frames_from, KeepsFrames}
use Rattle.amqp_replay.proofs.report.put_frames.Given as goal

abbrev pub invariant-openings : goal.invariant-openings
invariant-openings l = record {
  whole : string_bytes l.out ++ frames_from l.fn.engine.talk l.number (l.count - l.number)
      ≡ string_bytes l.fn.out ++ frame_lines l.fn.engine.talk;
  count : l.count ≡ l.fn.engine.talk.made;
  keeps : KeepsFrames l.number l.fn.engine.talk l.engine.talk;
}
