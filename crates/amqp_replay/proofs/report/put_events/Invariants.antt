-- The lines so far, before those of the events that are left, are those of all events.
use Rattle.std.proofs.Common.{◌≡◌, ◌++◌, length}
use Rattle.std.specs.String.{string_bytes}
use Rattle.amqp_rules.specs.Talk.{end_of}
use Rattle.amqp_rules.specs.Answers.{events_of}
use Rattle.amqp_replay.specs.Report.{event_lines}
use Rattle.amqp_replay.proofs.report.put_events.Given as goal

abbrev pub invariant-events : goal.invariant-events
invariant-events l = record {
  whole : string_bytes l.out ++ event_lines l.engine.talk ≡ string_bytes l.fn.out ++ event_lines l.fn.engine.talk;
  end : end_of l.engine.talk ≡ end_of l.fn.engine.talk;
}

abbrev pub decreases-events : goal.decreases-events
decreases-events l = length (events_of l.engine.talk)
