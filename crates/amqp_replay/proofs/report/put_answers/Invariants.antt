-- The lines so far, before those of the promises that are left, are those of all promises.
use Rattle.std.proofs.Common.{◌≡◌, ◌++◌, ◌-◌}
use Rattle.std.specs.String.{string_bytes}
use Rattle.amqp_replay.specs.Report.{answer_lines}
use Rattle.amqp_replay.proofs.Reports.{answers_from, Keeps}
use Rattle.amqp_replay.proofs.report.put_answers.Given as goal

abbrev pub invariant-answers : goal.invariant-answers
invariant-answers l = record {
  whole : string_bytes l.out ++ answers_from l.fn.engine.talk l.number (l.count - l.number)
      ≡ string_bytes l.fn.out ++ answer_lines l.fn.engine.talk;
  count : l.count ≡ l.fn.engine.talk.made;
  keeps : Keeps l.number l.fn.engine.talk l.engine.talk;
}
