-- The answers counted so far, with those of the promises that are left, are those of all promises.
use Rattle.std.proofs.Common.{◌≡◌, ◌≤◌, ◌-◌}
use Rattle.amqp_replay.specs.Summary.{count_ok}
use Rattle.amqp_replay.proofs.Reports.{Keeps}
use Rattle.amqp_replay.proofs.Generating.{counted_from}
use Rattle.amqp_doubled.proofs.summary.count_ok.Given as goal

abbrev pub invariant-answers : goal.invariant-answers
invariant-answers l = record {
  whole : counted_from l.fn.engine.talk l.number (l.count - l.number) l.answered ≡ count_ok l.fn.engine.talk;
  within : l.answered ≤ l.number;
  count : l.count ≡ l.fn.engine.talk.made;
  keeps : Keeps l.number l.fn.engine.talk l.engine.talk;
}
