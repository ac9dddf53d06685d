-- The steps so far, before what the lines that are left say, are what the text says.
use Rattle.std.proofs.Common.{◌≡◌, length}
use Rattle.amqp_engine.specs.Plan.{ArePieces}
use Rattle.amqp_replay.specs.Grammar.{parsed, scenario_of}
use Rattle.amqp_replay.proofs.Steps.{steps_before}
use Rattle.amqp_replay.proofs.script.parse.Given as goal

abbrev pub invariant-lines : goal.invariant-lines
invariant-lines l = record {
  whole : steps_before l.steps.items (scenario_of l.progress l.at l.left l.lines) ≡ parsed l.has_provider l.text;
  pieces : ArePieces l.steps.items;
}

abbrev pub decreases-lines : goal.decreases-lines
decreases-lines l = length l.lines
