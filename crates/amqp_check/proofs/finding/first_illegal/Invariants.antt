use Rattle.std.proofs.Common.{◌≡◌, ◌≤◌, ◌-◌, List, length, None}
use Rattle.amqp_frame.specs.declared.frame.Frame.{Frame}
use Rattle.amqp_frame.specs.Sequences.{Stand}
use Rattle.amqp_check.specs.Verdicts.{no_limit}
use Rattle.amqp_check.specs.Hearing.{HasHeard}
use Rattle.amqp_check.proofs.finding.first_illegal.Given as goal

abbrev pub invariant-heard : goal.invariant-heard
invariant-heard l = record {
  place : l.place ≤ length l.client;
  few : l.judge.frames ≤ l.place;
  legal : l.judge.illegal ≡ None;
  so_far : (frames : List Frame) × Stand l.client no_limit 0 frames l.place × HasHeard frames l.judge;
}

abbrev pub decreases-heard : goal.decreases-heard
decreases-heard l = length l.client - l.place
