-- The answers so far can be written.
use Rattle.std.proofs.Common.{take}
use Rattle.std.specs.List.{AllByRecursion}
use Rattle.amqp_written_rules.specs.Sayable.{CanBeAnswered}
use Rattle.amqp_engine.proofs.wire.hold_answers.Given as goal

abbrev pub invariant-answers : goal.invariant-answers
invariant-answers l = AllByRecursion CanBeAnswered (take l.answer-index l.answers)
