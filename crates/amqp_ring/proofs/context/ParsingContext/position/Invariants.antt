use Rattle.std.proofs.Common.{length}
use Rattle.amqp_ring.specs.Contexts.{NonePasses}
use Rattle.amqp_ring.proofs.context.ParsingContext.position.Given as goal

abbrev pub invariant-loop-i : goal.invariant-loop-i
invariant-loop-i g l = NonePasses (goal.F-post g l.predicate) l.self.first.now l.i

abbrev pub invariant-loop-j : goal.invariant-loop-j
invariant-loop-j g l =
    NonePasses (goal.F-post g l.predicate) l.self.first.now (length l.self.first.now)
    × NonePasses (goal.F-post g l.predicate) l.self.second.now l.j
