-- The closure may be called again.
use denote.Param.Always.{always_mut}
use Rattle.lapin_connection.proofs.shared.Shared.look.Given as goal

abbrev pub invariant-loop : goal.invariant-loop
invariant-loop g l = ((goal.iterator-loop g).can_next l.iterator' × (goal.iterator-loop g).is_finite l.iterator') × always_mut g.F.FnMut l.look
