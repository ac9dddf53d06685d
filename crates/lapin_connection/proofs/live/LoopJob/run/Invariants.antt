use Rattle.std.specs.Prelude.{◌≤◌, length}
use Rattle.lapin_connection.proofs.live.LoopJob.run.Given as goal

-- the provider may be asked, and the space is wide enough for a piece
abbrev pub invariant-loop : goal.invariant-loop
invariant-loop g l =
    ((goal.iterator-loop g).can_next l.iterator' × (goal.iterator-loop g).is_finite l.iterator')
    × (g.A.AuthProvider.can l.provider × (4096 ≤ length l.space.items))
