-- The addresses that were tried so far.
use Rattle.std.specs.Prelude.{◌≤◌, ◌<◌, length}
use Rattle.lapin_connection.proofs.connection.Connection.connect_any.Given as goal

abbrev pub invariant-tried : goal.invariant-tried
invariant-tried g l =
    record {
      last : l.last < length l.fn.uris;
      count : g.S.Spawner.refusals l.fn.runtime ≤ g.S.Spawner.refusals l.runtime;
    }
