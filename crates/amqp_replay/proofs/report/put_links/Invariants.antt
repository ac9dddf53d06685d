-- The lines so far, before those of the links that are left, are those of all links.
use Rattle.std.proofs.Common.{◌≡◌, ◌++◌, length}
use Rattle.std.specs.String.{string_bytes}
use Rattle.amqp_replay.specs.Report.{link_lines}
use Rattle.amqp_replay.proofs.Reports.{links_from}
use Rattle.amqp_replay.proofs.report.put_links.Given as goal

abbrev pub invariant-links : goal.invariant-links
invariant-links g l = record {
  whole : string_bytes l.out ++ links_from l.k (g.P.ScriptedPort.links_taken l.port)
      ≡ string_bytes l.fn.out ++ link_lines (g.P.ScriptedPort.links_taken l.port);
  count : l.count ≡ length (g.P.ScriptedPort.links_taken l.port);
}
