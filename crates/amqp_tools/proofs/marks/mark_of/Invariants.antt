-- What is left leads to the mark of all.
use Rattle.std.proofs.Common.{◌≡◌, drop}
use Rattle.amqp_tools.specs.Taking.{mark_from, body_mark}
use Rattle.amqp_tools.proofs.marks.mark_of.Given as goal

abbrev pub invariant-each : goal.invariant-each
invariant-each l = mark_from l.mark (drop l.octet-index l.octets) ≡ body_mark l.octets
