-- The copies so far.
use Rattle.std.proofs.Common.{◌≡◌, take}
use Rattle.amqp_hub.proofs.hub.entering.copied.Given as goal

abbrev pub invariant-entries : goal.invariant-entries
invariant-entries l = l.entries.items ≡ take l.entry-index l.journal
