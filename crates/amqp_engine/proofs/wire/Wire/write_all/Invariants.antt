-- The writes so far, and whatever writes are left, are those of the whole, and so is what is noted of them.
use Rattle.std.proofs.Common.{◌≡◌, ◌+◌, ◌≤◌, ◌++◌, ℕ, Bool, false, List, Option}
use Rattle.amqp_auth.specs.declared.asked.Question.{Question}
use Rattle.amqp_auth.specs.declared.asked.Asked.{Asked}
use Rattle.amqp_engine.specs.Log.{Log}
use Rattle.amqp_engine.specs.Turn.{Progress}
use Rattle.amqp_engine.specs.Making.{making, Reaches, Writes}
use Rattle.amqp_engine.specs.Play.{offers_waiting}
use Rattle.amqp_engine.proofs.wire.Wire.write_all.Given as goal

abbrev pub invariant-writes : goal.invariant-writes
invariant-writes g l = record {
  goes_on : (more : List Asked) (asked : List Question) (cut : Option ℕ) (last : Progress) (log : Option Log) (count : ℕ) (ts : List ℕ) (failed : Bool) → Reaches cut l.parts
      → Writes ts failed (making l.at cut more asked l.self l.parts) last (g.P.Port.log l.port) log (g.P.Port.faults l.port) count
      → Writes (l.tooks.numbers ++ ts) failed (making l.at cut more asked l.fn.self l.fn.parts) last (g.P.Port.log l.fn.port) log (g.P.Port.faults l.fn.port) count;
  clean : l.failed ≡ false;
  place : 1 ≤ l.tooks.spare;
  bound : l.parts + offers_waiting l.self ≤ l.fn.parts + offers_waiting l.fn.self;
  grows : l.fn.parts ≤ l.parts;
  starved : l.self.starved ≡ l.fn.self.starved;
  faults : g.P.Port.faults l.fn.port ≤ g.P.Port.faults l.port;
  kept : g.P.Port.kept l.port ≡ g.P.Port.kept l.fn.port;
}

abbrev pub decreases-writes : goal.decreases-writes
decreases-writes g l = offers_waiting l.self
