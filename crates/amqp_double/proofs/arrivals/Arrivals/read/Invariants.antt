use Rattle.std.proofs.Common.{◌-◌, length}
use Rattle.amqp_double.proofs.Taking.{ReadSoFar}
use Rattle.amqp_double.proofs.arrivals.Arrivals.read.Given as goal

abbrev pub invariant-arrivals : goal.invariant-arrivals
invariant-arrivals l = ReadSoFar l.bytes l.numbers l.start l.place l.self.list.items l.self.replies

abbrev pub decreases-arrivals : goal.decreases-arrivals
decreases-arrivals l = length l.bytes - l.place
