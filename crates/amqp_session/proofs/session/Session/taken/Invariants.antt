-- What is still to be taken leads where the whole does.
use Rattle.std.proofs.Common.{◌≡◌, length}
use Rattle.amqp_rules.specs.Writing.{sent_among}
use Rattle.amqp_session.proofs.session.Session.taken.Given as goal

abbrev pub invariant-loop-mark : goal.invariant-loop-mark
invariant-loop-mark l = record {
  goes_on : sent_among l.self.committed l.left l.self ≡ sent_among l.initial.self.committed l.initial.left l.initial.self;
}

abbrev pub decreases-loop-mark : goal.decreases-loop-mark
decreases-loop-mark l = length l.self.committed
