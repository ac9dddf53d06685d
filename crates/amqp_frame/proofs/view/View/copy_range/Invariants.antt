use Rattle.std.proofs.Common.{◌≡◌}
use Rattle.amqp_frame.proofs.Windows.{window}
use Rattle.amqp_frame.proofs.view.View.copy_range.Given as goal

abbrev pub invariant-loop-index : goal.invariant-loop-index
invariant-loop-index g l = l.copy.items ≡ window (g.Self.View.bytes l.self) l.start l.index
