use Rattle.std.proofs.Common.{◌≡◌, ◌+◌, length, take}
use Rattle.amqp_frame.proofs.Windows.{window}
use Rattle.amqp_frame.proofs.read.cursor.octets_of.Given as goal

abbrev pub invariant-loop-index : goal.invariant-loop-index
invariant-loop-index g l =
    (length l.octets ≡ g.row.N) ×
    (take l.index l.octets ≡ window (g.V.View.bytes l.view) l.start (l.start + l.index))
