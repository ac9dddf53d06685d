use Rattle.std.specs.Prelude.{◌≡◌, ◌≤◌, length}
use Rattle.amqp_socket.proofs.mio_port.MioPortPort.next.Given as goal

-- nothing was told yet, so no fault was counted; and the space is as wide as it was
abbrev pub invariant-waits : goal.invariant-waits
invariant-waits g l = (l.self.faults ≡ l.fn.self.faults) × (4096 ≤ length l.space)
