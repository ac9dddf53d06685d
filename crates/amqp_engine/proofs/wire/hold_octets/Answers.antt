use Rattle.std.proofs.Common.{arith}
use Rattle.amqp_engine.proofs.wire.hold_octets.Goals as goal

pub returns : goal.returns
returns c = λ i. omega (arith, c.type_inv.bytes i)
