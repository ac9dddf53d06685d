-- The turns so far lead from the beginning to here, and the port tells them.
use Rattle.amqp_joined.proofs.Taking.{Taken}
use Rattle.amqp_joined.proofs.joined_port.JoinedPort.take_turns.Given as goal

abbrev pub invariant-turns : goal.invariant-turns
invariant-turns g l = record {
  turns : Taken l.counter l.fn.engine l.engine l.fn.self l.self (g.A.AuthProvider.allows l.fn.provider) (g.A.AuthProvider.allows l.provider);
  can : g.A.AuthProvider.can l.provider;
}
