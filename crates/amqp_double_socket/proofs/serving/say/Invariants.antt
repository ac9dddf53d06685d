-- What was sent so far are the first octets of what had not been sent.
use Rattle.std.proofs.Common.{◌≤◌}
use Rattle.amqp_double.specs.Doubles.{AnswersClient}
use Rattle.amqp_double_socket.specs.Serving.{Sends}
use Rattle.amqp_double_socket.proofs.serving.say.Given as goal

abbrev pub invariant-octets : goal.invariant-octets
invariant-octets g l = record {
  answers : AnswersClient l.double;
  rises : l.fn.writer.faults ≤ l.writer.faults;
  sends : Sends l.fn.double l.double (g.W.Write.contents l.fn.writer.stream) (g.W.Write.contents l.writer.stream);
}
