-- All that was read so far was fed, and all that was said was written.
use Rattle.std.proofs.Common.{◌≡◌, ◌≤◌, ◌<◌, None, length}
use Rattle.amqp_double.specs.Doubles.{AnswersClient}
use Rattle.amqp_double_socket.specs.Serving.{HasSentAll, HasWritten, FeedsOn}
use Rattle.amqp_double_socket.proofs.serving.serve.Given as goal

abbrev pub invariant-pieces : goal.invariant-pieces
invariant-pieces g l = record {
  answers : AnswersClient l.double;
  all : HasSentAll l.double;
  written : HasWritten l.fn.double l.double (g.W.Write.contents l.fn.writer.stream) (g.W.Write.contents l.writer.stream);
  heard : FeedsOn l.fn.double l.double (g.R.Read.remaining l.fn.reader.stream) (g.R.Read.remaining l.reader.stream);
  space : 0 < length l.space.items;
  reads : l.fn.reader.faults ≤ l.reader.faults;
  writes : l.fn.writer.faults ≤ l.writer.faults;
  unrefused : l.fn.double.refusal ≡ None → l.double.refusal ≡ None;
}
