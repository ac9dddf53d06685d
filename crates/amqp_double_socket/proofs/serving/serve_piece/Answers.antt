use Rattle.amqp_double_socket.proofs.Written.{HasWritten-none}
use Rattle.amqp_double_socket.proofs.serving.serve_piece.Goals as goal

pub returns-in-Ok-eq0-clause-written : goal.returns-in-Ok-eq0-clause-written
returns-in-Ok-eq0-clause-written g c = HasWritten-none c.args.double.now (g.W.Write.contents c.args.writer.now.stream) c.requires.sent

pub returns-in-Err-clause-written : goal.returns-in-Err-clause-written
returns-in-Err-clause-written g c = HasWritten-none c.args.double.now (g.W.Write.contents c.args.writer.now.stream) c.requires.sent

pub returns-in-Err-2-clause-written : goal.returns-in-Err-2-clause-written
returns-in-Err-2-clause-written g c = HasWritten-none c.args.double.now (g.W.Write.contents c.args.writer.now.stream) c.requires.sent
