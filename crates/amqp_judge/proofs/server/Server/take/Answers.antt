use Rattle.std.proofs.Common.{sym}
use Rattle.amqp_judge.proofs.Pieces.{taken_more}
use Rattle.amqp_judge.proofs.server.Server.take.Goals as goal

pub returns-in-Bad-clause-taken : goal.returns-in-Bad-clause-taken
returns-in-Bad-clause-taken c octets counted = record {
  frames = counted.frames;
  taken = taken_more octets c.args.piece.now counted.frames c.args.self.now.side (sym c.in-Bad.ensures) counted.taken;
  count = counted.count;
}
