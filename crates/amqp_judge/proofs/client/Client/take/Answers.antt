use Rattle.std.proofs.Common.{sym}
use Rattle.amqp_judge.proofs.Pieces.{taken_more}
use Rattle.amqp_judge.proofs.client.Client.take.Goals as goal

pub returns-in-Bad-clause-taken : goal.returns-in-Bad-clause-taken
returns-in-Bad-clause-taken c octets heard = record {
  frames = heard.frames;
  taken = taken_more octets c.args.piece.now heard.frames c.args.self.now.side (sym c.in-Bad.ensures) heard.taken;
  heard = heard.heard;
}
