use Rattle.std.proofs.Common.{refl, arith}
use Rattle.amqp_double.proofs.arrivals.Arrivals.add.Goals as goal

pub returns : goal.returns
returns c = record {
  arrival = record { frame = c.args.frame; size = c.args.size; reply = c.in-Ok.reply };
  frame = refl;
  octets = refl;
  reply = c.in-Ok.ensures;
  list = c.in_ok-push.ensures.items;
  replies = omega (arith, c.in-Some.ensures, c.len.ensures, c.in-Ok.reply.ok.0);
}
