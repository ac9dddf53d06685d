use Rattle.std.proofs.Common.{subst}
use Rattle.amqp_frame.specs.Fronts.{IsFront}
use Rattle.amqp_frame.proofs.FrontOnly.{front_holds}
use Rattle.amqp_frame.proofs.Asks.{front_asked}
use Rattle.amqp_frame.proofs.read.shape_at.Goals as goal

pub returns-clause-holds : goal.returns-clause-holds
returns-clause-holds g c =
    let bytes = g.V.View.bytes c.args.view.now in
    subst (IsFront bytes c.args.limit) c.first.ensures.answer
    (front_holds bytes c.args.limit c.len-count.ensures.octets)

pub returns-clause-asks : goal.returns-clause-asks
returns-clause-asks g c =
    λ asks.
    front_asked (g.V.View.bytes c.args.view.now) c.args.limit c.len-count.ensures.octets (c.first.ensures.asks asks)
