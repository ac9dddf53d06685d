use Rattle.amqp_double.proofs.Taking.{read_added}
use Rattle.amqp_double.proofs.arrivals.Arrivals.read.Goals as goal

pub arrivals-preserved : goal.arrivals-preserved
arrivals-preserved c =
    read_added c.args.bytes.now c.args.numbers c.args.start c.arrivals.place c.in-Whole.size c.in-Whole.frame c.arrivals.self c.add.new.self c.arrivals.invariant c.in-Whole.ensures.front
    c.in_ok-add-in-Whole.ensures
