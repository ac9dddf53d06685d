use Rattle.std.proofs.Common.{inr}
use Rattle.amqp_replay.specs.Ends.{FailedOnce}
use Rattle.amqp_replay.proofs.Statuses.{written}
use Rattle.amqp_doubled.proofs.Statuses.{doubled-loud}
use Rattle.amqp_doubled.proofs.Endings.{closed-ends}
use Rattle.amqp_doubled.proofs.doubling.double.Goals as goal

pub returns-in-Ok : goal.returns-in-Ok
returns-in-Ok g c =
    let before = g.K.Sink.held c.args.sink.now in
    let after = g.K.Sink.held c.put_printout.new.sink in
    let loud = doubled-loud c.args.count c.in-Ok.printout c.in-Ok.ensures in
    let done = written (FailedOnce (g.K.Sink.faults c.args.sink.now) (g.K.Sink.faults c.put_printout.new.sink)) c.in-Ok.printout before after c.put_printout.result loud
    c.put_printout.ensures.cause c.put_printout.ensures.prints in
    record {
      known = done.known;
      closed = closed-ends c.args.count c.put_printout.result c.in-Ok.printout before after c.in-Ok.ensures c.put_printout.ensures.prints;
      sink_failed = done.failed;
      sink_kept = c.put_printout.ensures.kept;
      silent = done.silent;
      doubled = inr (record { printout = c.in-Ok.printout; is = c.in-Ok.ensures; prints = c.put_printout.ensures.prints });
    }
