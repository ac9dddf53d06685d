use Rattle.std.proofs.Common.{false, inr, sym, subst}
use Rattle.amqp_replay.specs.Ends.{FailedOnce}
use Rattle.amqp_replay.specs.Grammar.{parsed}
use Rattle.amqp_replay.specs.Generator.{generated}
use Rattle.amqp_replay.specs.Report.{Printout}
use Rattle.amqp_replay.specs.Top.{Prints}
use Rattle.amqp_replay.proofs.Statuses.{IsLoud, made_of_generated-IsLoud, written, Generates-made}
use Rattle.amqp_replay.proofs.Sayables.{script-said}
use Rattle.amqp_replay.proofs.answering.generate.Goals as goal

pub returns-in-Ok : goal.returns-in-Ok
returns-in-Ok g c =
    let before = g.K.Sink.held c.args.sink.now in
    let after = g.K.Sink.held c.put_printout.new.sink in
    let log = g.P.Port.log c.args.port.now in
    let log' = g.P.Port.log c.print_number.new.port in
    let made = c.in-Ok.ensures in
    let L : Printout → Type 0 = λ p. IsLoud p.status in
    let Q : Printout → Type 0 = λ p. Prints p before after c.put_printout.result in
    let script = generated c.args.count in
    let read = parsed false script in
    let prints = subst Q made.is c.put_printout.ensures.prints in
    let loud = subst L (sym made.is) (made_of_generated-IsLoud script read made.answers) in
    let done = written (FailedOnce (g.K.Sink.faults c.args.sink.now) (g.K.Sink.faults c.put_printout.new.sink)) c.in-Ok.printout before after c.put_printout.result loud c.put_printout.ensures.cause c.put_printout.ensures.prints in
    record {
      known = done.known;
      sink_failed = done.failed;
      sink_kept = c.put_printout.ensures.kept;
      silent = done.silent;
      outcome = inr (Generates-made c.a_valid_script_ends_closed.ensures.closed script read made.answers log log' before after c.put_printout.result
          made.may (made.told (script-said false script)) prints);
    }
