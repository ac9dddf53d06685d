use Rattle.std.proofs.Common.{is_some, inr}
use Rattle.amqp_replay.specs.Ends.{FailedOnce}
use Rattle.amqp_replay.specs.Grammar.{parsed}
use Rattle.amqp_replay.specs.Top.{handed_state, provider_state, printout, IsValid}
use Rattle.amqp_replay.proofs.Statuses.{printout-IsLoud, valid-closed, answered}
use Rattle.amqp_replay.proofs.Sayables.{script-said}
use Rattle.amqp_replay.proofs.answering.answer.Goals as goal

pub returns-in-Ok : goal.returns-in-Ok
returns-in-Ok g c =
    let made = c.in-Ok.ensures in
    let put = c.put_printout in
    let state = provider_state (handed_state g.A.AuthProvider.allows c.args.handed) in
    let read = parsed (is_some c.args.handed) c.args.script.now in
    let done =
    answered (FailedOnce (g.K.Sink.faults c.args.sink.now) (g.K.Sink.faults put.new.sink)) (IsValid read made.answers) (printout read made.answers)
    c.in-Ok.printout (g.K.Sink.held c.args.sink.now) (g.K.Sink.held put.new.sink) put.result made.is (printout-IsLoud read made.answers)
    (valid-closed c.a_valid_script_ends_closed.ensures.closed state read made.answers made.may) put.ensures.cause put.ensures.prints in
    record {
      known = done.written.known;
      sink_failed = done.written.failed;
      sink_kept = put.ensures.kept;
      silent = done.written.silent;
      outcome = inr (record { answers = made.answers; may = made.may; told = made.told (script-said (is_some c.args.handed) c.args.script.now); prints = done.prints; closed = done.closed });
    }
