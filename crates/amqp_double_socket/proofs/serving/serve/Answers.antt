use Rattle.std.proofs.Common.{◌≡◌, ◌≤◌, ◌++◌, ap, arith, drop, inl, inr, length, length-append, rules, subst, sym}
use Rattle.std.proofs.lemmas.List.{length-take-le}
use Rattle.amqp_double_socket.specs.declared.serving.Ended.TheVariants as ended
use Rattle.amqp_double_socket.proofs.Written.{HasWritten-none, HasWritten-on, FeedsOn-none, FeedsOn-on}
use Rattle.amqp_double_socket.specs.Serving.{FeedsOn}
use Rattle.amqp_double_socket.proofs.Faults.{fails_on}
use Rattle.amqp_double_socket.proofs.serving.serve.Goals as goal

pub pieces-init : goal.pieces-init
pieces-init g c = record {
  answers = c.closed.ensures.answers;
  all = c.requires.sent;
  written = HasWritten-none c.args.double.now (g.W.Write.contents c.args.writer.now.stream) c.requires.sent;
  heard = FeedsOn-none c.args.double.now (g.R.Read.remaining c.args.reader.now.stream);
  space = search rules;
  reads = omega arith;
  writes = omega arith;
  unrefused = λ h. h;
}

pub returns-in-Some-clause-written : goal.returns-in-Some-clause-written
returns-in-Some-clause-written g c =
    HasWritten-on c.args.double.now c.pieces.double c.serve_piece.new.double (g.W.Write.contents c.args.writer.now.stream) (g.W.Write.contents c.pieces.writer.stream)
    (g.W.Write.contents c.serve_piece.new.writer.stream) c.pieces.invariant.all c.pieces.invariant.written c.serve_piece.ensures.written

pub returns-in-Some-clause-heard : goal.returns-in-Some-clause-heard
returns-in-Some-clause-heard g c = λ other.
    FeedsOn-on c.args.double.now c.pieces.double c.serve_piece.new.double (g.R.Read.remaining c.args.reader.now.stream) (g.R.Read.remaining c.pieces.reader.stream)
    (g.R.Read.remaining c.serve_piece.new.reader.stream) c.pieces.invariant.unrefused c.pieces.invariant.heard
    (c.in-Some.ensures.heard (λ same. other (let is : c.in-Some.ended ≡ ended.NoMemory = cc in is)))

pub pieces-preserved : goal.pieces-preserved
pieces-preserved g c =
    let old = c.pieces.space.items in
    let new = c.serve_piece.new.space in
    let len : c.pieces.space.len ≡ length old = omega arith in
    let sized : length new ≡ length old = omega (arith, c.serve_piece.auto.space, ap length c.deref_mut.ensures.value) in
    let within : c.pieces.space.len ≤ length (new ++ drop (length new) old) =
    omega (arith, len, sized, length-append new (drop (length new) old)) in
    record {
      answers = c.serve_piece.ensures.answers;
      all = c.in-None.ensures.whole tt;
      written =
          HasWritten-on c.args.double.now c.pieces.double c.serve_piece.new.double (g.W.Write.contents c.args.writer.now.stream) (g.W.Write.contents c.pieces.writer.stream)
          (g.W.Write.contents c.serve_piece.new.writer.stream) c.pieces.invariant.all c.pieces.invariant.written c.serve_piece.ensures.written;
      heard =
          FeedsOn-on c.args.double.now c.pieces.double c.serve_piece.new.double (g.R.Read.remaining c.args.reader.now.stream) (g.R.Read.remaining c.pieces.reader.stream)
          (g.R.Read.remaining c.serve_piece.new.reader.stream) c.pieces.invariant.unrefused c.pieces.invariant.heard (c.in-None.ensures.heard (λ same. cc));
      space = omega (arith, c.pieces.invariant.space, len, length-take-le c.pieces.space.len (new ++ drop (length new) old) within);
      reads = omega (arith, c.pieces.invariant.reads, c.serve_piece.ensures.rises.0);
      writes = omega (arith, c.pieces.invariant.writes, c.serve_piece.ensures.rises.1);
      unrefused = λ free. c.in-None.ensures.unrefused (c.pieces.invariant.unrefused free);
    }

pub returns-in-Some-clause-failed : goal.returns-in-Some-clause-failed
returns-in-Some-clause-failed g c = λ same.
    elim (c.in-Some.ensures.failed cc) [
      | inl read ↦ inl (fails_on c.args.reader.now.faults c.pieces.reader.faults c.serve_piece.new.reader.faults c.pieces.invariant.reads read)
      | inr written ↦ inr (fails_on c.args.writer.now.faults c.pieces.writer.faults c.serve_piece.new.writer.faults c.pieces.invariant.writes written)
    ]

pub returns-clause-heard : goal.returns-clause-heard
returns-clause-heard g c = λ other.
    subst (λ s. FeedsOn c.args.double.now c.pieces.double (g.R.Read.remaining c.args.reader.now.stream) (g.R.Read.remaining s))
    (sym c.fail.ensures.stream) c.pieces.invariant.heard

pub returns-clause-failed : goal.returns-clause-failed
returns-clause-failed g c = λ same.
    inl (fails_on c.args.reader.now.faults c.pieces.reader.faults c.fail.new.self.faults c.pieces.invariant.reads c.fail.ensures.fails)
