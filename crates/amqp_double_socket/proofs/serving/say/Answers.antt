use Rattle.std.proofs.Common.{◌≤◌, arith, ◌∙◌, subst, length, take}
use Rattle.std.specs.Io.KnownBytes.{Appends}
use Rattle.amqp_double_socket.proofs.Written.{Sends-then, Sends-kept, AnswersClient-then}
use Rattle.amqp_double.specs.Doubles.{AnswersClient}
use Rattle.amqp_double_socket.specs.Serving.{Sends}
use Rattle.amqp_double_socket.proofs.serving.say.Goals.{in-Ok, in-Err}
use Rattle.amqp_double_socket.proofs.serving.say.Goals as goal
use Rattle.std.proofs.Common.{sym}

pub octets-preserved : goal.octets-preserved
octets-preserved g c =
    let e = c.octets.double in
    let given = c.output-in-octets.ensures.output in
    elim c.match-write.branch [
      | in-Ok w ↦
          let n = w.in-Ok.count in
          let within = subst (λ x. n ≤ length x) given w.in-Ok.ensures.bound in
          let bytes = subst (λ x. Appends (g.W.Write.contents c.octets.writer.stream) (g.W.Write.contents c.write.new.self.stream) (take n x)) given w.in-Ok.ensures.bytes in
          record {
            answers = AnswersClient-then e _ n (w.double-is ∙ w.sent.ensures) within c.octets.invariant.answers;
            rises = omega (arith, c.octets.invariant.rises, c.write.ensures.rises);
            sends = Sends-then c.args.double.now e _ _ _ _ n (w.double-is ∙ w.sent.ensures) c.octets.invariant.sends within bytes;
          }
      | in-Err w ↦ record {
        answers = subst AnswersClient (sym w.double-is) c.octets.invariant.answers;
        rises = omega (arith, c.octets.invariant.rises, c.write.ensures.rises);
        sends = subst (λ d. Sends c.args.double.now d (g.W.Write.contents c.args.writer.now.stream) (g.W.Write.contents c.write.new.self.stream)) (sym w.double-is)
            (Sends-kept c.args.double.now e _ _ _ c.octets.invariant.sends w.in-Err.ensures.bytes);
      }
    ]
