use Rattle.std.proofs.Common.{◌<◌, IsTrue, length, ap, arith, subst, sym, ◌∙◌}
use Rattle.amqp_answers.specs.declared.handed.Handed.{Handed}
use Rattle.amqp_uses.specs.Driving.{is_body}
use Rattle.amqp_uses.proofs.Deliveries.{octets, more-follow, next-is-body, no-more, clash}
use Rattle.amqp_uses.proofs.messages.joined.Goals as goal
use Rattle.amqp_uses.proofs.messages.joined.Goals.{then-count-frames-via-then-count-frames, then-count-frames-via-else-count-frames+then-not-is_body}

pub returns-then-count-frames-clause-found : goal.returns-then-count-frames-clause-found
returns-then-count-frames-clause-found c = λ n body are long.
    (let frames = c.args.frames.now in
    let here = c.bodies.invariant in
    let less : octets c.bodies.count frames < octets n frames =
    omega (arith, c.bodies-test.true, c.len.ensures, c.bodies.body.ok.0, ap length here.1.1, ap length are.1, long) in
    elim c.then-count-frames.branch [
      | then-count-frames-via-then-count-frames w ↦
          absurd (omega (arith, w.if-count-frames.true, more-follow frames c.bodies.count n less))
      | then-count-frames-via-else-count-frames+then-not-is_body w ↦
          (let d = w.index-frames-count.result in
          absurd (clash (is_body d) (sym w.is_body.ensures ∙ w.if-not-is_body.true)
          (subst (λ (f : Handed). IsTrue (is_body f)) (sym w.index-frames-count.is) (next-is-body frames c.bodies.count n d less are.0))))
    ])

pub returns-then-octets-size-clause-found : goal.returns-then-octets-size-clause-found
returns-then-octets-size-clause-found c = λ n body are long.
    (let frames = c.args.frames.now in
    let here = c.bodies.invariant in
    let less : octets c.bodies.count frames < octets n frames =
    omega (arith, c.bodies-test.true, c.len.ensures, c.bodies.body.ok.0, ap length here.1.1, ap length are.1, long) in
    absurd (omega (
      arith,
      no-more frames c.bodies.count n c.index-frames-count-in-bodies.result less,
      c.if-octets-size.true,
      c.len-in-bodies.ensures,
      c.bodies.body.ok.0,
      ap length here.1.1,
      ap length are.1,
      long,
      ap length c.as_bytes-octets.ensures,
    )))
