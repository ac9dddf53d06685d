use Rattle.std.proofs.Common.{subst, sym, [], ◌∷◌, ◌++◌, arith, length-append}
use Rattle.amqp_judge.specs.declared.side.Side.{Side}
use Rattle.amqp_judge.specs.Taken.{IsReadUpTo}
use Rattle.amqp_judge.proofs.server.Server.read.Goals as goal

pub frames-preserved : goal.frames-preserved
frames-preserved c octets counted =
    let before = c.frames.invariant octets counted in
    let next = rw c.in-Some.is at c.in_ok-frame.ensures.frame in (
      before.0 ++ c.in-Some.frame ∷ [],
      subst (λ (s : Side). IsReadUpTo (octets ++ c.args.piece.now) (before.0 ++ c.in-Some.frame ∷ []) s) (sym c.count.ensures.side)
          (next (octets ++ c.args.piece.now) before.0 before.1),
      omega (arith, c.count.ensures.count, before.2, length-append before.0 (c.in-Some.frame ∷ [])),
    )
