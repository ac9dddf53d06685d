use Rattle.std.proofs.Common.{subst, sym, [], ◌∷◌, ◌++◌}
use Rattle.amqp_judge.specs.declared.side.Side.{Side}
use Rattle.amqp_judge.specs.Taken.{IsReadUpTo}
use Rattle.amqp_judge.proofs.client.Client.read.Goals as goal

pub frames-preserved : goal.frames-preserved
frames-preserved c octets heard =
    let before = c.frames.invariant octets heard in
    let next = rw c.in-Some.is at c.in_ok-frame.ensures.frame in (
      before.0 ++ c.in-Some.frame ∷ [],
      subst (λ (s : Side). IsReadUpTo (octets ++ c.args.piece.now) (before.0 ++ c.in-Some.frame ∷ []) s) (sym c.hear.ensures.side)
          (next (octets ++ c.args.piece.now) before.0 before.1),
      c.hear.ensures.heard before.0 before.2,
    )
