use Rattle.std.proofs.Common.{[], ◌∷◌, ◌++◌, arith}
use Rattle.amqp_frame.proofs.Sequences.{stand-push}
use Rattle.amqp_check.specs.Verdicts.{no_limit}
use Rattle.amqp_resumed.proofs.hearing.hear_all.Goals as goal

pub frames-preserved : goal.frames-preserved
frames-preserved c =
    let next = rw c.in-Frame.is at c.in_ok-frame.ensures in
    let before = c.frames.invariant in (
      next.2,
      omega (arith, c.hear.ensures.count, next.1, before.1),
      (
        before.2.0 ++ c.in-Frame.frame ∷ [],
        stand-push c.args.bytes.now no_limit 0 c.frames.place c.in-Frame.used before.2.0 c.in-Frame.frame before.2.1 next.0,
        c.hear.ensures.heard before.2.0 before.2.2,
      ),
    )
