use Rattle.std.proofs.Common.{[], ◌∷◌, ◌++◌, arith, length-append}
use Rattle.amqp_frame.proofs.Sequences.{stand-push}
use Rattle.amqp_check.specs.Verdicts.{no_limit}
use Rattle.amqp_resumed.proofs.hearing.count_all.Goals as goal

pub counted-preserved : goal.counted-preserved
counted-preserved c =
    let next = rw c.in-Frame.is at c.in_ok-frame.ensures in
    let before = c.counted.invariant in (
      next.2,
      omega (arith, next.1, before.1),
      (
        before.2.0 ++ c.in-Frame.frame ∷ [],
        stand-push c.args.bytes.now no_limit 0 c.counted.place c.in-Frame.used before.2.0 c.in-Frame.frame before.2.1 next.0,
        omega (arith, before.2.2, length-append before.2.0 (c.in-Frame.frame ∷ [])),
      ),
    )
