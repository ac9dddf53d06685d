use Rattle.std.proofs.Common.{◌≡◌, ◌≤◌, ◌+◌, refl, subst, ℕ, List, length}
use Rattle.amqp_frame.specs.declared.frame.Read.TheVariants.{Whole}
use Rattle.amqp_frame.specs.Sequences.{front_at}
use Rattle.amqp_check.specs.Verdicts.{no_limit}
use Rattle.amqp_judge.proofs.Pieces.{read_frame}
use Rattle.amqp_judge.proofs.side.Side.next.Goals as goal

pub returns-in-Frame-clause-frame : goal.returns-in-Frame-clause-frame
returns-in-Frame-clause-frame c octets frames read =
    let next = rw c.in-Frame.is at c.in_ok-frame.ensures in
    let same : c.deref.result.now ≡ c.args.self.now.unread.items = c.deref.ensures.value in
    read_frame octets frames c.in-Frame.frame c.in-Frame.used c.args.self.now _ refl refl refl
    (subst (λ (xs : List ℕ). c.args.self.now.at + c.in-Frame.used ≤ length xs) same next.2)
    (subst (λ (xs : List ℕ). front_at xs no_limit c.args.self.now.at ≡ Whole c.in-Frame.frame c.in-Frame.used) same next.0) read
