use Rattle.std.proofs.Common.{sym, subst, List, [], ◌∷◌, ◌++◌}
use Rattle.std.specs.List.{AllByRecursion}
use Rattle.amqp_outbox.specs.declared.kinds.Kinds.{Kinds}
use Rattle.amqp_outbox.specs.declared.reply.Awaited.{Awaited}
use Rattle.amqp_outbox.specs.Kinds.{IsMarked}
use Rattle.amqp_outbox.proofs.FirstOfKind.{marks-pushed}
use Rattle.amqp_outbox.proofs.replies.Replies.push_reserved.Goals as goal

pub invariant_of-self : goal.invariant_of-self
invariant_of-self c =
    let self = c.args.self.now in
    let all = marks-pushed self.kinds self.list.items c.args.awaited self.told in
    record {
      told =
          subst (λ (l : List Awaited). AllByRecursion (IsMarked c.mark.new.self) l) (sym c.push_back_reserved.ensures.items)
          (subst (λ (k : Kinds). AllByRecursion (IsMarked k) (self.list.items ++ c.args.awaited ∷ [])) (sym c.mark.ensures) all);
    }
