use Rattle.std.proofs.Common.{sym, subst, ℕ, suc, Option, IfSome}
use Rattle.amqp_outbox.specs.Order.{HasRoom}
use Rattle.amqp_outbox.proofs.numbers.Numbers.push_reserved.Goals as goal

pub returns-in-Some-clause-room : goal.returns-in-Some-clause-room
returns-in-Some-clause-room c n room =
    let had : Option ℕ → Type 0 = λ o. IfSome o (λ k. HasRoom k (suc n) c.args.self.now.lists.entries) in
    let has : Option ℕ → Type 0 = λ o. IfSome o (λ k. HasRoom k n c.push_under.new.self.lists.entries) in
    subst has (sym c.in-Some.is) (c.push_under.ensures.room n (subst had c.in-Some.is room))
