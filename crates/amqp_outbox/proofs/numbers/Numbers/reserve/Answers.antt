use Rattle.std.proofs.Common.{sym, subst, ℕ, Option, IfSome}
use Rattle.amqp_outbox.specs.Order.{HasRoom}
use Rattle.amqp_outbox.proofs.Cases.{on-ok}
use Rattle.amqp_outbox.proofs.numbers.Numbers.reserve.Goals as goal

pub returns-in-Some-clause-room : goal.returns-in-Some-clause-room
returns-in-Some-clause-room c =
    let has : Option ℕ → Type 0 = λ o. IfSome o (λ k. HasRoom k c.args.numbers c.reserve_under.new.self.lists.entries) in
    on-ok c.reserve_under.result (λ room. subst has (sym c.in-Some.is) room) c.reserve_under.ensures.room
