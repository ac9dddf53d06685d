use Rattle.amqp_promise.proofs.PlaceLemmas.{one_more}
use Rattle.amqp_promise.proofs.wakers.Wakers.register.Goals as goal

pub returns-clause-more : goal.returns-clause-more
returns-clause-more c =
    let reserved = c.in_ok-reserve.ensures.items in
    one_more c.args.cx.now c.register.new.self c.register.new.slot c.self.inside.places.items _ _
    (rw (← reserved) c.push_reserved.ensures.items) c.self.view_is c.register.ensures.left
