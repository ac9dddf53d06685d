use Rattle.std.proofs.Common.{sym, subst}
use Rattle.amqp_pool.specs.Pooled.{Pooled, AreMade}
use Rattle.amqp_pool.proofs.Closes.{kept-lists, made-lists}
use Rattle.amqp_pool.proofs.pool.Pool.close.Goals as goal

pub invariant_of-self : goal.invariant_of-self
invariant_of-self c =
    let s = c.self.inside in
    kept-lists c.close_each.ensures.closed.0 s.limit s.idle.items s.leased.items s.opening.items c.close_each.new.idle.items
    c.close_each.ensures.closed.1.stay _ _ _ c.self.invariant.0 c.self.invariant.1 c.close_each.ensures.places

pub returns-clause-still_made : goal.returns-clause-still_made
returns-clause-still_made c =
    let s = c.self.inside in
    made-lists c.close_each.ensures.closed.0 s.limit s.idle.items s.leased.items s.opening.items c.close_each.new.idle.items
    c.close_each.ensures.closed.1.stay c.args.hub.now.engine.talk c.close_each.new.hub.engine.talk c.close_each.ensures.promises
    (subst (λ (x : Pooled). AreMade x c.args.hub.now.engine.talk) (sym c.self.view_is) c.requires.made)
