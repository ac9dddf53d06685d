use Rattle.std.proofs.Common.{◌≡◌, ◌∙◌, ◌≤◌, ap, sym, subst, arith}
use Rattle.amqp_rules.specs.Talk.{Talk}
use Rattle.amqp_pool.specs.Pooled.{Pooled, pooled, times, AreMade}
use Rattle.amqp_pool.proofs.Steps.{Becomes, collect-step, opening-different}
use Rattle.amqp_pool.proofs.Polling.{each-made, each-other}
use Rattle.amqp_pool.proofs.Keeping.{made-collected}
use Rattle.amqp_pool.proofs.pool.Pool.collect.Goals as goal

pub collect_each-requires-clause-different : goal.collect_each-requires-clause-different
collect_each-requires-clause-different c =
    let s = c.self.inside in
    opening-different c.args.hub.now.engine.talk s.limit s.idle.items s.leased.items s.opening.items _ _ c.self.invariant.0 c.self.invariant.1

pub invariant_of-self : goal.invariant_of-self
invariant_of-self c =
    let s = c.self.inside in
    let step = collect-step c.args.hub.now.engine.talk s.limit s.idle.items s.leased.items s.opening.items _ _ c.self.invariant.0 c.self.invariant.1
    c.collect_each.new.idle.items c.collect_each.new.opening.items _ c.collect_each.ensures.idle c.collect_each.ensures.opening c.collect_each.ensures.places in
    (step.kept, step.places)

pub returns-clause-others : goal.returns-clause-others
returns-clause-others c = λ n none.
    each-other n c.self.inside.opening.items c.args.hub.now.engine.talk c.collect_each.new.hub.engine.talk
    (ap (λ (p : Pooled). times n p.opening) c.self.view_is ∙ none) c.collect_each.ensures.polled

pub returns-clause-still_made : goal.returns-clause-still_made
returns-clause-still_made c =
    let s = c.self.inside in
    let t : Talk = c.args.hub.now.engine.talk in
    let t' : Talk = c.collect_each.new.hub.engine.talk in
    let p : Pooled = pooled s.limit s.idle.items s.leased.items s.opening.items in
    let step = collect-step t s.limit s.idle.items s.leased.items s.opening.items _ _ c.self.invariant.0 c.self.invariant.1
    c.collect_each.new.idle.items c.collect_each.new.opening.items _ c.collect_each.ensures.idle c.collect_each.ensures.opening c.collect_each.ensures.places in
    let same : t'.made ≡ t.made = each-made s.opening.items t t' c.collect_each.ensures.polled in
    subst (λ (x : Pooled). AreMade x t') (sym step.is)
    (made-collected t t' p (omega (arith, same)) (subst (λ (x : Pooled). AreMade x t) (sym c.self.view_is) c.requires.made))

pub returns-clause-promises : goal.returns-clause-promises
returns-clause-promises c = each-made c.self.inside.opening.items _ _ c.collect_each.ensures.polled
