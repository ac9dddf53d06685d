use Rattle.std.proofs.Common.{◌≡◌, ◌∙◌, ◌+◌, ◌≤◌, ℕ, List, [], ◌∷◌, ◌++◌, length, Some, None, ap, sym, subst, arith, vec_capacity}
use Rattle.std.specs.Prelude.{filter, IsTrue}
use Rattle.amqp_commands.specs.declared.command.ChanRef.{ChanRef}
use Rattle.amqp_commands.specs.declared.command.Cmd.TheVariants.{OpenChannel}
use Rattle.amqp_rules.specs.Commands.{command}
use Rattle.amqp_rules.specs.Talk.{Talk}
use Rattle.amqp_hub.specs.Guarded.{Guarded}
use Rattle.amqp_pool.specs.declared.lease.Leased.TheVariants.{Opening}
use Rattle.amqp_pool.specs.Looking.{stays_idle}
use Rattle.amqp_pool.specs.Pooled.{Pooled, pooled, AreMade}
use Rattle.amqp_pool.specs.Leasing.{AsksForOne, after_lease, hub_after_lease}
use Rattle.amqp_pool.proofs.Keeping.{made-lease}
use Rattle.amqp_pool.proofs.Steps.{Becomes, opening-step}
use Rattle.amqp_pool.proofs.pool.Pool.open_one.Goals as goal

pub invariant_of-self-in-Some : goal.invariant_of-self-in-Some
invariant_of-self-in-Some c =
    let s = c.self.inside in
    let t : Talk = c.args.hub.now.engine.talk in
    let p : Pooled = pooled s.limit s.idle.items s.leased.items s.opening.items in
    let items = c.in_ok-reserve_places.ensures.items in
    let places = c.in_ok-reserve_places.ensures.places in
    let told : c.session.result.now ≡ command OpenChannel t = c.session.ensures ∙ ap (λ (h : Guarded). h.engine.talk) c.in_ok-promise.ensures.entry in
    let made : AreMade p t = subst (λ (x : Pooled). AreMade x t) (sym c.self.view_is) c.requires.made in
    let asks : AsksForOne t p = subst (λ (x : Pooled). AsksForOne t x) (sym c.self.view_is) c.requires.asks in
    let some : Some c.in-Some.number ≡ Some t.made = sym c.in-Some.is ∙ c.in_ok-promise.ensures.promise in
    let next : c.in-Some.number ≡ t.made = cc in
    let step = opening-step t s.limit s.idle.items s.leased.items s.opening.items _ _ c.self.invariant.0 c.self.invariant.1
    c.session.result.now c.in-Some.number c.sweep.new.idle.items c.reserve_places.new.leased.items c.push_reserved.new.self.items
    (vec_capacity c.sweep.new.idle) (vec_capacity c.reserve_places.new.leased) told made asks.1 next
    (c.sweep.ensures.items ∙ ap (λ (l : List ChanRef). filter (stays_idle c.session.result.now None) l) items.0) items.1
    (c.push_reserved.ensures.items ∙ ap (λ (l : List ℕ). l ++ c.in-Some.number ∷ []) items.2)
    (omega (arith, places.0, c.sweep.ensures.capacity)) (omega (arith, places.1)) in
    (step.kept, step.places)

pub returns-clause-pool : goal.returns-clause-pool
returns-clause-pool c =
    let s = c.self.inside in
    let t : Talk = c.args.hub.now.engine.talk in
    let p : Pooled = pooled s.limit s.idle.items s.leased.items s.opening.items in
    let items = c.in_ok-reserve_places.ensures.items in
    let places = c.in_ok-reserve_places.ensures.places in
    let told : c.session.result.now ≡ command OpenChannel t = c.session.ensures ∙ ap (λ (h : Guarded). h.engine.talk) c.in_ok-promise.ensures.entry in
    let made : AreMade p t = subst (λ (x : Pooled). AreMade x t) (sym c.self.view_is) c.requires.made in
    let asks : AsksForOne t p = subst (λ (x : Pooled). AsksForOne t x) (sym c.self.view_is) c.requires.asks in
    let some : Some c.in-Some.number ≡ Some t.made = sym c.in-Some.is ∙ c.in_ok-promise.ensures.promise in
    let next : c.in-Some.number ≡ t.made = cc in
    let step = opening-step t s.limit s.idle.items s.leased.items s.opening.items _ _ c.self.invariant.0 c.self.invariant.1
    c.session.result.now c.in-Some.number c.sweep.new.idle.items c.reserve_places.new.leased.items c.push_reserved.new.self.items
    (vec_capacity c.sweep.new.idle) (vec_capacity c.reserve_places.new.leased) told made asks.1 next
    (c.sweep.ensures.items ∙ ap (λ (l : List ChanRef). filter (stays_idle c.session.result.now None) l) items.0) items.1
    (c.push_reserved.ensures.items ∙ ap (λ (l : List ℕ). l ++ c.in-Some.number ∷ []) items.2)
    (omega (arith, places.0, c.sweep.ensures.capacity)) (omega (arith, places.1)) in
    step.is ∙ ap (λ (x : Pooled). after_lease t (Opening c.in-Some.number) x) c.self.view_is

pub returns-clause-still_made : goal.returns-clause-still_made
returns-clause-still_made c =
    let s = c.self.inside in
    let t : Talk = c.args.hub.now.engine.talk in
    let p : Pooled = pooled s.limit s.idle.items s.leased.items s.opening.items in
    let items = c.in_ok-reserve_places.ensures.items in
    let places = c.in_ok-reserve_places.ensures.places in
    let told : c.session.result.now ≡ command OpenChannel t = c.session.ensures ∙ ap (λ (h : Guarded). h.engine.talk) c.in_ok-promise.ensures.entry in
    let made : AreMade p t = subst (λ (x : Pooled). AreMade x t) (sym c.self.view_is) c.requires.made in
    let asks : AsksForOne t p = subst (λ (x : Pooled). AsksForOne t x) (sym c.self.view_is) c.requires.asks in
    let some : Some c.in-Some.number ≡ Some t.made = sym c.in-Some.is ∙ c.in_ok-promise.ensures.promise in
    let next : c.in-Some.number ≡ t.made = cc in
    let step = opening-step t s.limit s.idle.items s.leased.items s.opening.items _ _ c.self.invariant.0 c.self.invariant.1
    c.session.result.now c.in-Some.number c.sweep.new.idle.items c.reserve_places.new.leased.items c.push_reserved.new.self.items
    (vec_capacity c.sweep.new.idle) (vec_capacity c.reserve_places.new.leased) told made asks.1 next
    (c.sweep.ensures.items ∙ ap (λ (l : List ChanRef). filter (stays_idle c.session.result.now None) l) items.0) items.1
    (c.push_reserved.ensures.items ∙ ap (λ (l : List ℕ). l ++ c.in-Some.number ∷ []) items.2)
    (omega (arith, places.0, c.sweep.ensures.capacity)) (omega (arith, places.1)) in
    let h : Guarded = c.args.hub.now in
    subst (λ (x : Guarded). AreMade (pooled s.limit c.sweep.new.idle.items c.reserve_places.new.leased.items c.push_reserved.new.self.items) x.engine.talk)
    (sym c.in_ok-promise.ensures.entry)
    (subst (λ (x : Pooled). AreMade x (hub_after_lease (Opening c.in-Some.number) c.args.pass.now h).engine.talk) (sym step.is)
    (made-lease h c.args.pass.now p (Opening c.in-Some.number) (asks, c.in_ok-promise.ensures.foreign, next) made))
