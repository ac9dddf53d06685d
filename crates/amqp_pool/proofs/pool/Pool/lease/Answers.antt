use Rattle.std.proofs.Common.{◌≡◌, ◌∙◌, ◌+◌, ◌≤◌, ◌<◌, not, ℕ, List, [], ◌∷◌, ◌++◌, length, Some, None, ap, sym, subst, arith}
use Rattle.std.specs.Prelude.{filter, find}
use Rattle.amqp_outbox.specs.Lists.{without_first}
use Rattle.amqp_commands.specs.declared.command.ChanRef.{ChanRef}
use Rattle.amqp_rules.specs.Talk.{Talk}
use Rattle.amqp_pool.specs.declared.lease.Leased.TheVariants.{Now, Full}
use Rattle.amqp_pool.specs.Lost.{is_lost, is_ready, without_lost}
use Rattle.amqp_pool.specs.Looking.{stays_idle}
use Rattle.amqp_pool.specs.Pooled.{Pooled, pooled, AreMade}
use Rattle.amqp_pool.specs.Leasing.{after_lease}
use Rattle.amqp_pool.proofs.Channels.{fewer-filter}
use Rattle.amqp_pool.proofs.Keeping.{count-all, made-now, made-full}
use Rattle.amqp_pool.proofs.Steps.{Becomes, now-step, full-step}
use Rattle.amqp_pool.proofs.pool.Pool.lease.Goals as goal

-- what was looked at is what the session says of the idle channels
first-is : (t u : Talk) (r : ChanRef) (idle items : List ChanRef) → u ≡ t → items ≡ idle → find (is_ready u) (without_lost u items) ≡ Some r
    → find (is_ready t) (without_lost t idle) ≡ Some r
first-is t u r idle items same read h =
    subst (λ (x : Talk). find (is_ready x) (without_lost x idle) ≡ Some r) same
    (subst (λ (l : List ChanRef). find (is_ready u) (without_lost u l) ≡ Some r) read h)

pub invariant_of-self : goal.invariant_of-self
invariant_of-self c =
    let s = c.self.inside in
    let t : Talk = c.args.hub.now.engine.talk in
    let r : ChanRef = c.in-Ready.channel in
    let first = first-is t c.session.result.now r s.idle.items c.deref.result.now c.session.ensures c.deref.ensures.value c.in-Ready.ensures in
    let step = now-step t s.limit s.idle.items s.leased.items s.opening.items _ _ c.self.invariant.0 c.self.invariant.1 r c.sweep.new.idle.items c.push_reserved.new.self.items _ _ first
    (c.sweep.ensures.items ∙ ap (λ (x : Talk). filter (stays_idle x (Some r)) s.idle.items) c.session-in-Ready.ensures) c.push_reserved.ensures.items
    c.sweep.ensures.capacity c.push_reserved.ensures.capacity in
    (step.kept, step.places)

pub overflow_add-count : goal.overflow_add-count
overflow_add-count c =
    let s = c.self.inside in
    let p : Pooled = pooled s.limit s.idle.items s.leased.items s.opening.items in
    let fewer : length (without_lost c.session.result.now c.deref.result.now) ≤ length c.deref.result.now =
    fewer-filter (λ (r : ChanRef). not (is_lost c.session.result.now r)) c.deref.result.now in
    let same : length c.deref.result.now ≡ length s.idle.items = ap length c.deref.ensures.value in
    omega (arith, c.in-Waiting.ensures.1, fewer, same, count-all p, c.self.invariant.0.few)

pub overflow_add-count-in-Waiting : goal.overflow_add-count-in-Waiting
overflow_add-count-in-Waiting c =
    let s = c.self.inside in
    let p : Pooled = pooled s.limit s.idle.items s.leased.items s.opening.items in
    let fewer : length (without_lost c.session.result.now c.deref.result.now) ≤ length c.deref.result.now =
    fewer-filter (λ (r : ChanRef). not (is_lost c.session.result.now r)) c.deref.result.now in
    let same : length c.deref.result.now ≡ length s.idle.items = ap length c.deref.ensures.value in
    omega (arith, c.in-Waiting.ensures.1, fewer, same, count-all p, c.self.invariant.0.few)

pub invariant_of-self-in-Waiting : goal.invariant_of-self-in-Waiting
invariant_of-self-in-Waiting c =
    let s = c.self.inside in
    let t : Talk = c.args.hub.now.engine.talk in
    let step = full-step t s.limit s.idle.items s.leased.items s.opening.items _ _ c.self.invariant.0 c.self.invariant.1 s.limit c.sweep-in-Waiting.new.idle.items _
    (c.sweep-in-Waiting.ensures.items ∙ ap (λ (x : Talk). filter (stays_idle x None) s.idle.items) c.session-in-Waiting.ensures)
    c.sweep-in-Waiting.ensures.capacity in
    (step.kept, step.places)

pub returns-in-Ready-clause-pool : goal.returns-in-Ready-clause-pool
returns-in-Ready-clause-pool c =
    let s = c.self.inside in
    let t : Talk = c.args.hub.now.engine.talk in
    let r : ChanRef = c.in-Ready.channel in
    let first = first-is t c.session.result.now r s.idle.items c.deref.result.now c.session.ensures c.deref.ensures.value c.in-Ready.ensures in
    let step = now-step t s.limit s.idle.items s.leased.items s.opening.items _ _ c.self.invariant.0 c.self.invariant.1 r c.sweep.new.idle.items c.push_reserved.new.self.items _ _ first
    (c.sweep.ensures.items ∙ ap (λ (x : Talk). filter (stays_idle x (Some r)) s.idle.items) c.session-in-Ready.ensures) c.push_reserved.ensures.items
    c.sweep.ensures.capacity c.push_reserved.ensures.capacity in
    step.is ∙ ap (λ (x : Pooled). after_lease t (Now r) x) c.self.view_is

pub returns-in-Ready-clause-still_made : goal.returns-in-Ready-clause-still_made
returns-in-Ready-clause-still_made c =
    let s = c.self.inside in
    let t : Talk = c.args.hub.now.engine.talk in
    let r : ChanRef = c.in-Ready.channel in
    let p : Pooled = pooled s.limit s.idle.items s.leased.items s.opening.items in
    let first = first-is t c.session.result.now r s.idle.items c.deref.result.now c.session.ensures c.deref.ensures.value c.in-Ready.ensures in
    let step = now-step t s.limit s.idle.items s.leased.items s.opening.items _ _ c.self.invariant.0 c.self.invariant.1 r c.sweep.new.idle.items c.push_reserved.new.self.items _ _ first
    (c.sweep.ensures.items ∙ ap (λ (x : Talk). filter (stays_idle x (Some r)) s.idle.items) c.session-in-Ready.ensures) c.push_reserved.ensures.items
    c.sweep.ensures.capacity c.push_reserved.ensures.capacity in
    subst (λ (x : Pooled). AreMade x t) (sym step.is) (made-now t p r first (subst (λ (x : Pooled). AreMade x t) (sym c.self.view_is) c.requires.made))

pub returns-else-count-self-clause-still_made : goal.returns-else-count-self-clause-still_made
returns-else-count-self-clause-still_made c =
    let s = c.self.inside in
    let t : Talk = c.args.hub.now.engine.talk in
    let p : Pooled = pooled s.limit s.idle.items s.leased.items s.opening.items in
    let step = full-step t s.limit s.idle.items s.leased.items s.opening.items _ _ c.self.invariant.0 c.self.invariant.1 s.limit c.sweep-in-Waiting.new.idle.items _
    (c.sweep-in-Waiting.ensures.items ∙ ap (λ (x : Talk). filter (stays_idle x None) s.idle.items) c.session-in-Waiting.ensures)
    c.sweep-in-Waiting.ensures.capacity in
    subst (λ (x : Pooled). AreMade x t) (sym step.is) (made-full t p s.limit (subst (λ (x : Pooled). AreMade x t) (sym c.self.view_is) c.requires.made))
