use Rattle.std.proofs.Common.{◌≡◌, ◌∙◌, true, ap, refl, sym, subst, arith}
use Rattle.amqp_rules.specs.Talk.{Talk, is_open}
use Rattle.amqp_rules.specs.Changes.{present_at}
use Rattle.amqp_rules.specs.Ticks.{tick}
use Rattle.amqp_outgoing.specs.Marks.{left_in}
use Rattle.amqp_rules.proofs.Keeping.{present-keeps, keeps-tick}
use Rattle.amqp_engine.specs.declared.port.Step.TheVariants.{Tick}
use Rattle.amqp_auth.specs.Asking.{Unanswered}
use Rattle.amqp_engine.specs.Engine.{Engine, settle, step_questions}
use Rattle.amqp_engine.specs.Making.{StepHears}
use Rattle.amqp_engine.proofs.Committing.{opens-tick}
use Rattle.amqp_engine.proofs.wire.Wire.take_tick.Goals as goal

pub invariant_of-self-2 : goal.invariant_of-self-2
invariant_of-self-2 g c =
    let t = c.self.inside.session in
    let at = c.args.at in
    let x : Talk = present_at at t in
    let h = c.in_default.ensures.ok in
    let k = keeps-tick h.answers x in
    let capacity = ap (λ (y : Talk). y.capacity) h.talk ∙ k.capacity ∙ present-keeps (λ y. y.capacity) at t (λ n. refl) in (
      λ now.
          let still : is_open (tick h.answers x) ≡ true = sym (ap is_open h.talk) ∙ now in
          let opened : is_open t ≡ true = sym (present-keeps is_open at t (λ n. refl)) ∙ opens-tick h.answers x still in
          let committed = ap (λ (y : Talk). y.committed) h.talk ∙ k.committed still ∙ present-keeps (λ y. y.committed) at t (λ n. refl) in
          c.self.invariant.0 opened ∙ sym (ap left_in committed),
      c.self.invariant.1 ∙ sym capacity,
      c.self.invariant.2 ∙ sym capacity,
      omega (arith, capacity, c.self.invariant.3),
    )

pub returns-clause-ok : goal.returns-clause-ok
returns-clause-ok g c =
    let h = c.in_default.ensures.ok in
    let before = g.A.AuthProvider.allows c.args.provider.now in
    let after = g.A.AuthProvider.allows c.tick.new.provider in
    let inside = c.self.inside in
    let x : Engine = record { talk = inside.session; unread = inside.unread.kept; place = inside.place; unsent = inside.unsent.kept; starved = inside.starved } in
    let P : Engine → Type 0 = λ y. StepHears c.args.at Tick y c.settle.new.self before after c.args.auths.now.list c.tick.new.auths.list in
    subst P c.self.view_is
    (record { answers = h.answers; asks = h.asks; engine = λ bytes. c.settle.ensures ∙ ap (λ (t : Talk). settle (record x { talk = t })) h.talk })

pub returns-in-Err-clause-unanswered : goal.returns-in-Err-clause-unanswered
returns-in-Err-clause-unanswered g c =
    let P : Engine → Type 0 = λ y. Unanswered (λ answers. step_questions c.args.at Tick answers y) (g.A.AuthProvider.allows c.args.provider.now) c.args.auths.now.list c.tick.new.auths.list in
    subst P c.self.view_is c.in-Err.ensures.unanswered
