use Rattle.std.proofs.Common.{◌≡◌, ◌∙◌, ℕ, Bool, true, false, List, [], ◌∷◌, ◌++◌, Some, ap, sym, subst}
use Rattle.std.specs.Prelude.{IsTrue, is_some, find, remove}
use Rattle.amqp_outbox.specs.Lists.{without_first, IsFirstAt}
use Rattle.amqp_outbox.proofs.FirstOfKind.{first-out, there-found}
use Rattle.amqp_commands.specs.declared.command.ChanRef.{ChanRef}
use Rattle.amqp_rules.specs.Talk.{Talk}
use Rattle.amqp_pool.specs.declared.lease.Back.TheVariants.{Kept, Lost}
use Rattle.amqp_pool.specs.Lost.{is_lost}
use Rattle.amqp_pool.specs.Pooled.{Pooled, pooled, is_same_channel, AreMade}
use Rattle.amqp_pool.specs.Leasing.{is_leased, after_back}
use Rattle.amqp_pool.proofs.Keeping.{made-back}
use Rattle.amqp_pool.proofs.Steps.{Becomes, lost-step, kept-step}
use Rattle.amqp_pool.proofs.pool.Pool.give_back.Goals as goal

module _ (t t' : Talk) (r r' : ChanRef) (leased items out : List ChanRef) (place : ℕ) (is : r' ≡ r) (read : items ≡ leased)
    (place_is : IsFirstAt (is_same_channel r') place items) where
  first : IsFirstAt (is_same_channel r) place leased
  first =
      subst (λ (x : ChanRef). IsFirstAt (is_same_channel x) place leased) is
      (subst (λ (l : List ChanRef). IsFirstAt (is_same_channel r') place l) read place_is)

  there : is_some (find (is_same_channel r) leased) ≡ true
  there = sym (there-found (is_same_channel r) leased (Some place) first tt)

  left : out ≡ remove leased place → out ≡ without_first (is_same_channel r) leased
  left h = h ∙ sym (first-out (is_same_channel r) leased place first)

  told : (b : Bool) → b ≡ is_lost t' r' → t' ≡ t → is_lost t r ≡ b
  told b h same = ap (λ (x : ChanRef). is_lost t x) (sym is) ∙ ap (λ (x : Talk). is_lost x r') (sym same) ∙ sym h

pub invariant_of-self : goal.invariant_of-self
invariant_of-self c =
    let s = c.self.inside in
    let t : Talk = c.args.hub.now.engine.talk in
    let some = there t t c.args.lease c.channel-channel.result s.leased.items c.deref.result.now s.leased.items c.in-Some.place c.channel-channel.ensures c.deref.ensures.value c.in-Some.ensures.place in
    let out = left t t c.args.lease c.channel-channel.result s.leased.items c.deref.result.now c.remove.new.self.items c.in-Some.place c.channel-channel.ensures c.deref.ensures.value c.in-Some.ensures.place c.remove.ensures.items in
    let step = lost-step t s.limit s.idle.items s.leased.items s.opening.items _ _ c.self.invariant.0 c.self.invariant.1 c.args.lease c.remove.new.self.items _ some out c.remove.ensures.capacity in
    (step.kept, step.places)

pub returns-then-is_lost-clause-back : goal.returns-then-is_lost-clause-back
returns-then-is_lost-clause-back c =
    let s = c.self.inside in
    let t : Talk = c.args.hub.now.engine.talk in
    let some = there t t c.args.lease c.channel-channel.result s.leased.items c.deref.result.now s.leased.items c.in-Some.place c.channel-channel.ensures c.deref.ensures.value c.in-Some.ensures.place in
    let lost = told t c.session.result.now c.args.lease c.channel-channel.result s.leased.items c.deref.result.now s.leased.items c.in-Some.place c.channel-channel.ensures c.deref.ensures.value c.in-Some.ensures.place c.is_lost.result c.is_lost.ensures c.session.ensures in
    (subst (λ (x : Pooled). IsTrue (is_leased c.args.lease x)) c.self.view_is some, lost ∙ c.if-is_lost.true)

pub returns-then-is_lost-clause-pool : goal.returns-then-is_lost-clause-pool
returns-then-is_lost-clause-pool c =
    let s = c.self.inside in
    let t : Talk = c.args.hub.now.engine.talk in
    let out = left t t c.args.lease c.channel-channel.result s.leased.items c.deref.result.now c.remove.new.self.items c.in-Some.place c.channel-channel.ensures c.deref.ensures.value c.in-Some.ensures.place c.remove.ensures.items in
    let is : pooled s.limit s.idle.items c.remove.new.self.items s.opening.items ≡ after_back Lost c.args.lease (pooled s.limit s.idle.items s.leased.items s.opening.items) =
    λ i. pooled s.limit s.idle.items (out i) s.opening.items in
    is ∙ ap (λ (x : Pooled). after_back Lost c.args.lease x) c.self.view_is

pub returns-then-is_lost-clause-still_made : goal.returns-then-is_lost-clause-still_made
returns-then-is_lost-clause-still_made c =
    let s = c.self.inside in
    let t : Talk = c.args.hub.now.engine.talk in
    let p : Pooled = pooled s.limit s.idle.items s.leased.items s.opening.items in
    let some = there t t c.args.lease c.channel-channel.result s.leased.items c.deref.result.now s.leased.items c.in-Some.place c.channel-channel.ensures c.deref.ensures.value c.in-Some.ensures.place in
    let lost = told t c.session.result.now c.args.lease c.channel-channel.result s.leased.items c.deref.result.now s.leased.items c.in-Some.place c.channel-channel.ensures c.deref.ensures.value c.in-Some.ensures.place c.is_lost.result c.is_lost.ensures c.session.ensures in
    let out = left t t c.args.lease c.channel-channel.result s.leased.items c.deref.result.now c.remove.new.self.items c.in-Some.place c.channel-channel.ensures c.deref.ensures.value c.in-Some.ensures.place c.remove.ensures.items in
    let is : pooled s.limit s.idle.items c.remove.new.self.items s.opening.items ≡ after_back Lost c.args.lease p = λ i. pooled s.limit s.idle.items (out i) s.opening.items in
    subst (λ (x : Pooled). AreMade x t) (sym is)
    (made-back t c.args.lease p Lost (some, lost ∙ c.if-is_lost.true) (subst (λ (x : Pooled). AreMade x t) (sym c.self.view_is) c.requires.made))

pub invariant_of-self-in-Some : goal.invariant_of-self-in-Some
invariant_of-self-in-Some c =
    let s = c.self.inside in
    let t : Talk = c.args.hub.now.engine.talk in
    let some = there t t c.args.lease c.channel-channel.result s.leased.items c.deref.result.now s.leased.items c.in-Some.place c.channel-channel.ensures c.deref.ensures.value c.in-Some.ensures.place in
    let out = left t t c.args.lease c.channel-channel.result s.leased.items c.deref.result.now c.remove.new.self.items c.in-Some.place c.channel-channel.ensures c.deref.ensures.value c.in-Some.ensures.place c.remove.ensures.items in
    let pushed = c.push_reserved.ensures.items ∙ ap (λ (x : ChanRef). s.idle.items ++ x ∷ []) c.channel-channel.ensures in
    let step = kept-step t s.limit s.idle.items s.leased.items s.opening.items _ _ c.self.invariant.0 c.self.invariant.1 c.args.lease c.push_reserved.new.self.items c.remove.new.self.items _ _ some pushed out c.push_reserved.ensures.capacity c.remove.ensures.capacity in
    (step.kept, step.places)

pub returns-else-is_lost-clause-back : goal.returns-else-is_lost-clause-back
returns-else-is_lost-clause-back c =
    let s = c.self.inside in
    let t : Talk = c.args.hub.now.engine.talk in
    let some = there t t c.args.lease c.channel-channel.result s.leased.items c.deref.result.now s.leased.items c.in-Some.place c.channel-channel.ensures c.deref.ensures.value c.in-Some.ensures.place in
    let lost = told t c.session.result.now c.args.lease c.channel-channel.result s.leased.items c.deref.result.now s.leased.items c.in-Some.place c.channel-channel.ensures c.deref.ensures.value c.in-Some.ensures.place c.is_lost.result c.is_lost.ensures c.session.ensures in
    (subst (λ (x : Pooled). IsTrue (is_leased c.args.lease x)) c.self.view_is some, lost ∙ c.if-is_lost.false)

pub returns-else-is_lost-clause-pool : goal.returns-else-is_lost-clause-pool
returns-else-is_lost-clause-pool c =
    let s = c.self.inside in
    let t : Talk = c.args.hub.now.engine.talk in
    let out = left t t c.args.lease c.channel-channel.result s.leased.items c.deref.result.now c.remove.new.self.items c.in-Some.place c.channel-channel.ensures c.deref.ensures.value c.in-Some.ensures.place c.remove.ensures.items in
    let pushed = c.push_reserved.ensures.items ∙ ap (λ (x : ChanRef). s.idle.items ++ x ∷ []) c.channel-channel.ensures in
    let is : pooled s.limit c.push_reserved.new.self.items c.remove.new.self.items s.opening.items ≡ after_back Kept c.args.lease (pooled s.limit s.idle.items s.leased.items s.opening.items) =
    λ i. pooled s.limit (pushed i) (out i) s.opening.items in
    is ∙ ap (λ (x : Pooled). after_back Kept c.args.lease x) c.self.view_is

pub returns-else-is_lost-clause-still_made : goal.returns-else-is_lost-clause-still_made
returns-else-is_lost-clause-still_made c =
    let s = c.self.inside in
    let t : Talk = c.args.hub.now.engine.talk in
    let p : Pooled = pooled s.limit s.idle.items s.leased.items s.opening.items in
    let some = there t t c.args.lease c.channel-channel.result s.leased.items c.deref.result.now s.leased.items c.in-Some.place c.channel-channel.ensures c.deref.ensures.value c.in-Some.ensures.place in
    let lost = told t c.session.result.now c.args.lease c.channel-channel.result s.leased.items c.deref.result.now s.leased.items c.in-Some.place c.channel-channel.ensures c.deref.ensures.value c.in-Some.ensures.place c.is_lost.result c.is_lost.ensures c.session.ensures in
    let out = left t t c.args.lease c.channel-channel.result s.leased.items c.deref.result.now c.remove.new.self.items c.in-Some.place c.channel-channel.ensures c.deref.ensures.value c.in-Some.ensures.place c.remove.ensures.items in
    let pushed = c.push_reserved.ensures.items ∙ ap (λ (x : ChanRef). s.idle.items ++ x ∷ []) c.channel-channel.ensures in
    let is : pooled s.limit c.push_reserved.new.self.items c.remove.new.self.items s.opening.items ≡ after_back Kept c.args.lease p = λ i. pooled s.limit (pushed i) (out i) s.opening.items in
    subst (λ (x : Pooled). AreMade x t) (sym is)
    (made-back t c.args.lease p Kept (some, lost ∙ c.if-is_lost.false) (subst (λ (x : Pooled). AreMade x t) (sym c.self.view_is) c.requires.made))
