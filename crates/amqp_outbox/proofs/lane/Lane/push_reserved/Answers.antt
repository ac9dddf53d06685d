use Rattle.std.proofs.Common.{◌≡◌, ◌∙◌, ap, sym, subst, ℕ, suc, cond, if◌then◌else◌, List, [], ◌∷◌, ◌++◌, Option, Some, is_some, IfSome}
use Rattle.std.specs.Ordering.{nat_cmp}
use Rattle.std.specs.Map.{set_value}
use Rattle.std.specs.BTreeMap.{is_at}
use Rattle.amqp_outbox.specs.Lists.{is_the_number}
use Rattle.amqp_outbox.specs.Listed.{at}
use Rattle.amqp_outbox.specs.Order.{listed, HasRoom}
use Rattle.amqp_outbox.proofs.Sound.{waits-pushed, sound-pushed}
use Rattle.amqp_outbox.proofs.Places.{places-pushed}
use Rattle.amqp_outbox.proofs.lane.Lane.push_reserved.Goals as goal

pub invariant_of-self : goal.invariant_of-self
invariant_of-self g c =
    let self = c.args.self.now in
    let es = self.slots.entries in
    let list : ℕ → Option ℕ → List ℕ = λ k o. if is_the_number k o then listed k self.numbers.lists.entries ++ self.made ∷ [] else listed k self.numbers.lists.entries in
    record {
      sound =
          sound-pushed g.T.Keyed.key_of self.made es self.numbers.lists.entries self.sound c.args.thing c.in-Some.place.now _ c.get_mut.ensures.ordered (sym c.in-Some.ensures.value)
          ((c.get_mut.follows.holds c.fill.new.place).0 ∙ ap (set_value (is_at (nat_cmp self.made)) es) c.fill.ensures) _
          (λ k. c.push_reserved.ensures.listed k ∙ ap (list k) c.key.ensures);
    }

pub returns-in-Some-clause-waiting : goal.returns-in-Some-clause-waiting
returns-in-Some-clause-waiting g c =
    let self = c.args.self.now in
    let es = self.slots.entries in
    waits-pushed g.T.Keyed.key_of self.made es self.numbers.lists.entries self.sound c.args.thing c.in-Some.place.now _ c.get_mut.ensures.ordered (sym c.in-Some.ensures.value)
    ((c.get_mut.follows.holds c.fill.new.place).0 ∙ ap (set_value (is_at (nat_cmp self.made)) es) c.fill.ensures)

pub returns-in-Some-clause-places : goal.returns-in-Some-clause-places
returns-in-Some-clause-places g c n =
    let self = c.args.self.now in
    let es = self.slots.entries in
    let there : at self.made es ≡ Some c.in-Some.place.now = sym c.in-Some.ensures.value in
    let changed = ((c.get_mut.follows.holds c.fill.new.place).3 (ap is_some there)).0 in
    places-pushed self.made es _ self.numbers.lists.entries _ (g.T.Keyed.key_of c.args.thing) c.args.thing
    (λ q. changed q ∙ ap (λ p. cond (is_at (nat_cmp self.made) q) (Some p) (at q es)) c.fill.ensures)
    (λ m room.
    subst (λ o. IfSome o (λ k. HasRoom k m c.push_reserved.new.self.lists.entries)) c.key.ensures
    (c.push_reserved.ensures.room m (subst (λ o. IfSome o (λ k. HasRoom k (suc m) self.numbers.lists.entries)) (sym c.key.ensures) room)))
    n
