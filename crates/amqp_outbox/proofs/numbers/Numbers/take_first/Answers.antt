use Rattle.std.proofs.Common.{◌≡◌, ◌∙◌, ap, sym, subst, ℕ, Some, None, is_some}
use Rattle.std.specs.Prelude.{drop}
use Rattle.std.specs.BTreeMap.{BTreeMap}
use Rattle.std.specs.Option.{option_copied_mut}
use Rattle.amqp_outbox.specs.declared.numbers.Queue.{Queue}
use Rattle.amqp_outbox.specs.Lists.{head}
use Rattle.amqp_outbox.specs.Listed.{at}
use Rattle.amqp_outbox.specs.Order.{listed, numbers_in, HasRoom}
use Rattle.amqp_outbox.proofs.Listing.{changed-listed, room-kept, none-to-drop, shorter}
use Rattle.amqp_outbox.proofs.numbers.Numbers.take_first.Goals as goal

pub returns-in-Some-clause-first : goal.returns-in-Some-clause-first
returns-in-Some-clause-first c = c.take_first.ensures.first ∙ ap (λ o. head (numbers_in o)) c.in-Some.ensures.value

pub returns-in-Some-clause-rest : goal.returns-in-Some-clause-rest
returns-in-Some-clause-rest c k =
    let q = c.in-Some.queue.now in
    let q' = c.take_first.new.self in
    let there : at c.args.key c.args.self.now.lists.entries ≡ Some q = sym c.in-Some.ensures.value in
    changed-listed c.args.key k c.args.self.now.lists.entries _ (λ l. drop 1 l) (Some q) (Some q') there
    (((c.get_mut.follows.holds q').3 (ap is_some there)).0 k) c.take_first.ensures.rest

pub returns-in-Some-clause-room : goal.returns-in-Some-clause-room
returns-in-Some-clause-room c k n =
    let q = c.in-Some.queue.now in
    let q' = c.take_first.new.self in
    let there : at c.args.key c.args.self.now.lists.entries ≡ Some q = sym c.in-Some.ensures.value in
    room-kept c.args.key k c.args.self.now.lists.entries _ q q' n there (((c.get_mut.follows.holds q').3 (ap is_some there)).0 k)
    (shorter q.numbers.items q'.numbers.items c.take_first.ensures.rest) c.take_first.ensures.kept

pub returns-in-None-clause-first : goal.returns-in-None-clause-first
returns-in-None-clause-first c =
    let none : at c.args.key c.args.self.now.lists.entries ≡ None = sym c.get_mut.ensures.value ∙ ap option_copied_mut c.in-None.is in
    sym (ap (λ o. head (numbers_in o)) none)

pub returns-in-None-clause-rest : goal.returns-in-None-clause-rest
returns-in-None-clause-rest c k =
    let none : at c.args.key c.args.self.now.lists.entries ≡ None = sym c.get_mut.ensures.value ∙ ap option_copied_mut c.in-None.is in
    ap (λ (m : BTreeMap ℕ Queue). listed k m.entries) c.get_mut.follows.holds-at-none
    ∙ none-to-drop c.args.key k c.args.self.now.lists.entries (ap numbers_in none)

pub returns-in-None-clause-room : goal.returns-in-None-clause-room
returns-in-None-clause-room c k n room =
    subst (λ (m : BTreeMap ℕ Queue). HasRoom k n m.entries) (sym c.get_mut.follows.holds-at-none) room
