use Rattle.std.proofs.Common.{◌≡◌, ◌∙◌, ap, sym, subst, ℕ, ◌+◌, ◌≤◌, List, Some, None, is_some, length, arith}
use Rattle.std.specs.BTreeMap.{BTreeMap}
use Rattle.std.specs.Option.{option_copied_mut}
use Rattle.std.specs.VecDeque.{deque_capacity}
use Rattle.amqp_outbox.specs.declared.numbers.Queue.{Queue}
use Rattle.amqp_outbox.specs.Listed.{at}
use Rattle.amqp_outbox.specs.Order.{listed}
use Rattle.amqp_outbox.proofs.Cases.{on-ok}
use Rattle.amqp_outbox.proofs.Listing.{kept-listed}
use Rattle.amqp_outbox.proofs.numbers.Numbers.reserve_under.Goals as goal

pub returns-in-Some-clause-same : goal.returns-in-Some-clause-same
returns-in-Some-clause-same c k =
    let q = c.in-Some.queue.now in
    let q' = c.reserve.new.self in
    let there : at c.args.key c.args.self.now.lists.entries ≡ Some q = sym c.in-Some.ensures.value in
    kept-listed c.args.key k c.args.self.now.lists.entries _ (Some q) (Some q') there (((c.get_mut.follows.holds q').3 (ap is_some there)).0 k) c.reserve.ensures.items

pub returns-in-Some-clause-room : goal.returns-in-Some-clause-room
returns-in-Some-clause-room c =
    let q = c.in-Some.queue.now in
    let q' = c.reserve.new.self in
    let there : at c.args.key c.args.self.now.lists.entries ≡ Some q = sym c.in-Some.ensures.value in
    on-ok c.reserve.result (λ room. (
      q',
      ((c.get_mut.follows.holds q').3 (ap is_some there)).1,
      subst (λ (l : List ℕ). length l + c.args.numbers ≤ deque_capacity q'.numbers) (sym c.reserve.ensures.items) room,
    ))
    c.reserve.ensures.ok

pub returns-in_ok-insert-in-None-clause-same : goal.returns-in_ok-insert-in-None-clause-same
returns-in_ok-insert-in-None-clause-same c k =
    let queue = c.in_ok-queue-in-None.queue in
    let es = c.get_mut.follows.lender-at-none.entries in
    let none : at c.args.key es ≡ None =
    ap (λ (m : BTreeMap ℕ Queue). at c.args.key m.entries) c.get_mut.follows.holds-at-none ∙ sym c.get_mut.ensures.value ∙ ap option_copied_mut c.in-None.is in
    kept-listed c.args.key k es _ None (Some queue) none (c.in_ok-insert-in-None.ensures.updates.0 k) c.in_ok-queue-in-None.ensures.0
    ∙ ap (λ (m : BTreeMap ℕ Queue). listed k m.entries) c.get_mut.follows.holds-at-none

pub returns-in_ok-insert-in-None-clause-room : goal.returns-in_ok-insert-in-None-clause-room
returns-in_ok-insert-in-None-clause-room c =
    let queue = c.in_ok-queue-in-None.queue in
    let empty : length queue.numbers.items ≡ 0 = ap length c.in_ok-queue-in-None.ensures.0 in
    (queue, c.in_ok-insert-in-None.ensures.updates.1, omega (arith, empty, c.in_ok-queue-in-None.ensures.1))
