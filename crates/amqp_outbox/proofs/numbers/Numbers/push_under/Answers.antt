use Rattle.std.proofs.Common.{◌≡◌, ap, sym, subst, ◌+◌, ◌≤◌, arith, [], ◌∷◌, ◌++◌, Some, is_some, length}
use Rattle.std.specs.VecDeque.{deque_capacity}
use Rattle.amqp_outbox.specs.declared.numbers.Queue.{Queue}
use Rattle.amqp_outbox.specs.Listed.{at}
use Rattle.amqp_outbox.proofs.Listing.{changed-listed}
use Rattle.amqp_outbox.proofs.Places.{room-pushed}
use Rattle.amqp_outbox.proofs.numbers.Numbers.push_under.Goals as goal

pub push_reserved-requires : goal.push_reserved-requires
push_reserved-requires c =
    let same : c.requires.0 ≡ c.in-Some.queue.now = cc (c.requires.1, c.in-Some.ensures.value) in
    let room = subst (λ (q : Queue). length q.numbers.items + 1 ≤ deque_capacity q.numbers) same c.requires.2 in
    omega (arith, room)

pub returns-in-Some-clause-listed : goal.returns-in-Some-clause-listed
returns-in-Some-clause-listed c k =
    let q = c.in-Some.queue.now in
    let q' = c.push_reserved.new.self in
    let there : at c.args.key c.args.self.now.lists.entries ≡ Some q = sym c.in-Some.ensures.value in
    changed-listed c.args.key k c.args.self.now.lists.entries _ (λ l. l ++ c.args.number ∷ []) (Some q) (Some q') there
    (((c.get_mut.follows.holds q').3 (ap is_some there)).0 k) c.push_reserved.ensures.items

pub returns-in-Some-clause-room : goal.returns-in-Some-clause-room
returns-in-Some-clause-room c n =
    let q = c.in-Some.queue.now in
    let q' = c.push_reserved.new.self in
    let there : at c.args.key c.args.self.now.lists.entries ≡ Some q = sym c.in-Some.ensures.value in
    room-pushed c.args.key n c.args.number c.args.self.now.lists.entries _ q q' there ((c.get_mut.follows.holds q').3 (ap is_some there)).1
    c.push_reserved.ensures.items c.push_reserved.ensures.kept
