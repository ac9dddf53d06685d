use Rattle.std.proofs.Common.{◌∙◌, ◌≡◌, ℕ, ◌+◌, List, length, ap, rules}
use Rattle.std.specs.Vec.{with_items}
use Rattle.std.proofs.lemmas.List.{with_items_is}
use Rattle.amqp_ring.specs.Ring.{written}
use Rattle.amqp_ring.specs.Memory.{ring_of}
use Rattle.amqp_ring.proofs.Rings.{written_ring}
use Rattle.amqp_ring.proofs.buffer.Buffer.write.Goals as goal

pub returns-clause-written : goal.returns-clause-written
returns-clause-written c =
    let b = c.self.inside in
    let was = c.deref_mut.ensures.value in
    let same : length c.put_from.new.memory ≡ length b.memory.items = c.put_from.ensures.len ∙ ap length was in
    let kept : (with_items b.memory c.put_from.new.memory).items ≡ c.put_from.new.memory =
    with_items_is b.memory c.put_from.new.memory (search rules) in
    ap (λ (m : List ℕ). ring_of b.position (b.kept + c.min-count.result) m) kept
    ∙ written_ring b.memory.items b.position b.kept c.self.invariant.0 c.self.invariant.1
    c.args.bytes.now c.put_from.new.memory c.min-count.result c.step_on-place.result
    same (search rules) (search rules) (rw (← was) c.put_from.ensures.put)
    ∙ ap (written c.args.bytes.now) c.self.view_is
