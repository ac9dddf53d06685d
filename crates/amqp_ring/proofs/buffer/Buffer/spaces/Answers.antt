use Rattle.std.proofs.Common.{◌≡◌, ◌+◌, ◌-◌, ◌∙◌, length, take, drop, ap, arith, length-drop}
use Rattle.amqp_ring.specs.Ring.{Ring}
use Rattle.amqp_ring.proofs.Rings.{free_before}
use Rattle.amqp_ring.proofs.buffer.Buffer.spaces.Goals as goal

pub returns-else-kept-to_end : goal.returns-else-kept-to_end
returns-else-kept-to_end c =
    let b = c.self.inside in
    let memory = c.as_mut_slice-memory.ensures.value in
    let same : length c.as_mut_slice-memory.result.now ≡ length b.memory.items = ap length memory in
    let far : b.kept
    ≡ length (drop b.position b.memory.items) + (b.kept - (length c.as_mut_slice-memory.result.now - b.position)) =
    omega (arith, length-drop b.position b.memory.items) in
    free_before b.memory.items c.split_at_mut-front-else-kept-to_end.result.0.now b.position b.kept _
    (c.split_at_mut-front-else-kept-to_end.ensures.front ∙ ap (take b.position) memory) far
    ∙ ap (λ (r : Ring). r.free) c.self.view_is
