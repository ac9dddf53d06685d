use Rattle.std.proofs.Common.{List, ◌++◌, length, drop, ◌∙◌, ap₂, rules, ℕ, ◌-◌, take-append-drop}
use borrow.Rule.Slice.PartMut.{put_mid}
use Rattle.amqp_ring.specs.Memory.{rotate}
use Rattle.amqp_ring.proofs.Rotations.{put_round}
use Rattle.amqp_ring.proofs.memory.put_from.Goals as goal

pub returns-else-bytes-to_end-clause-put : goal.returns-else-bytes-to_end-clause-put
returns-else-bytes-to_end-clause-put c =
    let memory = c.args.memory.now in
    let first = c.split_at.result.0.now in
    let rest = c.split_at.result.1.now in
    let at_end = c.copy_from_slice-else-bytes-to_end.ensures.after in
    let at_front = c.copy_from_slice-else-bytes-to_end-2.ensures.after in
    ap₂ (λ (q p : List ℕ).
    rotate c.args.place (q ++ drop (length rest) (put_mid c.args.place (length memory - c.args.place) memory p)))
    at_front at_end
    ∙ put_round memory c.args.bytes.now first rest c.args.place c.requires.within c.requires.fit (search rules)
    (ap₂ ◌++◌ c.split_at.ensures.front c.split_at.ensures.back ∙ take-append-drop _ _)
