use Rattle.std.proofs.Common.{◌≡◌, ◌≤◌, ◌<◌, ◌+◌, ◌-◌, ◌∙◌, ℕ, true, Some, length, refl, ap, sym, arith, length-append}
use Rattle.std.specs.Prelude.{◌↔◌, Result, Ok, Err, IsErr, OnOk}
use Rattle.std.proofs.lemmas.List.Sums.{sum_by_push}
use Rattle.amqp_frame.specs.Frames.{encoding}
use Rattle.amqp_outbox.specs.Items.{size_of}
use Rattle.amqp_outgoing.specs.declared.committed.Mark.{Mark}
use Rattle.amqp_rules.specs.Talk.{Talk, is_open}
use Rattle.amqp_outgoing.specs.Marks.{left_in, mark_of}
use Rattle.amqp_rules.specs.Writing.{next_within, committed_as}
use Rattle.amqp_engine.proofs.Overlong.{next-commits, given-item, given-fits, given-open}
use Rattle.amqp_engine.proofs.wire.Wire.commit_next.Goals as goal

-- a frame that fits is put
is-put : {A B : Type 0} (r : Result A B) (P : Type 0) (n m : ℕ) → IsErr r ↔ (n < m) → m ≤ n → OnOk r P → P
is-put (Ok a) P n m full fits p = p
is-put (Err b) P n m full fits p = absurd (omega (arith, full.0 refl, fits))

pub invariant_of-self : goal.invariant_of-self
invariant_of-self c =
    let s = c.self.inside.session in
    let space = c.capacity.result - c.unsent.result in
    let frame = c.in-Some.frame in
    let within : space ≤ s.capacity = omega (arith, c.capacity.ensures.bytes) in
    let got = given-item (next_within space s) frame (sym c.next_frame.ensures.frame ∙ c.in-Some.is) in
    let item = got.0 in
    let opened : is_open s ≡ true = given-open space s item got.1 in
    let talk : c.next_frame.new.self ≡ committed_as (Some item) s =
    c.next_frame.ensures.next ∙ next-commits space s item within got.1 ∙ ap (λ o. committed_as o s) got.1 in
    let size : size_of item ≡ length (encoding frame) = ap (λ f. length (encoding f)) got.2 in
    let fits : size_of item ≤ space = given-fits _ space item got.1 in
    let counted : length c.self.inside.unsent.kept ≡ left_in s.committed = c.self.invariant.0 opened in
    let free = length c.self.inside.unsent.free in
    let room : length (encoding frame) ≤ free = omega (arith, size, fits, counted, c.unsent.ensures.bytes, c.capacity.ensures.bytes, c.self.invariant.2) in
    let bytes = is-put c.write_frame.result _ free (length (encoding frame)) c.write_frame.ensures.full room c.write_frame.ensures.bytes in
    let left = is-put c.write_frame.result _ free (length (encoding frame)) c.write_frame.ensures.full room c.write_frame.ensures.space in
    let marks : left_in c.next_frame.new.self.committed ≡ left_in s.committed + size_of item =
    ap (λ (t : Talk). left_in t.committed) talk ∙ sum_by_push (λ (m : Mark). m.left) s.committed (mark_of item) in
    let capacity : c.next_frame.new.self.capacity ≡ s.capacity = ap (λ (t : Talk). t.capacity) talk in
    let kept : length c.write_frame.new.room.kept ≡ length c.self.inside.unsent.kept + length (encoding frame) =
    ap length bytes ∙ length-append c.self.inside.unsent.kept (encoding frame) in (
      λ now. omega (arith, kept, counted, marks, size),
      c.self.invariant.1 ∙ sym capacity,
      omega (arith, kept, left, capacity, c.self.invariant.2),
      omega (arith, capacity, c.self.invariant.3),
    )
