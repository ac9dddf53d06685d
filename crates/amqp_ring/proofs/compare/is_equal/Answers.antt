use Rattle.std.proofs.Common.{◌≡◌, true}
use Rattle.std.proofs.lemmas.Bool.Decides.{Decides-eqb}
use Rattle.std.proofs.lemmas.Slice.Eq.{slice_eq-Decides}
use Rattle.amqp_ring.proofs.Comparing.{equal_by_parts, second_tells, first_follows}
use Rattle.amqp_ring.proofs.compare.is_equal.Goals as goal

pub returns-then-eq : goal.returns-then-eq
returns-then-eq c =
    let a = c.args.read.first.now in
    let b = c.args.read.second.now in
    let x = c.split_at.result.0.now in
    let y = c.split_at.result.1.now in
    second_tells equal_by_parts a b x y c.args.bytes.now c.split_at.ensures.front c.split_at.ensures.back
    c.split_at.ensures.front_len c.eq-then-eq.result
    ((slice_eq-Decides Decides-eqb a x c.eq.result c.eq.ensures).0 c.if-eq.true)
    (slice_eq-Decides Decides-eqb b y c.eq-then-eq.result c.eq-then-eq.ensures)

pub returns-else-eq : goal.returns-else-eq
returns-else-eq c =
    let a = c.args.read.first.now in
    let x = c.split_at.result.0.now in
    let differs = c.if-eq.false in (
      (λ (t : c.eq.result ≡ true). absurd (cc)),
      (λ e. (slice_eq-Decides Decides-eqb a x c.eq.result c.eq.ensures).1
          (first_follows equal_by_parts a c.args.read.second.now x c.split_at.result.1.now c.args.bytes.now
          c.split_at.ensures.front c.split_at.ensures.back c.split_at.ensures.front_len e)),
    )
