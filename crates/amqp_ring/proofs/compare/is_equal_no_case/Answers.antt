use Rattle.std.proofs.Common.{◌≡◌, true}
use Rattle.amqp_ring.proofs.Comparing.{same_by_parts, second_tells, first_follows}
use Rattle.amqp_ring.proofs.compare.is_equal_no_case.Goals as goal

pub returns-then-eq_ignore_ascii_case : goal.returns-then-eq_ignore_ascii_case
returns-then-eq_ignore_ascii_case c =
    second_tells same_by_parts c.args.read.first.now c.args.read.second.now c.split_at.result.0.now
    c.split_at.result.1.now c.args.bytes.now c.split_at.ensures.front c.split_at.ensures.back
    c.split_at.ensures.front_len c.eq_ignore_ascii_case-then-eq_ignore_ascii_case.result
    (c.eq_ignore_ascii_case.ensures.test.0 c.if-eq_ignore_ascii_case.true)
    c.eq_ignore_ascii_case-then-eq_ignore_ascii_case.ensures.test

pub returns-else-eq_ignore_ascii_case : goal.returns-else-eq_ignore_ascii_case
returns-else-eq_ignore_ascii_case c =
    let differs = c.if-eq_ignore_ascii_case.false in (
      (λ (t : c.eq_ignore_ascii_case.result ≡ true). absurd (cc)),
      (λ e. c.eq_ignore_ascii_case.ensures.test.1
          (first_follows same_by_parts c.args.read.first.now c.args.read.second.now c.split_at.result.0.now
          c.split_at.result.1.now c.args.bytes.now c.split_at.ensures.front c.split_at.ensures.back
          c.split_at.ensures.front_len e)),
    )
