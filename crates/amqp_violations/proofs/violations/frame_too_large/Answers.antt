use Rattle.std.proofs.Common.{◌≤◌, ◌+◌, length, length-append, lit<, arith}
use Rattle.std.specs.Fmt.{decimal}
use Rattle.std.proofs.lemmas.Fmt.{length-decimal-le}
use Rattle.amqp_violations.proofs.violations.frame_too_large.Goals as goal

pub hard_error-requires-clause-text : goal.hard_error-requires-clause-text
hard_error-requires-clause-text c =
    let short : length (decimal (c.args.size + 8)) ≤ 20 = length-decimal-le 20 (c.args.size + 8) (lit< tt) (omega arith) (omega arith) in
    rw c.in_ok-format.ensures.ok (simp length-append (omega arith))
