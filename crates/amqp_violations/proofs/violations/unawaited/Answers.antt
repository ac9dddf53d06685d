use Rattle.std.proofs.Common.{◌≤◌, length, length-append, lit<, arith}
use Rattle.std.specs.Fmt.{decimal}
use Rattle.std.proofs.lemmas.Fmt.{length-decimal-le}
use Rattle.amqp_violations.proofs.violations.unawaited.Goals as goal

pub hard_error-requires-clause-text : goal.hard_error-requires-clause-text
hard_error-requires-clause-text c =
    let short : length (decimal c.args.channel) ≤ 20 = length-decimal-le 20 c.args.channel (lit< tt) (omega arith) (omega arith) in
    rw c.in_ok-format.ensures.ok (simp length-append (omega (arith, c.method_name-name.ensures.short)))
