use Rattle.std.proofs.Common.{◌≤◌, drop, ap, ◌∙◌, arith}
use Rattle.amqp_socket.proofs.Giving.{left-over}
use Rattle.amqp_socket.proofs.held.Held.give.Goals as goal

-- what is left begins where what was given ends
pub returns-clause-left : goal.returns-clause-left
returns-clause-left c =
    let some : c.min-n.result ≤ c.self.inside.kept = omega (arith, c.min-n.ensures) in
    left-over c.self.inside.octets.items c.self.inside.from c.self.inside.kept c.min-n.result some
    ∙ ap (drop c.min-n.result) c.self.view_is
