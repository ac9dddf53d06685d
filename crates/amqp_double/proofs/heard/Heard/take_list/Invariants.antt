use Rattle.amqp_double.proofs.Taking.{TakenSoFar}
use Rattle.amqp_double.proofs.heard.Heard.take_list.Given as goal

abbrev pub invariant-loop-next : goal.invariant-loop-next
invariant-loop-next l = TakenSoFar l.fn.self l.self l.list l.next-index
