-- The copies so far.
use Rattle.std.proofs.Common.{◌≡◌, take}
use Rattle.amqp_auth.proofs.auth_list.AuthList.try_clone.Given as goal

abbrev pub invariant-loop-asked : goal.invariant-loop-asked
invariant-loop-asked l = l.list.items ≡ take l.asked-index l.self.list
