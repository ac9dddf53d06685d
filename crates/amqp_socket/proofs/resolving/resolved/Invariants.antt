use Rattle.std.specs.Prelude.{All}
use Rattle.amqp_socket.specs.Resolved.{IsAt}
use Rattle.amqp_socket.proofs.resolving.resolved.Given as goal

-- what was found so far are addresses as the one that is looked up, but for their hosts
abbrev pub invariant-found : goal.invariant-found
invariant-found g l = All (IsAt l.fn.uri) l.uris.items
