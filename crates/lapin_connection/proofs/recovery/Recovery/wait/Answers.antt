use Rattle.std.proofs.Common.{subst}
use Rattle.amqp_locked.specs.Recovering.{FoundOf}
use Rattle.lapin_connection.proofs.recovery.Recovery.wait.Goals as goal

pub returns-in-Some-found-clause-found : goal.returns-in-Some-found-clause-found
returns-in-Some-found-clause-found g c = (
  c.deref-in-loop.result.now.hub.engine.talk,
  subst (FoundOf c.deref-in-loop.result.now.hub.engine.talk c.args.self.channel c.args.self.error) c.in-Some-found.is c.found.ensures,
)
