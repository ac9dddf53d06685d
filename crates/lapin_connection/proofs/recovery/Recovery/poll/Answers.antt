use Rattle.lapin_connection.proofs.Told.{told}
use Rattle.lapin_connection.proofs.recovery.Recovery.poll.Goals as goal

pub returns-clause-found : goal.returns-clause-found
returns-clause-found g c = (c.deref_mut.result.now.hub.engine.talk, c.found_or_register.ensures.found)

pub returns-clause-error : goal.returns-clause-error
returns-clause-error g c =
    told c.deref_mut.result.now.hub.engine.talk c.args.self.now.channel c.args.self.now.error c.found_or_register.result c.found_or_register.ensures.found
