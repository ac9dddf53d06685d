use Rattle.lapin_connection.proofs.recovery.Recovery.try_wait.Goals as goal

pub returns-clause-found : goal.returns-clause-found
returns-clause-found g c = (c.deref-2.result.now.hub.engine.talk, c.found.ensures)
