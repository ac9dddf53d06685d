use Rattle.lapin_connection.proofs.shared.Shared.lend.Goals as goal

pub returns : goal.returns
returns g c = (c.deref_mut.result.now.hub, c.lend-given.new.self.hub, c.lend-given.ensures.given, c.lend-given.ensures.goes_on)
