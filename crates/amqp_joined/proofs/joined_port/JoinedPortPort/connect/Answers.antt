use Rattle.amqp_joined.proofs.Stories.{asked_whole}
use Rattle.amqp_joined.proofs.joined_port.JoinedPortPort.connect.Goals as goal

pub invariant_of-self : goal.invariant_of-self
invariant_of-self c = asked_whole c.self.inside.inside c.ask.new.self c.self.invariant c.ask.ensures
