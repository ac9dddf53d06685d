use Rattle.amqp_joined.proofs.Stories.{wrote_whole}
use Rattle.amqp_joined.proofs.joined_port.JoinedPortPort.write.Goals as goal

pub invariant_of-self : goal.invariant_of-self
invariant_of-self c = wrote_whole c.self.inside.inside c.write.new.self _ _ c.self.invariant c.write.ensures
