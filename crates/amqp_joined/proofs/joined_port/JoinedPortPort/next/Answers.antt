use Rattle.amqp_joined.proofs.Stories.{told_whole}
use Rattle.amqp_joined.proofs.joined_port.JoinedPortPort.next.Goals as goal

pub invariant_of-self : goal.invariant_of-self
invariant_of-self c = told_whole c.self.inside.inside c.next.new.self _ _ c.self.invariant c.next.ensures.tells
