use Rattle.std.proofs.Common.{◌≡◌, rules}
use Rattle.amqp_joining.specs.Plans.{join_plan_of}
use Rattle.amqp_joined.specs.Insides.{joined_state_of, Holds}
use Rattle.amqp_joined.specs.Ports.{joined_new}
use Rattle.amqp_joined.proofs.Stories.{begun_whole}
use Rattle.amqp_joined.proofs.joined_port.JoinedPort.new.Goals as goal

pub invariant_of-result : goal.invariant_of-result
invariant_of-result c =
    let holds : Holds c.begun-inside.result = search rules in
    let state : joined_state_of c.begun-inside.result ≡ joined_new c.args.double (join_plan_of c.args.plan) = search rules in
    begun_whole c.begun-inside.result c.args.double (join_plan_of c.args.plan) holds c.requires.double state
