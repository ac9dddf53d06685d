use Rattle.amqp_socket.proofs.Told.{told-standing, told-cause}
use Rattle.amqp_socket.proofs.watch.is_told_as_it_is.Goals as goal

pub returns-clause-standing : goal.returns-clause-standing
returns-clause-standing c = told-standing c.args.standing

pub returns-clause-cause : goal.returns-clause-cause
returns-clause-cause c = told-cause c.args.cause
