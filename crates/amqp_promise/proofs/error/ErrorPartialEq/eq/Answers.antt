use Rattle.amqp_promise.proofs.Same.{ErrorKind_decides}
use Rattle.amqp_promise.proofs.error.ErrorPartialEq.eq.Goals as goal

pub returns-clause-equal : goal.returns-clause-equal
returns-clause-equal c =
    rw (c.eq.ensures, c.self.view_is, c.other.view_is) (ErrorKind_decides c.args.self.now c.args.other.now)
