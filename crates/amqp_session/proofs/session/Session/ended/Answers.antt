use Rattle.std.proofs.Common.{rules}
use Rattle.amqp_promise.specs.declared.error.ErrorKind.TheVariants.{ProtocolError}
use Rattle.amqp_rules.specs.Talk.{end_of}
use Rattle.amqp_rules.specs.Answers.{IsFailed}
use Rattle.amqp_types.proofs.Small.{on-err}
use Rattle.amqp_session.proofs.session.Session.ended.Goals as goal

pub returns-in_err-copy-in-Some-WithError-clause-refused : goal.returns-in_err-copy-in-Some-WithError-clause-refused
returns-in_err-copy-in-Some-WithError-clause-refused c =
    let failed : IsFailed (end_of c.args.self.now) = (ProtocolError c.in-Some-WithError.error, search rules) in
    on-err _ failed
