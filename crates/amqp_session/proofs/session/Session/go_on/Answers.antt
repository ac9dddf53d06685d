use Rattle.amqp_rules.specs.Ticks.{secret_questions}
use Rattle.amqp_session.specs.Provided.{validity_answers}
use Rattle.amqp_types.proofs.Small.{on-err}
use Rattle.amqp_rules.proofs.Hearing.{asked-all}
use Rattle.amqp_session.proofs.session.Session.go_on.Goals as goal

pub returns-clause-unanswered : goal.returns-clause-unanswered
returns-clause-unanswered g c =
    on-err c.due.result
    (asked-all secret_questions (validity_answers c.in_ok-validity.validity) (g.A.AuthProvider.allows c.args.provider.now) (g.A.AuthProvider.allows c.ask_validity.new.provider)
    c.args.self.now c.args.auths.now.list c.ask_validity.new.auths.list c.in_ok-validity.ensures.ok)
