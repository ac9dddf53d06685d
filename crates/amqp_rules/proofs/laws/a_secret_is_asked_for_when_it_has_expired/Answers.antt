use Rattle.amqp_rules.proofs.Secrets.{asks-expired, keeps-secret}
use Rattle.amqp_rules.proofs.laws.a_secret_is_asked_for_when_it_has_expired.Goals as goal

pub returns-clause-asked : goal.returns-clause-asked
returns-clause-asked c = λ answers t h. asks-expired answers t h

pub returns-clause-moment : goal.returns-clause-moment
returns-clause-moment c = λ t. keeps-secret t
