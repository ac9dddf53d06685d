use Rattle.amqp_queued_rules.proofs.Unchallenging.{start-unchallenged, stays-unchallenged}
use Rattle.amqp_queued_rules.proofs.laws.a_secure_ok_answers_a_challenge.Goals as goal

pub returns : goal.returns
returns c = record { first = start-unchallenged; stays = stays-unchallenged }
