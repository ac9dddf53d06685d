use Rattle.amqp_outcome_rules.proofs.Ended.{ends-closed, known-first, remembers-close, stays-known}
use Rattle.amqp_outcome_rules.proofs.laws.a_session_closes_for_its_cause.Goals as goal

pub returns : goal.returns
returns c = record { ends = ends-closed; remembers = remembers-close; first = known-first; stays = stays-known }
