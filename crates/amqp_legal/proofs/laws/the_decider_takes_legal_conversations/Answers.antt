use Rattle.amqp_legal.proofs.TakenIsLegal.{sound}
use Rattle.amqp_legal.proofs.LegalIsTaken.{complete}
use Rattle.amqp_legal.proofs.laws.the_decider_takes_legal_conversations.Goals as goal

pub returns-clause-sound : goal.returns-clause-sound
returns-clause-sound c = sound

pub returns-clause-complete : goal.returns-clause-complete
returns-clause-complete c = complete
