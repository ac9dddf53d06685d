use Rattle.amqp_journal.proofs.Endings.{stands-ended}
use Rattle.amqp_journal.proofs.laws.an_end_was_brought_by_a_turn.Goals as goal

pub returns : goal.returns
returns c = stands-ended
