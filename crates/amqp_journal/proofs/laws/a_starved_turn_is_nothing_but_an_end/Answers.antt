use Rattle.amqp_journal.proofs.Starving.{starved-is}
use Rattle.amqp_journal.proofs.laws.a_starved_turn_is_nothing_but_an_end.Goals as goal

pub returns : goal.returns
returns c = starved-is
