use Rattle.amqp_journal.proofs.Left.{left-gives, left-waits}
use Rattle.amqp_journal.proofs.laws.answers_are_those_of_the_journal.Goals as goal

pub returns : goal.returns
returns c = record { given = left-gives; waits = left-waits }
