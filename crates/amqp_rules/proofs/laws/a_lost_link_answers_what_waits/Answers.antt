use Rattle.amqp_rules.proofs.LostLinks.{misread-ends, lost-ends, silence-ends, lose-answers, lose-stays, lose-waits}
use Rattle.amqp_rules.proofs.laws.a_lost_link_answers_what_waits.Goals as goal

pub returns : goal.returns
returns c =
    record { misread = misread-ends; lost = lost-ends; silence = silence-ends; answered = lose-answers; stays = lose-stays; waits = lose-waits }
