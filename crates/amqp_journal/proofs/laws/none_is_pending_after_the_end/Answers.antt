use Rattle.amqp_journal.proofs.Journal.{stands-gone, stands-answered}
use Rattle.amqp_journal.proofs.laws.none_is_pending_after_the_end.Goals as goal

pub returns : goal.returns
returns c =
    record {
      gone = λ base x js n h gone. stands-gone base js x h n gone;
      answered = λ base x js n h over below. stands-answered base js x h n over below;
    }
