use Rattle.amqp_journal.specs.Journal.{turn_in}
use Rattle.amqp_journal.proofs.Journal.{stands-sound, stands-asked, stands-config, stands-grown, stands-applied}
use Rattle.amqp_journal.proofs.laws.what_stands_there.Goals as goal

pub returns : goal.returns
returns c =
    record {
      sound = λ base x js h s. stands-sound base js x h s;
      asked = λ base x js h. stands-asked base js x h;
      config = λ base x js h. stands-config base js x h;
      grown = λ base x js h. stands-grown base js x h;
      may = λ base x js u h m. stands-applied base js x h (turn_in u) m;
    }
