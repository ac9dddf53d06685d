use Rattle.amqp_rules.proofs.OpenedBy.{names-answer}
use Rattle.amqp_rules.proofs.laws.a_channel_names_what_opened_it.Goals as goal

pub returns : goal.returns
returns c =
    record {
      answer = λ number id opened t sound is. names-answer number id opened t sound.answers is;
      made = λ n number t sound is. sound.channels.opened n number is;
      once = λ m n number t sound first second. sound.channels.once m n number first second;
    }
