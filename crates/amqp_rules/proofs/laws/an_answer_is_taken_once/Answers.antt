use Rattle.amqp_rules.proofs.Taking.{taken-once, unmade-none}
use Rattle.amqp_rules.proofs.laws.an_answer_is_taken_once.Goals as goal

pub returns : goal.returns
returns c =
    record {
      once = λ number t sound. taken-once number t sound.promises.0;
      unmade = λ number t sound le. unmade-none number t sound.promises.1 le;
    }
